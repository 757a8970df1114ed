use Rattle.std.proofs.Common.{◌≡◌, ◌+◌, ◌<◌, ℕ, suc, Bool, true, false, List, [], ◌∷◌, Option, Some, None, length, map, bytes_eq}
use Rattle.std.proofs.Common.{refl, sym, ap, subst}
use Rattle.std.proofs.Common.{◌∙◌, ap₂, nat_eq, arith}
use Rattle.std.specs.FinMap.{get}
use Rattle.std.specs.List.{AllByRecursion, AllZip, ends_with}
use Rattle.std.specs.Option.{unwrap_or}
use Rattle.bi_base.specs.declared.fault.Error.TheVariants as error
use Rattle.bi_base.specs.Limits.{Limits}
use Rattle.bi_blob.specs.Lookups.{Sibling, siblings, node_named}
use Rattle.bi_blob.specs.Tree.{FileNode, PropertyMap}
use Rattle.bi_fit.specs.declared.configurations.ConfigError.{ConfigError}
use Rattle.bi_fit.specs.declared.configurations.ConfigError.TheVariants as list
use Rattle.bi_fit.specs.declared.key.Key.{Key}
use Rattle.bi_fit.specs.Content.{FitModel, ImageModel, IsHeld, IsReadImage, index_from, payloads_of_models, tree_of}
use Rattle.bi_fit.specs.HashNodes.{file_images}
use Rattle.bi_fit.specs.ImageTree.{ImageTree}
use Rattle.bi_fit.specs.Judgement.{Image, images_of, images_with, image_named, list_images, listed_at, listed_from, listed_of}
use Rattle.bi_fit.specs.Judgement.{listed_names, listed_under, ListedImage, ListedImages, ListResult, NoConfig, NoKey, BadList, Missing}
use Rattle.bi_fit.specs.Judgement.{configuration_nodes}
use Rattle.bi_fit.specs.JudgementCalls.{IsListError}
use Rattle.bi_fit.specs.Names.{key_name}
use Rattle.bi_fit.specs.Reading.{IsFitReadError, IsReadFit}
use Rattle.bi_fit.proofs.FileNodes.{bare_image, image_siblings}
use Rattle.bi_c.proofs.FitFiles.{means_within, read_needs_memory}
use Rattle.bi_c.specs.declared.failure.Failure.{Failure}
use Rattle.bi_c.specs.declared.failure.Failure.TheVariants.{NotFound, OutOfMemory, Refused, WrongArgument}
use Rattle.bi_c.specs.Arguments.{bounds, key_of, HasKey}
use Rattle.bi_c.specs.FitElements.{AreReadIndices, AreImageIndices, IsListFailure, IsListReason}
use Rattle.bi_c.specs.FitElements.{IsListRefusal, failure_of_list_error, index_among, index_of_first, index_of_listed, tree_image_names}

-- The indices of listed images are those of the images with their names in the tree.

-- The index of the first image with a name is found by counting from a number on.
same_index : (file : List ℕ) (entries : List (Sibling FileNode)) (images : List ImageModel) (from : ℕ) (name : List ℕ) →
    AllZip (IsReadImage file) entries images →
    unwrap_or (index_from from name images) (from + length images)
    ≡ from + index_of_first name (tree_image_names (images_with (map bare_image entries) (payloads_of_models images)))
same_index file [] [] from name read = refl
same_index file [] (image ∷ images) from name read = absurd read
same_index file (entry ∷ entries) [] from name read = absurd read
same_index file (entry ∷ entries) (image ∷ images) from name read =
    by (same_index file entries images (from + 1) name read.1) (bytes_eq image.name name) refl
  where
    same : bytes_eq entry.name name ≡ bytes_eq image.name name
    same = ap (λ it. bytes_eq it name) (sym read.0.name)

    by : unwrap_or (index_from (from + 1) name images) (from + 1 + length images)
        ≡ from + 1 + index_of_first name (tree_image_names (images_with (map bare_image entries) (payloads_of_models images))) →
        (found : Bool) → bytes_eq image.name name ≡ found →
        unwrap_or (index_from from name (image ∷ images)) (from + length (image ∷ images))
        ≡ from
        + index_of_first name (tree_image_names (images_with (map bare_image (entry ∷ entries)) (payloads_of_models (image ∷ images))))
    by more true is = rw (is, same ∙ is) (omega arith)
    by more false is =
        let later = index_of_first name (tree_image_names (images_with (map bare_image entries) (payloads_of_models images))) in
        let most : from + 1 + length images ≡ from + suc (length images) = omega arith in
        let counted : from + 1 + later ≡ from + (later + 1) = omega arith in
        rw (is, same ∙ is) (ap (unwrap_or (index_from (from + 1) name images)) (sym most)
        ∙ more ∙ counted)

-- An image that was read has the same index as its image of the tree.
pub index_in_tree : (content : FitModel) → IsHeld content → (listed : ListedImage) →
    index_among content listed ≡ index_of_listed (tree_of content) listed
index_in_tree content held listed =
    let entries = map bare_image (siblings (file_images content.blob)) in
    let payloads = payloads_of_models content.images in
    let index = index_of_first listed.name (tree_image_names (images_with entries payloads)) in
    let most : length content.images ≡ 0 + length content.images = omega arith in
    let counted : 0 + index ≡ index = omega arith in
    ap (unwrap_or (index_from 0 listed.name content.images)) most
    ∙ same_index content.blob.file (siblings (file_images content.blob)) content.images 0 listed.name held.images
    ∙ counted
    ∙ ap (λ (them : List (Sibling PropertyMap)). index_of_first listed.name (tree_image_names (images_with them payloads)))
    (sym (image_siblings content))

pub indices_in_tree : (content : FitModel) → IsHeld content → (listed : List ListedImage) →
    map (index_among content) listed ≡ map (index_of_listed (tree_of content)) listed
indices_in_tree content held [] = refl
indices_in_tree content held (first ∷ later) = ap₂ (λ one them. one ∷ them) (index_in_tree content held first)
    (indices_in_tree content held later)

-- An image with a name has an index.
found_within : (images : List Image) (name : List ℕ) (image : Image) → image_named name images ≡ Some image →
    index_of_first name (tree_image_names images) < length images
found_within [] name image is = absurd cc
found_within (first ∷ later) name image is = by (bytes_eq first.entry.name name) refl is (found_within later name image)
  where
    by : (found : Bool) → bytes_eq first.entry.name name ≡ found → image_named name (first ∷ later) ≡ Some image →
        (image_named name later ≡ Some image → index_of_first name (tree_image_names later) < length later) →
        index_of_first name (tree_image_names (first ∷ later)) < length (first ∷ later)
    by true found is more = rw found (omega arith)
    by false found is more = rw found (let within = more (rw found at is) in omega (arith, within))

-- If one configuration lists images in two ways, both lists are equal.
pub same_listed : (one other : List ListedImage) → ListedImages one ≡ ListedImages other → one ≡ other
same_listed one other is = cc

-- Each listed image has an index.
abbrev pub HaveImages : List Image → List ListedImage → Type 0
HaveImages images listed =
    AllByRecursion (λ (one : ListedImage). index_of_first one.name (tree_image_names images) < length images) listed

more_within : (images : List Image) (index : ℕ) (name : List ℕ) (rest : ListResult) (listed : List ListedImage) →
    ((later : List ListedImage) → rest ≡ ListedImages later → HaveImages images later) →
    (found : Option Image) → image_named name images ≡ found → listed_from index name found rest ≡ ListedImages listed →
    HaveImages images listed
more_within images index name rest listed have None is_found is = absurd cc
more_within images index name (ListedImages later) listed have (Some image) is_found is =
    subst (HaveImages images) (same_listed _ _ is) (found_within images name image is_found, have later refl)
more_within images index name NoConfig listed have (Some image) is_found is = absurd cc
more_within images index name NoKey listed have (Some image) is_found is = absurd cc
more_within images index name BadList listed have (Some image) is_found is = absurd cc
more_within images index name (Missing missing) listed have (Some image) is_found is = absurd cc

names_within : (images : List Image) (index : ℕ) (names : List (List ℕ)) (listed : List ListedImage) →
    list_images images index names ≡ ListedImages listed → HaveImages images listed
names_within images index [] listed is = subst (HaveImages images) (same_listed _ _ is) tt
names_within images index (name ∷ later) listed is =
    more_within images index name (list_images images (index + 1) later) listed (names_within images (index + 1) later)
    (image_named name images) refl is

pub listed_within : (tree : ImageTree) (name : List ℕ) (key : Key) (listed : List ListedImage) →
    listed_of tree name key ≡ ListedImages listed → HaveImages (images_of tree) listed
listed_within tree name key listed is = by_node (node_named (configuration_nodes tree) name) is
  where
    by_value : (value : Option (List ℕ)) → listed_at (images_of tree) value ≡ ListedImages listed → HaveImages (images_of tree) listed
    by_value None is = absurd cc
    by_value (Some value) is = by_end (ends_with nat_eq value (0 ∷ [])) refl
      where
        by_end : (ends : Bool) → ends_with nat_eq value (0 ∷ []) ≡ ends → HaveImages (images_of tree) listed
        by_end true ends = names_within (images_of tree) 0 (listed_names value) listed (rw ends at is)
        by_end false ends = absurd (let e : BadList ≡ ListedImages listed = rw ends at is in cc)

    by_node : (node : Option (Sibling PropertyMap)) → listed_under (images_of tree) node key ≡ ListedImages listed →
        HaveImages (images_of tree) listed
    by_node None is = absurd cc
    by_node (Some node) is = by_value (get node.own (key_name key)) is

-- An error of listing images becomes the failure of the call.
pub list_refusal : (content : FitModel) (name : List ℕ) (key : Key) (cause : ConfigError) (failure : Failure) →
    failure ≡ failure_of_list_error cause → IsListError (listed_of (tree_of content) name key) cause →
    IsListRefusal content name key failure
list_refusal content name key cause failure same is = subst (IsListRefusal content name key) (sym same) (by cause is)
  where
    by : (cause : ConfigError) → IsListError (listed_of (tree_of content) name key) cause →
        IsListRefusal content name key (failure_of_list_error cause)
    by list.NoConfig is = rw is (refl, refl)
    by list.NoKey is = rw is (refl, refl)
    by list.BadList is = rw is (refl, refl)
    by (list.Missing index) is = rw is (refl, refl)
    by list.OutOfMemory is = tt

-- The same holds of the indices.
each_index : (tree : ImageTree) (listed : List ListedImage) → HaveImages (images_of tree) listed →
    AllByRecursion (λ (index : ℕ). index < length (images_of tree)) (map (index_of_listed tree) listed)
each_index tree [] within = tt
each_index tree (first ∷ later) within = (within.0, each_index tree later within.1)

-- If the numbers of a call are valid, the call lists what the file lists,
pub listed_as : (limit depth number : ℕ) (file name : List ℕ) (limits : Limits) (key : Key) (content : FitModel)
    → HasKey limit depth number → limits ≡ bounds limit depth → key ≡ key_of number → IsReadFit limits file content
    → (indices : List ℕ) (value : ℕ) → AreReadIndices content name key indices value
    → AreImageIndices limit depth number file name indices value
listed_as limit depth number file name limits key content valid same_limits same_key read indices value is =
    let tree = tree_of content in
    let same = is.are_indices ∙ indices_in_tree content read.held is.listed in
    record {
      arguments = valid;
      tree = tree;
      means = means_within limit depth file limits content same_limits read;
      listed = is.listed;
      is_listed = subst (λ (k : Key). listed_of tree name k ≡ ListedImages is.listed) same_key is.is_listed;
      are_indices = same;
      within = subst (AllByRecursion (λ (index : ℕ). index < length (images_of tree))) (sym same)
          (each_index tree is.listed (listed_within tree name key is.listed is.is_listed));
      no_value = is.no_value;
    }

-- or it fails as listing fails.
pub not_listed : (limit depth number : ℕ) (file name : List ℕ) (limits : Limits) (key : Key) (content : FitModel)
    → HasKey limit depth number → limits ≡ bounds limit depth → key ≡ key_of number → IsReadFit limits file content
    → (failure : Failure) → IsListRefusal content name key failure → IsListFailure limit depth number file name failure
not_listed limit depth number file name limits key content valid same_limits same_key read (NotFound reason index) is = (
  valid,
  record {
    tree = tree_of content;
    means = means_within limit depth file limits content same_limits read;
    is_reason = subst (λ (k : Key). IsListReason reason index (listed_of (tree_of content) name k)) same_key is;
  },
)
not_listed limit depth number file name limits key content valid same_limits same_key read OutOfMemory is =
    (valid, subst (λ (l : Limits). IsFitReadError l file error.OutOfMemory) same_limits (read_needs_memory limits file content read))
not_listed limit depth number file name limits key content valid same_limits same_key read (WrongArgument found index) is = absurd is
not_listed limit depth number file name limits key content valid same_limits same_key read (Refused number_of_file fault) is = absurd is
