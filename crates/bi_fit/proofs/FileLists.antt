use Rattle.std.proofs.Common.{◌≡◌, ℕ, suc, ◌+◌, ◌≤◌, Bool, true, false, ◌==◌, List, [], ◌∷◌, ◌++◌, length, drop, map, Option, Some, rules}
use Rattle.std.proofs.Common.{None, option_and_then, slice_get, bytes_eq, nat_eq, refl, sym, ap, subst, ◌∙◌, arith, one-add}
use Rattle.std.proofs.Common.{if◌then◌else◌, take, ◌-◌}
use Rattle.std.proofs.lemmas.Bool.{eqb-true}
use Rattle.std.proofs.lemmas.List.{length-drop, take_rest}
use Rattle.std.specs.Prelude.{Result, Ok, Err, IfErr}
use Rattle.std.specs.Result.{IsErrAnd}
use Rattle.std.specs.Option.{option_map}
use Rattle.std.specs.List.{AllZip, list_any, before_first, ends_with}
use Rattle.std.proofs.lemmas.Option.{cond_some, same_Some}
use Rattle.bi_base.specs.Strings.{text_before_nul}
use Rattle.bi_blob.specs.Tree.{FileNode}
use Rattle.bi_blob.specs.Lookups.{Sibling, node_named}
use Rattle.bi_fit.specs.declared.key.Key.{Key}
use Rattle.bi_fit.specs.Content.{FitModel, ImageModel, IsReadImage, IsHeld, tree_of, index_from, index_of}
use Rattle.bi_fit.specs.Judgement.{images_with, images_of, image_named, ListedImage, ListResult, NoConfig, BadList, Missing}
use Rattle.bi_fit.specs.Judgement.{ListedImages, with_byte, with_image, listed_names, list_images, listed_at, listed_under}
use Rattle.bi_fit.specs.Judgement.{listed_of, configuration_nodes, BeginsWithName}
use Rattle.bi_fit.specs.declared.configurations.ConfigError.{ConfigError}
use Rattle.bi_fit.specs.declared.configurations.ConfigError.TheVariants.{OutOfMemory}
use Rattle.bi_fit.specs.JudgementCalls.{ListNeedsMemory, IsListError}
use Rattle.bi_fit.specs.HashNodes.{file_configurations, payload_named, file_list}
use Rattle.bi_fit.specs.HashNodes.{file_listed_at, file_listed, with_images}
use Rattle.bi_fit.proofs.FileNodes.{bare_image, sibling_by_name, get-by_name, named-by_name, image_siblings, configuration_nodes_are}

-- Under a key, a configuration of an image tree that was read lists the images with the names of the value, or the first name that no image
-- has.

-- Whether a byte is a zero.
abbrev is_zero : ℕ → Bool
is_zero byte = byte == 0

-- A value with a zero lists the name before the first one, and what follows it.
first_name : (value : List ℕ) → list_any is_zero value ≡ true →
    listed_names value ≡ before_first is_zero value ∷ listed_names (drop (suc (length (before_first is_zero value))) value)
first_name [] some = absurd cc
first_name (byte ∷ later) some = where_first (is_zero byte) refl some (λ some. first_name later some)
  where
    where_first : (b : Bool) → is_zero byte ≡ b → list_any is_zero (byte ∷ later) ≡ true →
        (list_any is_zero later ≡ true →
        listed_names later ≡ before_first is_zero later ∷ listed_names (drop (suc (length (before_first is_zero later))) later)) →
        listed_names (byte ∷ later) ≡
        before_first is_zero (byte ∷ later) ∷ listed_names (drop (suc (length (before_first is_zero (byte ∷ later)))) (byte ∷ later))
    where_first true is some rest = rw is refl
    where_first false is some rest = rw (is, one-add) (ap (with_byte byte) (rest (rw is at some)))

-- One without lists nothing.
without_zero : (value : List ℕ) → list_any is_zero value ≡ false → listed_names value ≡ []
without_zero [] none = refl
without_zero (byte ∷ later) none = where_first (is_zero byte) refl none (λ none. without_zero later none)
  where
    where_first : (b : Bool) → is_zero byte ≡ b → list_any is_zero (byte ∷ later) ≡ false →
        (list_any is_zero later ≡ false → listed_names later ≡ []) → listed_names (byte ∷ later) ≡ []
    where_first true is none rest = absurd (let e : true ≡ false = rw is at none in cc)
    where_first false is none rest = rw is (ap (with_byte byte) (rest (rw is at none)))

-- The text before a zero is shorter.
shorter : (value : List ℕ) → list_any is_zero value ≡ true → length (before_first is_zero value) + 1 ≤ length value
shorter [] some = absurd cc
shorter (byte ∷ later) some = where_first (is_zero byte) refl some (λ some. shorter later some)
  where
    where_first : (b : Bool) → is_zero byte ≡ b → list_any is_zero (byte ∷ later) ≡ true →
        (list_any is_zero later ≡ true → length (before_first is_zero later) + 1 ≤ length later) →
        length (before_first is_zero (byte ∷ later)) + 1 ≤ length (byte ∷ later)
    where_first true is some rest = rw is (omega arith)
    where_first false is some rest =
        let few : length (before_first is_zero later) + 1 ≤ length later = rest (rw is at some) in
        rw (is, one-add) (omega arith)

-- It is that name, the zero, and what follows it.
name_and_rest : (value : List ℕ) → list_any is_zero value ≡ true →
    value ≡ before_first is_zero value ++ 0 ∷ drop (suc (length (before_first is_zero value))) value
name_and_rest [] some = absurd cc
name_and_rest (byte ∷ later) some = where_first (is_zero byte) refl some (λ some. name_and_rest later some)
  where
    where_first : (b : Bool) → is_zero byte ≡ b → list_any is_zero (byte ∷ later) ≡ true →
        (list_any is_zero later ≡ true → later ≡ before_first is_zero later ++ 0 ∷ drop (suc (length (before_first is_zero later))) later) →
        byte ∷ later ≡ before_first is_zero (byte ∷ later) ++ 0 ∷ drop (suc (length (before_first is_zero (byte ∷ later)))) (byte ∷ later)
    where_first true is some rest = rw is (ap (λ (n : ℕ). n ∷ later) (eqb-true byte 0 is))
    where_first false is some rest = rw (is, one-add) (ap (λ (l : List ℕ). byte ∷ l) (rest (rw is at some)))

pub name_then_rest : (value name : List ℕ) → text_before_nul value ≡ Some name → value ≡ name ++ 0 ∷ drop (length name + 1) value
unfolding text_before_nul
name_then_rest value name is = search (rules, cond_some, name_and_rest)

pub next_name : (value name : List ℕ) → text_before_nul value ≡ Some name →
    listed_names value ≡ name ∷ listed_names (drop (length name + 1) value)
unfolding text_before_nul
next_name value name is =
    let there = cond_some (list_any is_zero value) (before_first is_zero value) name is in
    subst (λ (text : List ℕ). listed_names value ≡ text ∷ listed_names (drop (length text + 1) value)) there.1
    (first_name value there.0 ∙ ap (λ n. before_first is_zero value ∷ listed_names (drop n value))
    (one (length (before_first is_zero value))))
  where
    one : (n : ℕ) → suc n ≡ n + 1
    one n = omega arith

pub no_listed_name : (value : List ℕ) → text_before_nul value ≡ None → listed_names value ≡ []
unfolding text_before_nul
no_listed_name value is = search (rules, without_zero)

pub name_is_shorter : (value name : List ℕ) → text_before_nul value ≡ Some name → length name + 1 ≤ length value
unfolding text_before_nul
name_is_shorter value name is = search (rules, cond_some, shorter)

-- A value begins with its first name.
pub begins_with_name : (value name : List ℕ) → text_before_nul value ≡ Some name →
    BeginsWithName value name (take (length value - (length name + 1)) (drop (length name + 1) value))
begins_with_name value name is =
    let few : length name + 1 ≤ length value = name_is_shorter value name is in
    rw take_rest (record { is = name_then_rest value name is; listed = next_name value name is; shorter = simp length-drop (omega arith) })

-- The payload at an index of images that were read.
abbrev payload_at : List ImageModel → ℕ → Option (List ℕ)
payload_at images index = option_and_then (λ image. image.payload) (slice_get images index)

module _ (name : List ℕ) where
  -- The image at the index that is found for a name is the one with this name.
  found_from : (base : ℕ) (images : List ImageModel) (index : ℕ) → index_from base name images ≡ Some index →
      (k : ℕ) × (index ≡ base + k) × (payload_named name images ≡ Some (payload_at images k))
  found_from base [] index is = absurd cc
  found_from base (image ∷ later) index is = where_first (bytes_eq image.name name) refl is (λ is. found_from (base + 1) later index is)
    where
      Found : ℕ → List ImageModel → Type 0
      Found base images = (k : ℕ) × (index ≡ base + k) × (payload_named name images ≡ Some (payload_at images k))

      where_first : (b : Bool) → bytes_eq image.name name ≡ b → index_from base name (image ∷ later) ≡ Some index →
          (index_from (base + 1) name later ≡ Some index → Found (base + 1) later) → Found base (image ∷ later)
      where_first true same is rest =
          let here : Some base ≡ Some index = rw same at is in
          let at : base ≡ index = same_Some base index here in
          (0, omega arith, rw same refl)
      where_first false other is rest =
          let found = rest (rw other at is) in
          let at : index ≡ base + 1 + found.0 = found.1 in
          (suc found.0, omega arith, rw other found.2)

  -- If none is found, no image has the name.
  missing_from : (base : ℕ) (images : List ImageModel) → index_from base name images ≡ None → payload_named name images ≡ None
  missing_from base [] is = refl
  missing_from base (image ∷ later) is = where_first (bytes_eq image.name name) refl is (λ is. missing_from (base + 1) later is)
    where
      where_first : (b : Bool) → bytes_eq image.name name ≡ b → index_from base name (image ∷ later) ≡ None →
          (index_from (base + 1) name later ≡ None → payload_named name later ≡ None) → payload_named name (image ∷ later) ≡ None
      where_first true same is rest = absurd (let e : Some base ≡ None = rw same at is in cc)
      where_first false other is rest = rw other (rest (rw other at is))

pub payload_found : (name : List ℕ) (images : List ImageModel) (index : ℕ) → index_of name images ≡ Some index →
    payload_named name images ≡ Some (payload_at images index)
payload_found name images index is = search (rules, found_from)

pub payload_named-missing : (name : List ℕ) (images : List ImageModel) → index_of name images ≡ None → payload_named name images ≡ None
payload_named-missing name images is = missing_from name 0 images is

-- One more image after others that are listed.
pub with_one_more : (images : List ListedImage) (image : ListedImage) (listed : ListResult) →
    with_images (images ++ image ∷ []) listed ≡ with_images images (with_image image listed)
with_one_more [] image listed = refl
with_one_more (first ∷ later) image listed = ap (with_image first) (with_one_more later image listed)

-- After images that are listed comes a missing one.
pub missing_after : (images : List ListedImage) (index : ℕ) → with_images images (Missing index) ≡ Missing index
missing_after [] index = refl
missing_after (first ∷ later) index = ap (with_image first) (missing_after later index)

-- Or nothing.
pub listed_all : (images : List ListedImage) → with_images images (ListedImages []) ≡ ListedImages images
listed_all [] = refl
listed_all (first ∷ later) = ap (with_image first) (listed_all later)

-- A list of names is found in memory.
pub list_needs_memory : (images : List ImageModel) (index : ℕ) (names : List (List ℕ)) → ListNeedsMemory (file_list images index names)
list_needs_memory images index [] = tt
list_needs_memory images index (name ∷ later) = search (rules, list_needs_memory images (index + 1) later)

-- What a value lists where these images were found, and the names in `rest` are left.
module _ (images : List ImageModel) (value rest : List ℕ) (done : List ListedImage) (index : ℕ)
    (so_far : file_list images 0 (listed_names value) ≡ with_images done (file_list images index (listed_names rest))) where
  -- The next name is one that no image has.
  pub next_is_missing : (name later : List ℕ) → BeginsWithName rest name later → index_of name images ≡ None →
      file_list images 0 (listed_names value) ≡ Missing index
  next_is_missing name later begins none = search (rules, payload_named-missing, missing_after)

  -- The next image is found.
  pub next_is_found : (name later : List ℕ) (found : ℕ) (payload : Option (List ℕ)) → BeginsWithName rest name later →
      index_of name images ≡ Some found → payload ≡ payload_at images found →
      file_list images 0 (listed_names value)
      ≡ with_images (done ++ record { name = name; payload = payload } ∷ []) (file_list images (index + 1) (listed_names later))
  next_is_found name later found payload begins there is = search (rules, payload_found, with_one_more)

  -- No name is left.
  pub none_is_left : listed_names rest ≡ [] → file_list images 0 (listed_names value) ≡ ListedImages done
  none_is_left none =
      so_far ∙ ap (λ names. with_images done (file_list images index names)) none ∙ listed_all done

-- Memory runs out only where a list was read.
pub list_out_of_memory : {T : Type 0} (result : Result T ConfigError) (images : List ImageModel) (names : List (List ℕ)) →
    IsErrAnd result (λ error. error ≡ OutOfMemory) → IfErr result (IsListError (file_list images 0 names))
list_out_of_memory (Ok listed) images names is = tt
list_out_of_memory (Err error) images names is =
    subst (IsListError (file_list images 0 names)) (sym is) (list_needs_memory images 0 names)

-- The image of a name has the same payload in the tree.
payload_same : (name file : List ℕ) (entries : List (Sibling FileNode)) (images : List ImageModel) →
    AllZip (IsReadImage file) entries images →
    option_map (λ image. image.payload) (image_named name (images_with (map bare_image entries) (map (λ image. image.payload) images)))
    ≡ payload_named name images
payload_same name file [] [] read = refl
payload_same name file [] (image ∷ images) read = absurd read
payload_same name file (entry ∷ entries) [] read = absurd read
payload_same name file (entry ∷ entries) (image ∷ images) read = search (rules, payload_same name file entries images read.1)

module _ (content : FitModel) (held : IsHeld content) where
  payload_in_tree : (name : List ℕ) →
      option_map (λ image. image.payload) (image_named name (images_of (tree_of content))) ≡ payload_named name content.images
  payload_in_tree name = search (rules, image_siblings, payload_same)

  -- So names list the same images.
  list_in_tree : (index : ℕ) (names : List (List ℕ)) →
      list_images (images_of (tree_of content)) index names ≡ file_list content.images index names
  list_in_tree index [] = refl
  list_in_tree index (name ∷ later) = search (rules, payload_in_tree, list_in_tree (index + 1) later)

  -- And so does the value of a key.
  value_in_tree : (value : Option (List ℕ)) → listed_at (images_of (tree_of content)) value ≡ file_listed_at content.images value
  value_in_tree None = refl
  value_in_tree (Some value) =
      ap (λ (listed : ListResult). if ends_with nat_eq value (0 ∷ []) then listed else BadList) (list_in_tree 0 (listed_names value))

  -- The node of a name in the tree.
  named_in_tree : (name : List ℕ) →
      node_named (configuration_nodes (tree_of content)) name
      ≡ option_map sibling_by_name (node_named (file_configurations content.blob) name)
  named_in_tree name = search (rules, configuration_nodes_are, named-by_name)

  -- What a configuration lists under a key.
  pub listed_is : (name : List ℕ) (entry : Sibling FileNode) (key : Key) → node_named (file_configurations content.blob) name ≡ Some entry →
      listed_of (tree_of content) name key ≡ file_listed content.images entry key
  listed_is name entry key there = search (rules, named_in_tree, get-by_name, value_in_tree)

  -- No configuration has another name.
  pub nothing_listed : (name : List ℕ) (key : Key) → node_named (file_configurations content.blob) name ≡ None →
      listed_of (tree_of content) name key ≡ NoConfig
  nothing_listed name key none =
      ap (λ found. listed_under (images_of (tree_of content)) found key) (named_in_tree name ∙ ap (option_map sibling_by_name) none)
