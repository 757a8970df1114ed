use Rattle.std.proofs.Common.{◌≡◌, ◌<◌, ℕ, zero, suc, ◌+◌, ◌*◌, List, [], ◌∷◌, Bor, map, length, get_or, slice_get}
use Rattle.std.proofs.Common.{◌||◌, Bool, true, false, true≢false, filter, Some, refl, sym, ap, ◌∙◌, arith}
use Rattle.std.specs.Global.{Vec}
use Rattle.std.specs.List.{list_any}
use Rattle.std.proofs.lemmas.List.{length-map}
use Rattle.std.proofs.lemmas.Option.{same_Some}
use Rattle.bi_base.specs.Slices.{bytes_of}
use Rattle.bi_blob.specs.Lookups.{Sibling, siblings}
use Rattle.bi_blob.specs.Tree.{FileNode, PropertyMap}
use Rattle.bi_fdt.specs.declared.node.NodeRef.{NodeRef}
use Rattle.bi_fit.specs.Content.{FitModel, IsHeld, tree_of, index_of}
use Rattle.bi_fit.specs.ImageTree.{ImageTree}
use Rattle.bi_coverage.specs.Coverage.{ConfigurationCoverage, SignatureCoverage, configuration_coverage, signature_coverage, signature_with}
use Rattle.bi_coverage.specs.IndexedFits.{covered_by_images}
use Rattle.bi_coverage.specs.Numbers.{sum_of}
use Rattle.bi_coverage.specs.Signatures.{NeededPart, covered_below, needed_lengths, needed_parts, needed_paths, parts_for, paths_of_parts}
use Rattle.bi_coverage.specs.Signatures.{is_signed, references, signed_nodes, total_length}
use Rattle.bi_coverage.specs.Values.{meaning_of_node, meaning_of_sibling, names_in_lists}
use Rattle.bi_coverage.proofs.FoundNodes.{within_from_get}
use Rattle.bi_coverage.proofs.Meanings.{covered_at}
use Rattle.bi_coverage.proofs.NeededLengths.{sum_of_times}

-- The signed nodes of a configuration.

module _ (tree : ImageTree) (configuration : Sibling PropertyMap) (signed : List NodeRef)
    (are : map meaning_of_node signed ≡ signed_nodes configuration) where
  how_many : length signed ≡ length (signed_nodes configuration)
  how_many = sym (simp length-map) ∙ ap length are

  -- The lengths of what each of them needs.
  pub needed_sum : (each : ℕ) → each ≡ total_length (needed_paths tree configuration) →
      length signed * each ≡ sum_of (needed_lengths tree configuration)
  needed_sum each is =
      ap (λ n. n * each) how_many ∙ ap (λ n. length (signed_nodes configuration) * n) is
      ∙ sym (sum_of_times (total_length (needed_paths tree configuration)) (signed_nodes configuration))

  -- They are too long as soon as those of one are.
  pub needed_once : (limit sum : ℕ) → 0 < length signed → limit < total_length (needed_paths tree configuration) →
      limit < sum + sum_of (needed_lengths tree configuration)
  needed_once limit sum some more = by (signed_nodes configuration) refl
    where
      by : (nodes : List (Sibling PropertyMap)) → signed_nodes configuration ≡ nodes →
          limit < sum + sum_of (needed_lengths tree configuration)
      by [] is = absurd (omega (arith, some, how_many, ap length is))
      by (first ∷ later) is =
          let each = total_length (needed_paths tree configuration) in
          let all : sum_of (needed_lengths tree configuration)
          ≡ each + sum_of (map (λ (signature : Sibling PropertyMap). each) later) =
          ap (λ nodes. sum_of (map (λ (signature : Sibling PropertyMap). each) nodes)) is in
          omega (arith, all, more)

  -- There may be none.
  pub nothing_signed : length signed ≡ 0 → signed_nodes configuration ≡ []
  nothing_signed is = by (signed_nodes configuration) refl
    where
      by : (nodes : List (Sibling PropertyMap)) → signed_nodes configuration ≡ nodes → signed_nodes configuration ≡ []
      by [] none = none
      by (first ∷ later) some = absurd (omega (arith, is, how_many, ap length some))

-- The thing at an index of a mapped list.
get_mapped : {X Y : Type 0} (f : X → Y) (things : List X) (index : ℕ) (thing : X) → index < length things →
    slice_get (map f things) index ≡ Some (f (get_or things index thing))
get_mapped f [] index thing within = absurd (omega arith)
get_mapped f (first ∷ later) zero thing within = refl
get_mapped f (first ∷ later) (suc index) thing within = get_mapped f later index thing (omega arith)

module _ (content : FitModel) (held : IsHeld content) (lists : List (Vec (Bor (List ℕ))))
    (are : names_in_lists lists ≡ covered_by_images content)
    (name : List ℕ) (index : ℕ) (is : index_of name content.images ≡ Some index) where
  there : slice_get (names_in_lists lists) index ≡ Some (covered_below (tree_of content) name)
  there = ap (λ l. slice_get l index) are ∙ covered_at content held name index is

  -- There is a list for each image.
  pub covered_within : index < length lists
  covered_within =
      let within = within_from_get (names_in_lists lists) index (covered_below (tree_of content) name) there in
      let same : length (names_in_lists lists) ≡ length lists = simp length-map in
      omega (arith, within, same)

  -- It has what must be covered of the image.
  pub covered_list : (list : Vec (Bor (List ℕ))) → list ≡ get_or lists index list →
      bytes_of list.items ≡ covered_below (tree_of content) name
  covered_list list here =
      ap (λ (list : Vec (Bor (List ℕ))). bytes_of list.items) here
      ∙ same_Some _ _ (sym (get_mapped (λ (list : Vec (Bor (List ℕ))). bytes_of list.items) lists index list covered_within) ∙ there)

-- What is known of a configuration, by its parts.
pub coverage_read : (content : FitModel) (configuration : Sibling PropertyMap) (name : List ℕ) (signed : List NodeRef)
    (names : List (List ℕ)) (parts : List NeededPart) (signatures : List SignatureCoverage) → name ≡ configuration.name →
    map meaning_of_node signed ≡ signed_nodes configuration → names ≡ references (tree_of content) configuration →
    parts ≡ parts_for (tree_of content) name names →
    signatures ≡ map (signature_with content names parts) (map meaning_of_node signed) →
    record { name = name; signatures = signatures } ≡ configuration_coverage content configuration
coverage_read content configuration name signed names parts signatures is_name are_signed are_names are_parts are =
    let tree = tree_of content in
    let needed : parts ≡ needed_parts tree configuration =
    are_parts ∙ ap (λ name. parts_for tree name names) is_name ∙ ap (parts_for tree configuration.name) are_names in
    let all : signatures ≡ map (signature_coverage content configuration) (signed_nodes configuration) =
    are
    ∙ ap (λ names. map (signature_with content names parts) (map meaning_of_node signed)) are_names
    ∙ ap (λ parts. map (signature_with content (references tree configuration) parts) (map meaning_of_node signed)) needed
    ∙ ap (map (signature_with content (references tree configuration) (needed_parts tree configuration))) are_signed in
    let make : List ℕ → List SignatureCoverage → ConfigurationCoverage =
    λ name signatures. record { name = name; signatures = signatures } in
    ap (λ name. make name signatures) is_name ∙ ap (make configuration.name) all

-- One without signed nodes.
pub coverage_empty : (content : FitModel) (configuration : Sibling PropertyMap) (name : List ℕ) (signatures : List SignatureCoverage) →
    name ≡ configuration.name → signed_nodes configuration ≡ [] → signatures ≡ [] →
    record { name = name; signatures = signatures } ≡ configuration_coverage content configuration
coverage_empty content configuration name signatures is_name nothing empty =
    let make : List ℕ → List SignatureCoverage → ConfigurationCoverage =
    λ name signatures. record { name = name; signatures = signatures } in
    let all : signatures ≡ map (signature_coverage content configuration) (signed_nodes configuration) =
    empty ∙ ap (map (signature_coverage content configuration)) (sym nothing) in
    ap (λ name. make name signatures) is_name ∙ ap (make configuration.name) all

-- So it is if no child is signed.
none_of : (nodes : List (Sibling PropertyMap)) → list_any is_signed nodes ≡ false → filter is_signed nodes ≡ []
none_of [] without = refl
none_of (first ∷ later) without = by (is_signed first) refl (none_of later)
  where
    by : (b : Bool) → is_signed first ≡ b → (list_any is_signed later ≡ false → filter is_signed later ≡ []) →
        filter is_signed (first ∷ later) ≡ []
    by true is rest = absurd (true≢false (sym (ap (λ b. b || list_any is_signed later) is) ∙ without))
    by false is rest = rw is (rest (rw is at without))

pub none_signed : (sibling : Sibling FileNode) → list_any is_signed (siblings (meaning_of_sibling sibling).children) ≡ false →
    signed_nodes (meaning_of_sibling sibling) ≡ []
none_signed sibling without = none_of (siblings (meaning_of_sibling sibling).children) without

-- Nothing is needed then.
pub nothing_needed : (tree : ImageTree) (configuration : Sibling PropertyMap) (sum : ℕ) → signed_nodes configuration ≡ [] →
    sum ≡ sum + sum_of (needed_lengths tree configuration)
nothing_needed tree configuration sum nothing =
    let zero_length : sum_of (needed_lengths tree configuration) ≡ 0 =
    ap (λ nodes. sum_of (map (λ (signature : Sibling PropertyMap). total_length (needed_paths tree configuration)) nodes)) nothing in
    omega (arith, zero_length)

-- How long the needed paths are, by their parts.
pub each_length : (tree : ImageTree) (configuration : Sibling PropertyMap) (name : List ℕ) (names : List (List ℕ)) (length : ℕ) →
    name ≡ configuration.name → names ≡ references tree configuration →
    length ≡ total_length (paths_of_parts (parts_for tree name names)) → length ≡ total_length (needed_paths tree configuration)
each_length tree configuration name names length is_name are_names is =
    is ∙ ap (λ name. total_length (paths_of_parts (parts_for tree name names))) is_name
    ∙ ap (λ names. total_length (paths_of_parts (parts_for tree configuration.name names))) are_names
