use Rattle.std.proofs.Common.{◌≡◌, ◌≤◌, ◌<◌, ◌-◌, ◌&&◌, ℕ, Bool, true, false, List, [], ◌∷◌, ◌++◌, filter, length, map, get_or, take, drop}
use Rattle.std.proofs.Common.{take_all, refl, sym, ap, ap₂, ◌∙◌, arith}
use Rattle.std.proofs.lemmas.Simd.{map-map}
use Rattle.bi_blob.specs.Lookups.{Sibling, siblings}
use Rattle.bi_blob.specs.Tree.{FileNode, PropertyMap}
use Rattle.bi_fdt.specs.Content.{root_of}
use Rattle.bi_fit.specs.Content.{FitModel, tree_of}
use Rattle.bi_fit.specs.HashNodes.{file_configurations}
use Rattle.bi_fit.specs.Names.{is_signature_name, value_name}
use Rattle.bi_fit.proofs.FileNodes.{configuration_nodes_are, siblings-by_name}
use Rattle.bi_coverage.specs.Coverage.{ConfigurationCoverage, SignatureCoverage, configuration_coverage, coverage_of, signature_coverage}
use Rattle.bi_coverage.specs.Signatures.{is_signed}
use Rattle.bi_coverage.specs.Values.{meaning_of_sibling, signature_concern, signature_value}
use Rattle.bi_coverage.specs.declared.reading.SignatureCoverage.{SignatureCoverage as CoverageValue}
use Rattle.bi_coverage.proofs.Meanings.{signed_is}
use Rattle.bi_show.specs.FitPages.{concerns_cell, configuration_cell, has_signature, nothing_cell, value_in}
use Rattle.bi_show.specs.Pages.{Table}

-- The signed nodes of a configuration are the signature nodes that have a value.

-- A signature node is signed if it has a value.
pub signed_with_value : (child : Sibling FileNode) (has : Bool) → is_signature_name child.name ≡ true → has_signature child ≡ has →
    is_signed (meaning_of_sibling child) ≡ has
signed_with_value child has named given =
    sym (signed_is child (value_in child.own value_name) refl) ∙ ap (λ n. n && has_signature child) named ∙ given

-- Another node is not.
pub other_not_signed : (child : Sibling FileNode) → is_signature_name child.name ≡ false → is_signed (meaning_of_sibling child) ≡ false
other_not_signed child named =
    sym (signed_is child (value_in child.own value_name) refl) ∙ ap (λ n. n && has_signature child) named

-- A node that is not signed has no coverage.
pub passed_without_coverage : (cover : Sibling PropertyMap → SignatureCoverage) (child : Sibling FileNode)
    (later : List (Sibling FileNode)) (left : List SignatureCoverage) → is_signed (meaning_of_sibling child) ≡ false →
    left ≡ map cover (filter is_signed (map meaning_of_sibling (child ∷ later))) →
    left ≡ map cover (filter is_signed (map meaning_of_sibling later))
passed_without_coverage cover child later left unsigned same = same ∙ rw unsigned refl

-- A signed one has the first coverage.
pub passed_with_coverage : (cover : Sibling PropertyMap → SignatureCoverage) (child : Sibling FileNode)
    (later : List (Sibling FileNode)) (left : List SignatureCoverage) → is_signed (meaning_of_sibling child) ≡ true →
    left ≡ map cover (filter is_signed (map meaning_of_sibling (child ∷ later))) →
    left ≡ cover (meaning_of_sibling child) ∷ map cover (filter is_signed (map meaning_of_sibling later))
passed_with_coverage cover child later left signed same = same ∙ rw signed refl

-- What is known of the configurations of a file is that of its configuration nodes, in order.
pub coverage_of_nodes : (content : FitModel) (coverage : List ConfigurationCoverage) → coverage ≡ coverage_of content →
    coverage ≡ map (λ entry. configuration_coverage content (meaning_of_sibling entry)) (siblings (file_configurations content.blob))
coverage_of_nodes content coverage is =
    is
    ∙ ap (map (configuration_coverage content))
    (ap siblings (configuration_nodes_are content) ∙ siblings-by_name (file_configurations content.blob))
    ∙ map-map (configuration_coverage content) meaning_of_sibling (siblings (file_configurations content.blob))

-- What is known of the signed nodes of a configuration is that of its children that are signed.
pub coverage_of_children : (content : FitModel) (configuration : Sibling FileNode) →
    (configuration_coverage content (meaning_of_sibling configuration)).signatures
    ≡ map (signature_coverage content (meaning_of_sibling configuration))
    (filter is_signed (map meaning_of_sibling (siblings configuration.children)))
coverage_of_children content configuration =
    ap (λ l. map (signature_coverage content (meaning_of_sibling configuration)) (filter is_signed l))
    (siblings-by_name configuration.children)

-- The rows of the signature nodes that are left, from a signature node on.
pub rows_from_first : (row : Sibling FileNode → List (List ℕ)) (before all : Table) (first : Sibling FileNode)
    (left later : List (Sibling FileNode)) → left ≡ first ∷ later → is_signature_name first.name ≡ true →
    before ++ map row (filter (λ child. is_signature_name child.name) left) ≡ all →
    before ++ row first ∷ map row (filter (λ child. is_signature_name child.name) later) ≡ all
rows_from_first row before all first left later is one so_far =
    sym (ap (λ l. before ++ map row (filter (λ child. is_signature_name child.name) l)) is ∙ rw one refl) ∙ so_far

-- A list that is not empty is the first one and the others.
pub first_and_others : {X : Type 0} (all : List X) (first : X) → 1 ≤ length all → first ≡ get_or all 0 first →
    all ≡ first ∷ take (length all - 1) (drop 1 all)
first_and_others [] first some is = absurd (omega (arith, some))
first_and_others (one ∷ others) first some is =
    ap₂ (λ one others. one ∷ others) (sym is) (sym (take_all (length (one ∷ others) - 1) others (omega arith)))

-- If values of two lists are the same, so are those of the others of both.
pub others_after : {X Y Z : Type 0} (value : X → Z) (cover : Y → Z) (all : List X) (first : X) (others : List X)
    (left : List Y) (child : Y) (later : List Y) → all ≡ first ∷ others → left ≡ child ∷ later →
    map value all ≡ map cover left → map value others ≡ map cover later
others_after value cover all first others left child later is steps same =
    let e : value first ∷ map value others ≡ cover child ∷ map cover later =
    sym (ap (map value) is) ∙ same ∙ ap (map cover) steps in cc

-- The coverage that is left of a configuration of a file is that of its signed nodes that are left, of which the first may be this child.
module _ (content : FitModel) (configuration child : Sibling FileNode) (all later : List (Sibling FileNode)) (left : List CoverageValue)
    (is : all ≡ child ∷ later) (named : is_signature_name child.name ≡ true)
    (same : map signature_value left ≡ map (signature_coverage content (meaning_of_sibling configuration))
    (filter is_signed (map meaning_of_sibling all))) where
  abbrev pub cover : Sibling PropertyMap → SignatureCoverage
  cover = signature_coverage content (meaning_of_sibling configuration)

  from_child : map signature_value left ≡ map cover (filter is_signed (map meaning_of_sibling (child ∷ later)))
  from_child = same ∙ ap (λ l. map cover (filter is_signed (map meaning_of_sibling l))) is

  signed_first : has_signature child ≡ true →
      map signature_value left ≡ cover (meaning_of_sibling child) ∷ map cover (filter is_signed (map meaning_of_sibling later))
  signed_first has =
      passed_with_coverage cover child later (map signature_value left) (signed_with_value child true named has) from_child

  -- If the child has a signature, the coverage that is left is not empty,
  pub some_left : has_signature child ≡ true → ¬ (length left < 1)
  some_left has less = by left less (signed_first has)
    where
      by : (left : List CoverageValue) → length left < 1 →
          map signature_value left ≡ cover (meaning_of_sibling child) ∷ map cover (filter is_signed (map meaning_of_sibling later)) → ⊥
      by [] less is = absurd cc
      by (first ∷ others) less is = absurd (omega (arith, less))

  -- its first is that of the child,
  pub first_covers : (first : CoverageValue) (others : List CoverageValue) → has_signature child ≡ true → left ≡ first ∷ others →
      signature_value first ≡ cover (meaning_of_sibling child)
  first_covers first others has is =
      let e : signature_value first ∷ map signature_value others
      ≡ cover (meaning_of_sibling child) ∷ map cover (filter is_signed (map meaning_of_sibling later)) =
      sym (ap (map signature_value) is) ∙ signed_first has in cc

  pub word_of_first : (first : CoverageValue) (others : List CoverageValue) → has_signature child ≡ true → left ≡ first ∷ others →
      concerns_cell (map signature_concern first.concerns.items)
      ≡ configuration_cell content.blob.file (root_of content.blob) (tree_of content) configuration child
  word_of_first first others has is =
      ap (λ (value : SignatureCoverage). concerns_cell value.concerns) (first_covers first others has is) ∙ rw has refl

  -- and the others are those of the later children.
  pub others_left : (first : CoverageValue) (others : List CoverageValue) → has_signature child ≡ true → left ≡ first ∷ others →
      map signature_value others ≡ map cover (filter is_signed (map meaning_of_sibling later))
  others_left first others has is =
      let e : signature_value first ∷ map signature_value others
      ≡ cover (meaning_of_sibling child) ∷ map cover (filter is_signed (map meaning_of_sibling later)) =
      sym (ap (map signature_value) is) ∙ signed_first has in cc

  -- If it has none, nothing is covered,
  pub word_of_nothing : has_signature child ≡ false →
      nothing_cell ≡ configuration_cell content.blob.file (root_of content.blob) (tree_of content) configuration child
  word_of_nothing has = rw has refl

  -- and all that is left is of the later children.
  pub all_left : has_signature child ≡ false →
      map signature_value left ≡ map cover (filter is_signed (map meaning_of_sibling later))
  all_left has =
      passed_without_coverage cover child later (map signature_value left) (signed_with_value child false named has) from_child
