use Rattle.std.proofs.Common.{◌≡◌, ◌<◌, ◌∙◌, Bool, true, false, List, ◌∷◌, ◌++◌, filter, length, map, ap, sym, refl}
use Rattle.std.proofs.lemmas.Bool.{and_parts}
use Rattle.bi_blob.specs.Lookups.{Sibling}
use Rattle.bi_blob.specs.Tree.{FileNode}
use Rattle.bi_fdt.specs.Content.{root_of}
use Rattle.bi_fit.specs.Content.{FitModel, tree_of}
use Rattle.bi_fit.specs.Names.{is_signature_name, value_name}
use Rattle.bi_common.specs.Json.{Json}
use Rattle.bi_common.specs.JsonTokens.{json_tokens, value_tokens}
use Rattle.bi_coverage.specs.Coverage.{SignatureCoverage, signature_coverage}
use Rattle.bi_coverage.specs.Signatures.{is_signed}
use Rattle.bi_coverage.specs.Values.{meaning_of_sibling, signature_concern, signature_value}
use Rattle.bi_coverage.specs.declared.reading.SignatureCoverage.{SignatureCoverage as CoverageValue}
use Rattle.bi_coverage.proofs.Meanings.{signed_is}
use Rattle.bi_show.specs.FitPages.{has_signature, value_in}
use Rattle.bi_show.specs.ShownObjects.{has_no_concern, is_signed_node, signature_object, signed_node_object}
use Rattle.bi_show.proofs.ShownSignatures.{first_covers, others_left, passed_without_coverage, some_left}

-- The objects of the signed nodes of a configuration, and the coverage that is left of them.

-- The objects of the nodes that are left, from a signed node on.
pub objects_from_first : (object : Sibling FileNode → Json) (child : Sibling FileNode) (all later : List (Sibling FileNode)) →
    all ≡ child ∷ later → is_signed_node child ≡ true →
    value_tokens (map object (filter is_signed_node all))
    ≡ json_tokens (object child) ++ value_tokens (map object (filter is_signed_node later))
objects_from_first object child all later is signed =
    ap (λ l. value_tokens (map object (filter is_signed_node l))) is ∙ rw signed refl

-- Those after a node that is not signed.
pub objects_after : (object : Sibling FileNode → Json) (child : Sibling FileNode) (all later : List (Sibling FileNode)) →
    all ≡ child ∷ later → is_signed_node child ≡ false →
    value_tokens (map object (filter is_signed_node all)) ≡ value_tokens (map object (filter is_signed_node later))
objects_after object child all later is unsigned =
    ap (λ l. value_tokens (map object (filter is_signed_node l))) is ∙ rw unsigned refl

-- The first child that is left may be signed.
module _ (content : FitModel) (configuration child : Sibling FileNode) (all later : List (Sibling FileNode)) (left : List CoverageValue)
    (is : all ≡ child ∷ later)
    (same : map signature_value left ≡ map (signature_coverage content (meaning_of_sibling configuration))
    (filter is_signed (map meaning_of_sibling all))) where
  both : is_signed_node child ≡ true → (is_signature_name child.name ≡ true) × (has_signature child ≡ true)
  both signed = and_parts (is_signature_name child.name) (has_signature child) signed

  -- If it is, the coverage that is left is not empty,
  pub coverage_is_left : is_signed_node child ≡ true → ¬ (length left < 1)
  coverage_is_left signed = some_left content configuration child all later left is (both signed).0 same (both signed).1

  -- its first is that of the child,
  pub object_of_first : (first : CoverageValue) (others : List CoverageValue) → is_signed_node child ≡ true → left ≡ first ∷ others →
      signature_object child (has_no_concern (map signature_concern first.concerns.items))
      ≡ signed_node_object content.blob.file (root_of content.blob) (tree_of content) configuration child
  object_of_first first others signed parts =
      ap (λ (value : SignatureCoverage). signature_object child (has_no_concern value.concerns))
      (first_covers content configuration child all later left is (both signed).0 same first others (both signed).1 parts)

  -- and the others are those of the later children.
  pub coverage_after_signed : (first : CoverageValue) (others : List CoverageValue) → is_signed_node child ≡ true → left ≡ first ∷ others →
      map signature_value others
      ≡ map (signature_coverage content (meaning_of_sibling configuration)) (filter is_signed (map meaning_of_sibling later))
  coverage_after_signed first others signed parts =
      others_left content configuration child all later left is (both signed).0 same first others (both signed).1 parts

  -- If it is not, all that is left is of the later children.
  pub coverage_after_unsigned : is_signed_node child ≡ false →
      map signature_value left
      ≡ map (signature_coverage content (meaning_of_sibling configuration)) (filter is_signed (map meaning_of_sibling later))
  coverage_after_unsigned unsigned =
      passed_without_coverage (signature_coverage content (meaning_of_sibling configuration)) child later (map signature_value left)
      (sym (signed_is child (value_in child.own value_name) refl) ∙ unsigned)
      (same ∙ ap (λ l. map (signature_coverage content (meaning_of_sibling configuration))
      (filter is_signed (map meaning_of_sibling l))) is)
