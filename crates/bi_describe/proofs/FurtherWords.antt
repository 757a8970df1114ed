use Rattle.std.proofs.Common.{◌≡◌, ℕ, Bool, true, false, not, cond, List, [], ◌∷◌, ◌++◌, Option, Some, None, flat_map, refl, sym, ap, ap₂}
use Rattle.std.proofs.Common.{◌∙◌}
use Rattle.std.specs.Prelude.{◌||◌}
use Rattle.std.specs.FinMap.{get, get-retain_keys, retain_keys}
use Rattle.std.specs.List.{list_any}
use Rattle.std.proofs.lemmas.List.Folds.{list_any-append}
use Rattle.bi_blob.specs.Tree.{Nodes, none, node, PropertyMap, Root}
use Rattle.bi_fit.proofs.PayloadProperties.{same}
use Rattle.bi_norm.specs.Meaning.{Meaning, OfLegacy, OfFit}
use Rattle.bi_describe.specs.ComparedNodes.{ComparedNode}
use Rattle.bi_describe.specs.IgnoringLaws.{MoreWordsKeepTheSame}
use Rattle.bi_describe.specs.Ignoring.{Ignored, is_node_ignored, is_part_ignored, is_property_ignored, is_time_ignored, names_node}
use Rattle.bi_describe.specs.Ignoring.{names_part, names_property, names_time}
use Rattle.bi_describe.specs.ReducedMeanings.{OfReducedLegacy, OfReducedTree, ReducedMeaning, compared_root, fields_alone, kept_nodes}
use Rattle.bi_describe.specs.ReducedMeanings.{kept_own, kept_part, kept_properties, kept_root, kept_time, numbered_parts, meaning_without}
use Rattle.bi_describe.proofs.KeptProperties.{same_kept}

-- What stays without what more words leave out is what stays of what stays without fewer.

-- ---- properties and nodes

-- A choice in two steps.
two_choices : {A : Type 0} (first second : Bool) (value other : A) →
    cond (not second) (cond (not first) value other) other ≡ cond (not (first || second)) value other
two_choices true true value other = refl
two_choices true false value other = refl
two_choices false second value other = refl

-- What more words leave out.
property_ignored : (words more : List Ignored) (names : List (List ℕ)) (name : List ℕ) →
    is_property_ignored (words ++ more) names name ≡ (is_property_ignored words names name || is_property_ignored more names name)
property_ignored words more names name = list_any-append (names_property names name) words more

node_ignored : (words more : List Ignored) (names : List (List ℕ)) (one other : Bool) → is_node_ignored words names ≡ one →
    is_node_ignored more names ≡ other → is_node_ignored (words ++ more) names ≡ (one || other)
node_ignored words more names one other is also =
    list_any-append (names_node names) words more ∙ ap₂ (λ (a b : Bool). a || b) is also

-- The properties that stay.
properties_kept : (words more : List Ignored) (names : List (List ℕ)) (properties : PropertyMap) →
    kept_properties more names (kept_properties words names properties) ≡ kept_properties (words ++ more) names properties
properties_kept words more names properties = same _ _ (λ name.
    get-retain_keys (retain_keys properties first) second name (same_kept second name)
    ∙ ap (λ found. cond (second name) found None) (get-retain_keys properties first name (same_kept first name))
    ∙ two_choices (is_property_ignored words names name) (is_property_ignored more names name) (get properties name) None
    ∙ ap (λ is. cond (not is) (get properties name) None) (sym (property_ignored words more names name))
    ∙ sym (get-retain_keys properties both name (same_kept both name)))
  where
    first : List ℕ → Bool
    first name = not (is_property_ignored words names name)

    second : List ℕ → Bool
    second name = not (is_property_ignored more names name)

    both : List ℕ → Bool
    both name = not (is_property_ignored (words ++ more) names name)

own_kept : (words more : List Ignored) (names : List (List ℕ)) (own : ComparedNode) →
    kept_own more names (kept_own words names own) ≡ kept_own (words ++ more) names own
own_kept words more names own = (λ i. record {
  properties = properties_kept words more names own.properties i;
  payload = own.payload;
})

-- The nodes that stay,
nodes_kept : (words more : List Ignored) (above : List (List ℕ)) (nodes : Nodes ComparedNode) →
    kept_nodes more above (kept_nodes words above nodes) ≡ kept_nodes (words ++ more) above nodes
nodes_kept words more above none = refl
nodes_kept words more above (node name own children later) =
    by (is_node_ignored words inner) (is_node_ignored more inner) refl refl (nodes_kept words more inner children)
    (nodes_kept words more above later)
  where
    inner : List (List ℕ)
    inner = above ++ name ∷ []

    by : (one other : Bool) → is_node_ignored words inner ≡ one → is_node_ignored more inner ≡ other →
        kept_nodes more inner (kept_nodes words inner children) ≡ kept_nodes (words ++ more) inner children →
        kept_nodes more above (kept_nodes words above later) ≡ kept_nodes (words ++ more) above later →
        kept_nodes more above (kept_nodes words above (node name own children later))
        ≡ kept_nodes (words ++ more) above (node name own children later)
    by true other is also below rest = rw (is, node_ignored words more inner true other is also) rest
    by false true is also below rest = rw (is, also, node_ignored words more inner false true is also) rest
    by false false is also below rest =
        rw (is, also, node_ignored words more inner false false is also)
        (λ i. node name (own_kept words more inner own i) (below i) (rest i))

-- what stays of what stays of a root, and the root.
abbrev pub kept_again : List Ignored → Option (Root ComparedNode) → Option (Root ComparedNode)
kept_again words None = None
kept_again words (Some root) = kept_root words root

pub root_kept : (words more : List Ignored) (root : Root ComparedNode) →
    kept_again more (kept_root words root) ≡ kept_root (words ++ more) root
root_kept words more root = by (is_node_ignored words []) (is_node_ignored more []) refl refl
  where
    by : (one other : Bool) → is_node_ignored words [] ≡ one → is_node_ignored more [] ≡ other →
        kept_again more (kept_root words root) ≡ kept_root (words ++ more) root
    by true other is also = rw (is, node_ignored words more [] true other is also) refl
    by false true is also = rw (is, also, node_ignored words more [] false true is also) refl
    by false false is also =
        rw (is, also, node_ignored words more [] false false is also)
        (λ i. Some (record { own = own_kept words more [] root.own i; children = nodes_kept words more [] root.children i }))

-- ---- legacy images

parts_kept : (words more : List Ignored) (parts : List (ℕ × List ℕ)) →
    flat_map (kept_part more) (flat_map (kept_part words) parts) ≡ flat_map (kept_part (words ++ more)) parts
parts_kept words more [] = refl
parts_kept words more (part ∷ later) = by (is_part_ignored words part.0) (is_part_ignored more part.0) refl refl
    (parts_kept words more later)
  where
    all : (one other : Bool) → is_part_ignored words part.0 ≡ one → is_part_ignored more part.0 ≡ other →
        is_part_ignored (words ++ more) part.0 ≡ (one || other)
    all one other is also = list_any-append (names_part part.0) words more ∙ ap₂ (λ (a b : Bool). a || b) is also

    by : (one other : Bool) → is_part_ignored words part.0 ≡ one → is_part_ignored more part.0 ≡ other →
        flat_map (kept_part more) (flat_map (kept_part words) later) ≡ flat_map (kept_part (words ++ more)) later →
        flat_map (kept_part more) (flat_map (kept_part words) (part ∷ later)) ≡ flat_map (kept_part (words ++ more)) (part ∷ later)
    by true other is also rest = rw (is, all true other is also) rest
    by false true is also rest = rw (is, also, all false true is also) rest
    by false false is also rest = rw (is, also, all false false is also) (ap (λ (parts : List (ℕ × List ℕ)). part ∷ parts) rest)

-- The time that stays of one that stays.
abbrev pub kept_time_again : List Ignored → Option ℕ → Option ℕ
kept_time_again words None = None
kept_time_again words (Some time) = kept_time words time

time_kept : (words more : List Ignored) (time : ℕ) → kept_time_again more (kept_time words time) ≡ kept_time (words ++ more) time
time_kept words more time = by (is_time_ignored words) (is_time_ignored more) refl refl
  where
    all : (one other : Bool) → is_time_ignored words ≡ one → is_time_ignored more ≡ other → is_time_ignored (words ++ more) ≡ (one || other)
    all one other is also = list_any-append names_time words more ∙ ap₂ (λ (a b : Bool). a || b) is also

    by : (one other : Bool) → is_time_ignored words ≡ one → is_time_ignored more ≡ other →
        kept_time_again more (kept_time words time) ≡ kept_time (words ++ more) time
    by true other is also = rw (is, all true other is also) refl
    by false true is also = rw (is, also, all false true is also) refl
    by false false is also = rw (is, also, all false false is also) refl

-- ---- the law

-- What stays of what stays.
abbrev pub reduced_again : List Ignored → ReducedMeaning → ReducedMeaning
reduced_again words (OfReducedLegacy image) =
    OfReducedLegacy (record {
      fields = image.fields;
      time = kept_time_again words image.time;
      parts = flat_map (kept_part words) image.parts;
    })
reduced_again words (OfReducedTree tree) =
    OfReducedTree (record { cpu = tree.cpu; reservations = tree.reservations; root = kept_again words tree.root })

pub meaning_kept : (words more : List Ignored) (meaning : Meaning) →
    reduced_again more (meaning_without words meaning) ≡ meaning_without (words ++ more) meaning
meaning_kept words more (OfLegacy image) = (λ i. OfReducedLegacy (record {
  fields = fields_alone image;
  time = time_kept words more image.time i;
  parts = parts_kept words more (numbered_parts 0 image.parts) i;
}))
meaning_kept words more (OfFit tree) = (λ i. OfReducedTree (record {
  cpu = tree.cpu;
  reservations = tree.reservations;
  root = root_kept words more (compared_root tree.root tree.payloads) i;
}))

pub more_words_keep_the_same : MoreWordsKeepTheSame
more_words_keep_the_same words more one other same =
    sym (meaning_kept words more one) ∙ ap (reduced_again more) same ∙ meaning_kept words more other
