use Rattle.std.proofs.Common.{◌≡◌, ℕ, Bool, T, not, cond, List, None, Equal, sym, ap, ◌∙◌, nat_cmp}
use Rattle.std.specs.Cmp.Lexicographic.{slice_cmp}
use Rattle.std.specs.FinMap.{entries, from_sorted, get, is_sorted, retain_keys, entries-from_sorted, entries_sorted, get-from_sorted}
use Rattle.std.specs.FinMap.{get-retain_keys, same_entries_map}
use Rattle.std.specs.FinMap.Entries.{where_key, find-where_key, is_sorted-where_key}
use Rattle.bi_blob.specs.Tree.{Property, PropertyMap}
use Rattle.bi_blob.proofs.Texts.PropertyOrder.{order_tells}
use Rattle.bi_fit.specs.ImageTree.{without_payload}
use Rattle.bi_fit.specs.Names.{is_payload_name}
use Rattle.bi_fit.proofs.PayloadProperties.{same}

-- Properties that are kept by their names are those, in the same order: for example those of an image node without the ones that hold a
-- payload or name its region.

-- Of two names that compare as equal, both are kept or neither is.
pub same_kept : (p : List ℕ → Bool) (name other : List ℕ) → slice_cmp nat_cmp name other ≡ Equal → p other ≡ p name
same_kept p name other tied = ap p (sym (order_tells name other tied))

-- The properties that are kept by their names are those, in the same order.
pub entries_kept : (properties : PropertyMap) (p : List ℕ → Bool)
    → entries (retain_keys properties p) ≡ where_key (slice_cmp nat_cmp) p (entries properties)
entries_kept properties p =
    ap entries (same _ _ (λ name.
    get-retain_keys properties p name (same_kept p name)
    ∙ ap (λ o. cond (p name) o None)
    (ap (λ properties. get properties name) (sym whole)
    ∙ get-from_sorted (slice_cmp nat_cmp) (entries properties) name (entries_sorted properties))
    ∙ sym (find-where_key (slice_cmp nat_cmp) p name (same_kept p name) (entries properties))
    ∙ sym (get-from_sorted (slice_cmp nat_cmp) kept name is_sorted_kept)))
    ∙ entries-from_sorted (slice_cmp nat_cmp) kept is_sorted_kept
  where
    kept : List Property
    kept = where_key (slice_cmp nat_cmp) p (entries properties)

    whole : ◌≡◌ {A = PropertyMap} (from_sorted (entries properties)) properties
    whole = same_entries_map _ _ (entries-from_sorted (slice_cmp nat_cmp) (entries properties) (entries_sorted properties))

    is_sorted_kept : T (is_sorted (slice_cmp nat_cmp) kept)
    is_sorted_kept = is_sorted-where_key (slice_cmp nat_cmp) p (entries properties) (entries_sorted properties)

-- Those of these properties that do not hold a payload or name its region.
abbrev pub others_of : List Property → List Property
others_of properties = where_key (slice_cmp nat_cmp) (λ name. not (is_payload_name name)) properties

pub entries_without : (properties : PropertyMap) → entries (without_payload properties) ≡ others_of (entries properties)
entries_without properties = entries_kept properties (λ name. not (is_payload_name name))
