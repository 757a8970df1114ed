use Rattle.std.proofs.Common.{◌≡◌, ℕ, cond, not, T, List, []}
use Rattle.std.proofs.Common.{None, sym, ap, ◌∙◌, nat_cmp}
use Rattle.std.specs.Cmp.Lexicographic.{slice_cmp}
use Rattle.std.specs.FinMap.{empty, insert, from_sorted, is_sorted, put, same_entries_map, entries-from_sorted}
use Rattle.std.specs.FinMap.{entries-insert, get-empty, get-from_sorted}
use Rattle.std.specs.FinMap.Entries.{where_key, find-where_key, is_sorted-where_key, is_sorted-put}
use Rattle.std.proofs.lemmas.Cmp.{nat_list_cmp_total}
use Rattle.bi_blob.specs.Tree.{Property, PropertyMap}
use Rattle.bi_blob.proofs.Texts.PropertyOrder.{order_tells}
use Rattle.bi_fit.specs.Names.{is_payload_name}
use Rattle.bi_fit.specs.ImageTree.{without_payload}
use Rattle.bi_fit.proofs.PayloadProperties.{same, get-without}

-- The properties of a node stay in byte order as one is inserted, changed or left out, and their map is the properties by name.

-- A list of properties in byte order is so with one more,
pub sorted-put : (properties : List Property) (name value : List ℕ) → T (is_sorted (slice_cmp nat_cmp) properties) →
    T (is_sorted (slice_cmp nat_cmp) (put (slice_cmp nat_cmp) name value properties))
sorted-put properties name value ordered = is_sorted-put (slice_cmp nat_cmp) nat_list_cmp_total name value properties ordered

-- and its map has that one more.
pub from_sorted-put : (properties : List Property) (name value : List ℕ) → T (is_sorted (slice_cmp nat_cmp) properties) →
    from_sorted {R = slice_cmp nat_cmp} (put (slice_cmp nat_cmp) name value properties) ≡ insert (from_sorted properties) name value
from_sorted-put properties name value ordered =
    same_entries_map _ _
    (entries-from_sorted (slice_cmp nat_cmp) (put (slice_cmp nat_cmp) name value properties) (sorted-put properties name value ordered)
    ∙ ap (put (slice_cmp nat_cmp) name value) (sym (entries-from_sorted (slice_cmp nat_cmp) properties ordered))
    ∙ sym (entries-insert nat_list_cmp_total (from_sorted properties) name value))

-- Properties without those that hold a payload or name its region,
abbrev pub kept_of : List Property → List Property
kept_of properties = where_key (slice_cmp nat_cmp) (λ name. not (is_payload_name name)) properties

-- and their map.
pub from_sorted-kept : (properties : List Property) → T (is_sorted (slice_cmp nat_cmp) properties) →
    from_sorted {R = slice_cmp nat_cmp} (kept_of properties) ≡ without_payload (from_sorted properties)
from_sorted-kept properties sorted = same _ _ (λ name.
    get-from_sorted (slice_cmp nat_cmp) (kept_of properties) name
    (is_sorted-where_key (slice_cmp nat_cmp) (λ name. not (is_payload_name name)) properties sorted)
    ∙ find-where_key (slice_cmp nat_cmp) (λ name. not (is_payload_name name)) name
    (λ other tied. ap (λ name. not (is_payload_name name)) (sym (order_tells name other tied))) properties
    ∙ ap (λ o. cond (not (is_payload_name name)) o None) (sym (get-from_sorted (slice_cmp nat_cmp) properties name sorted))
    ∙ sym (get-without (from_sorted properties) name))

-- The map of no entries.
pub from_sorted-none : ◌≡◌ {A = PropertyMap} (from_sorted []) empty
from_sorted-none = same _ _ (λ name. get-from_sorted (slice_cmp nat_cmp) [] name tt ∙ sym (get-empty (slice_cmp nat_cmp) name))
