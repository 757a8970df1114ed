use Rattle.std.proofs.Common.{◌≡◌, ◌⊎◌, ℕ, ◌+◌, ◌<◌, ◌≤◌, Bool, true, false, not, inl, inr, List, [], ◌∷◌, ◌++◌, length, map, rules}
use Rattle.std.proofs.Common.{Contains, filter, bytes_eq, nat_cmp, refl, sym, ap, subst, ◌∙◌, arith}
use Rattle.std.specs.Cmp.Lexicographic.{slice_cmp}
use Rattle.std.specs.FinMap.{entries, from_entries, get, get-entries, get-from_entries}
use Rattle.std.specs.FinMap.Entries.{is_some-find}
use Rattle.std.specs.List.{AllByRecursion, sum_by}
use Rattle.std.specs.Option.{is_some}
use Rattle.std.specs.Ordering.{eq_by_cmp}
use Rattle.std.proofs.lemmas.Cmp.{eq_by_cmp_equiv, nat_list_cmp_total}
use Rattle.std.proofs.lemmas.List.Concat.{flat_map-append, length-flat_map}
use Rattle.std.proofs.lemmas.List.Elements.{Contains-append_left, Contains-append_right, Contains-append_cases}
use Rattle.std.proofs.lemmas.List.Filters.{sum_by-filter_both}
use Rattle.std.proofs.lemmas.List.Sums.{sum_by-cons, get_or-le-sum_by}
use Rattle.std.proofs.lemmas.Map.Text.{is_eq-slice_cmp}
use Rattle.std.proofs.lemmas.Map.Views.{list_any-from_Contains, Contains-from_any}
use Rattle.std.proofs.lemmas.Slice.Eq.{bytes_eq-Decides}
use Rattle.bi_base.proofs.AlignmentLaws.{up_to-le}
use Rattle.bi_base.proofs.ListMembers.{Contains-none, Contains-filter, each-weaker}
use Rattle.bi_blob.specs.Tree.{Nodes, none, node, IsNew, AreDistinct, Property, PropertyMap}
use Rattle.bi_blob.specs.Blob.{Reservation, reservation_block}
use Rattle.bi_blob.specs.Events.{NodeProperty, events}
use Rattle.bi_blob.specs.Layout.{distinct_names, length_before_padding, strings_block, structure_block, text_of_events, used_names}
use Rattle.bi_blob.proofs.Texts.EventLengths.{text_of_events_has_length}
use Rattle.bi_blob.proofs.Texts.NamesOnce.{distinct_names-all}
use Rattle.bi_fit.specs.LongNames.{name_if_long}
use Rattle.bi_fit.proofs.LongNames.{length-name_if_long, long_length}
use Rattle.bi_fit.proofs.FormAlignments.{form-aligned, form-positive}
use Rattle.bi_fit.specs.declared.form.Form.TheVariants.{Embedded}
use Rattle.bi_tree.specs.Properties.{TreePropertyModel, own_property_names, without_numbers}
use Rattle.bi_tree.specs.Trees.{by_name}
use Rattle.bi_plain.specs.Ranked.{HaveLongNames, all_names, sorted_models, sorted_own}

-- The text of a tree is at least as long as different long names of its properties together.

one_of_all : (name : List ℕ) (names : List (List ℕ)) → Contains names name → long_length name ≤ sum_by long_length names
one_of_all name names (k, below, is) =
    subst (λ other. long_length other ≤ sum_by long_length names) is (get_or-le-sum_by long_length names k name below)

one_and_others : (name : List ℕ) (names : List (List ℕ)) → Contains names name →
    long_length name + sum_by long_length (filter (λ other. not (bytes_eq name other)) names) ≤ sum_by long_length names
one_and_others name names has =
    let both = sum_by-filter_both (bytes_eq name) (λ other. not (bytes_eq name other)) (λ other. refl) long_length names in
    let one = one_of_all name (filter (bytes_eq name) names)
    (Contains-filter (bytes_eq name) names name ((bytes_eq-Decides name name).1 refl) has) in
    omega (arith, both, one)

-- Names among others are so without a name that is none of them.
left_among : (name : List ℕ) (others names : List (List ℕ)) → IsNew name names → AllByRecursion (Contains others) names →
    AllByRecursion (Contains (filter (λ other. not (bytes_eq name other)) others)) names
left_among name others [] new are = tt
left_among name others (first ∷ later) new are = (
  Contains-filter (λ other. not (bytes_eq name other)) others first (ap not (differs (bytes_eq name first) refl)) are.0,
  left_among name others later new.1 are.1,
)
  where
    differs : (b : Bool) → bytes_eq name first ≡ b → bytes_eq name first ≡ false
    differs true is = absurd (new.0 (sym ((bytes_eq-Decides name first).0 is)))
    differs false is = is

-- Distinct names among others are together no longer than these, as far as they are long.
no_longer_than_others : (names others : List (List ℕ)) → AreDistinct names → AllByRecursion (Contains others) names →
    sum_by long_length names ≤ sum_by long_length others
no_longer_than_others [] others distinct are = omega arith
no_longer_than_others (name ∷ later) others distinct are =
    let left = no_longer_than_others later (filter (λ other. not (bytes_eq name other)) others) distinct.1
    (left_among name others later distinct.0 are.1) in
    omega (arith, sum_by-cons long_length name later, one_and_others name others are.0, left)

no_longer_than_all : (names : List (List ℕ)) → sum_by long_length names ≤ sum_by (λ name. length name + 1) names
no_longer_than_all [] = omega arith
no_longer_than_all (name ∷ later) = search (rules, length-name_if_long, sum_by-cons, no_longer_than_all later)

-- The names of the properties of nodes are used by their events.
names_left : (properties : List TreePropertyModel) →
    map (λ property. property.0) (without_numbers properties) ≡ own_property_names properties
names_left [] = refl
names_left (property ∷ properties) = ap (λ l. property.name ∷ l) (names_left properties)

key_by_name : (name : List ℕ) (properties : List Property) → Contains (map (λ property. property.0) properties) name →
    is_some (get (from_entries {R = slice_cmp nat_cmp} properties) name) ≡ true
key_by_name name properties has =
    ap is_some (get-from_entries nat_list_cmp_total properties name)
    ∙ is_some-find (slice_cmp nat_cmp) name properties
    ∙ list_any-from_Contains (eq_by_cmp_equiv nat_list_cmp_total) name (map (λ property. property.0) properties) has

name_in_order : (name : List ℕ) (properties : PropertyMap) → is_some (get properties name) ≡ true →
    Contains (map (λ property. property.0) (entries properties)) name
name_in_order name properties has =
    Contains-from_any {eq = eq_by_cmp (slice_cmp nat_cmp)}
    (λ one other same. (bytes_eq-Decides one other).0 (sym (is_eq-slice_cmp one other) ∙ same)) name
    (map (λ property. property.0) (entries properties))
    (sym (is_some-find (slice_cmp nat_cmp) name (entries properties)) ∙ ap is_some (sym (get-entries properties name)) ∙ has)

own_used : (name : List ℕ) (properties : List TreePropertyModel) → Contains (own_property_names properties) name →
    Contains (map (λ property. property.0) (sorted_own properties)) name
own_used name properties has =
    name_in_order name (by_name properties)
    (key_by_name name (without_numbers properties) (subst (λ l. Contains l name) (sym (names_left properties)) has))

names_of_properties : (properties : List Property) → used_names (map NodeProperty properties) ≡ map (λ property. property.0) properties
names_of_properties [] = refl
names_of_properties (property ∷ later) = ap (λ names. property.0 ∷ names) (names_of_properties later)

names_of_node : (name : List ℕ) (own : List TreePropertyModel) (children later : Nodes (List TreePropertyModel)) →
    used_names (events (sorted_models (node name own children later)))
    ≡ map (λ property. property.0) (sorted_own own)
    ++ (used_names (events (sorted_models children)) ++ used_names (events (sorted_models later)))
names_of_node name own children later = search (rules, flat_map-append, names_of_properties)

all_used : (name : List ℕ) (nodes : Nodes (List TreePropertyModel)) → Contains (all_names nodes) name →
    Contains (used_names (events (sorted_models nodes))) name
all_used name none has = absurd (Contains-none name has)
all_used name (node n own children later) has =
    subst (λ l. Contains l name) (sym (names_of_node n own children later))
    (by_own (Contains-append_cases (own_property_names own) (all_names children ++ all_names later) name has)
    (λ has. all_used name children has) (λ has. all_used name later has))
  where
    below_used : List (List ℕ)
    below_used = used_names (events (sorted_models children))

    later_used : List (List ℕ)
    later_used = used_names (events (sorted_models later))

    by_rest : Contains (all_names children) name ⊎ Contains (all_names later) name →
        (Contains (all_names children) name → Contains below_used name) → (Contains (all_names later) name → Contains later_used name) →
        Contains (map (λ property. property.0) (sorted_own own) ++ (below_used ++ later_used)) name
    by_rest (inl has) below after =
        Contains-append_right (map (λ property. property.0) (sorted_own own)) (below_used ++ later_used) name
        (Contains-append_left below_used later_used name (below has))
    by_rest (inr has) below after =
        Contains-append_right (map (λ property. property.0) (sorted_own own)) (below_used ++ later_used) name
        (Contains-append_right below_used later_used name (after has))

    by_own : Contains (own_property_names own) name ⊎ Contains (all_names children ++ all_names later) name →
        (Contains (all_names children) name → Contains below_used name) → (Contains (all_names later) name → Contains later_used name) →
        Contains (map (λ property. property.0) (sorted_own own) ++ (below_used ++ later_used)) name
    by_own (inl has) below after =
        Contains-append_left (map (λ property. property.0) (sorted_own own)) (below_used ++ later_used) name (own_used name own has)
    by_own (inr has) below after = by_rest (Contains-append_cases (all_names children) (all_names later) name has) below after

-- So a text with these events is longer than the limit, if the long names are.
pub longer_text : (limit cpu : ℕ) (reservations : List Reservation) (nodes : Nodes (List TreePropertyModel)) → HaveLongNames limit nodes →
    limit < length (text_of_events 4 cpu reservations (events (sorted_models nodes)))
longer_text limit cpu reservations nodes (names, distinct, are, longer) =
    let all = events (sorted_models nodes) in
    let lengths = text_of_events_has_length 4 cpu reservations all (form-aligned Embedded) in
    let others = distinct_names (used_names all) in
    let among = each-weaker (Contains (all_names nodes)) (Contains others)
    (λ name has. distinct_names-all (used_names all) name (all_used name nodes has)) names are in
    omega (
      arith,
      longer,
      length-flat_map name_if_long names,
      no_longer_than_others names others distinct among,
      no_longer_than_all others,
      lengths.strings,
      lengths.is_length,
      up_to-le 4 (length_before_padding (length (reservation_block reservations)) (length (structure_block all))
          (length (strings_block all))) (form-positive Embedded),
    )
