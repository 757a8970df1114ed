use Rattle.std.proofs.Common.{◌≡◌, ℕ, Bool, true, false, List, [], ◌∷◌, ◌++◌, Contains, refl, sym, ap, ◌∙◌, rules}
use Rattle.std.specs.List.{AllByRecursion}
use Rattle.std.proofs.lemmas.List.Elements.{Contains-push, Contains-append_left}
use Rattle.bi_blob.specs.Tree.{Property}
use Rattle.bi_blob.specs.Events.{Event, NodeProperty}
use Rattle.bi_blob.specs.Layout.{used_names, distinct_names, is_among}
use Rattle.bi_blob.proofs.Texts.FirstUse.{found_among, among_found, distinct_names-push, used_names-push}
use Rattle.bi_blob.proofs.Texts.NamesOnce.{distinct_names-all, distinct_names-only}
use Rattle.bi_lay.specs.declared.items.Item.{Item}
use Rattle.bi_lay.specs.declared.items.Item.TheVariants.{Begin, Property as PropertyItem, End}
use Rattle.bi_lay.specs.Names.{with_name, saturated_usize}
use Rattle.bi_lay.specs.Items.{HasOffset}
use Rattle.bi_lay.proofs.NameOffsets.{offset_in-stays}

-- One more property adds its name to the names of the strings block, and the offsets of the other names stay.

-- A name is among the distinct names if and only if it is among the names.
pub is_among-distinct : (names : List (List ℕ)) (name : List ℕ) → is_among name (distinct_names names) ≡ is_among name names
is_among-distinct names name = search (rules, found_among, distinct_names-all, among_found, distinct_names-only)

-- The names of events with one more property are those with its name.
pub names-push : (events : List Event) (property : Property) →
    distinct_names (used_names (events ++ NodeProperty property ∷ [])) ≡ with_name (distinct_names (used_names events)) property.0
names-push events property = search (rules, used_names-push, distinct_names-push, is_among-distinct)

-- A name is among names with it.
pub with_name-has : (names : List (List ℕ)) (name : List ℕ) → Contains (with_name names name) name
with_name-has names name = by (is_among name names) refl
  where
    by : (b : Bool) → is_among name names ≡ b → Contains (with_name names name) name
    by true is = rw is (among_found names name is)
    by false is = rw is (Contains-push names name)

-- The offsets of properties stay where a name is added.
pub HasOffset-with_name : (names : List (List ℕ)) (name : List ℕ) (item : Item) → HasOffset names item →
    HasOffset (with_name names name) item
HasOffset-with_name names name (Begin other) has = tt
HasOffset-with_name names name End has = tt
HasOffset-with_name names name (PropertyItem property) has = by (is_among name names) refl
  where
    by : (b : Bool) → is_among name names ≡ b → HasOffset (with_name names name) (PropertyItem property)
    by true is = rw is has
    by false is =
        rw is (
          Contains-append_left names (name ∷ []) property.name.now has.0,
          has.1 ∙ ap saturated_usize (sym (offset_in-stays names property.name.now name (found_among names property.name.now has.0))),
        )

pub each-with_name : (names : List (List ℕ)) (name : List ℕ) (items : List Item) → AllByRecursion (HasOffset names) items →
    AllByRecursion (HasOffset (with_name names name)) items
each-with_name names name [] each = tt
each-with_name names name (item ∷ later) each = (HasOffset-with_name names name item each.0, each-with_name names name later each.1)
