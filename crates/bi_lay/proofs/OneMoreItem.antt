use Rattle.std.proofs.Common.{◌≡◌, ◌≢◌, ℕ, ◌+◌, ◌-◌, ◌<◌, List, [], ◌∷◌, ◌++◌, length, get_or, Some, Bor, refl, ap, ◌∙◌, arith}
use Rattle.std.proofs.Common.{length-append, append-nil, fold}
use Rattle.std.specs.List.{AllByRecursion}
use Rattle.std.proofs.Math.Seq.{get_or-append_seam}
use Rattle.std.proofs.lemmas.Option.{slice_get-get_or}
use Rattle.std.proofs.lemmas.List.{map-append}
use Rattle.std.proofs.lemmas.List.Sums.{fold-append}
use Rattle.std.proofs.lemmas.List.Concat.{flat_map-append}
use Rattle.bi_blob.specs.Events.{Event, NodeStart, NodeProperty, NodeEnd}
use Rattle.bi_blob.specs.Stages.{Stage, BeforeRoot, Inside, AfterRoot, OpenNode, next_stage, open_nodes}
use Rattle.bi_blob.specs.Layout.{event_names, used_names, distinct_names}
use Rattle.bi_blob.specs.Following.{stage_of_events, MayBegin, most_open_nodes, MayHaveNextProperty, MayEnd, AllFollow}
use Rattle.bi_lay.specs.declared.items.Item.{Item}
use Rattle.bi_lay.specs.declared.items.Item.TheVariants.{Begin, Property, End}
use Rattle.bi_lay.specs.declared.items.Property.{Property as PropertyItem}
use Rattle.bi_lay.specs.Items.{event_of, events_of_items}
use Rattle.bi_lay.specs.Documents.{last, IsNewest, outer_nodes}

-- One more item adds its event to those of a document. A node that begins is open, a property is added to the innermost open node, and a
-- node that ends leaves the one around it.

-- The events of items with one more.
pub events-push : (items : List Item) (item : Item) → events_of_items (items ++ item ∷ []) ≡ events_of_items items ++ event_of item ∷ []
events-push items item = map-append event_of items (item ∷ [])

-- The stage after events with one more.
pub stage-push : (events : List Event) (event : Event) → stage_of_events (events ++ event ∷ []) ≡ next_stage (stage_of_events events) event
stage-push events event = fold-append next_stage BeforeRoot events (event ∷ [])

-- Events that may follow one another do so with one more that may follow them.
pub follow-push : (May : Stage → Event → Type 0) (stage : Stage) (events : List Event) (event : Event) → AllFollow May stage events →
    May (fold next_stage stage events) event → AllFollow May stage (events ++ event ∷ [])
follow-push May stage [] event follow may = (may, tt)
follow-push May stage (first ∷ later) event follow may = (follow.0, follow-push May (next_stage stage first) later event follow.1 may)

-- The last of a list with one more.
pub last-push : {X : Type 0} (xs : List X) (x : X) → last (xs ++ x ∷ []) ≡ Some x
last-push xs x =
    slice_get-get_or (xs ++ x ∷ []) (length (xs ++ x ∷ []) - 1) x (omega (arith, length-append xs (x ∷ [])))
    ∙ ap Some (ap (λ n. get_or (xs ++ x ∷ []) n x) (omega (arith, length-append xs (x ∷ []))) ∙ get_or-append_seam xs x [] x)

-- A list with one more is not empty.
pub push-some : {X : Type 0} (xs : List X) (x : X) → xs ++ x ∷ [] ≢ []
push-some [] x is = absurd (omega (arith, ap length is))
push-some (first ∷ later) x is = absurd (omega (arith, ap length is))

-- An event without a name of a property leaves the names as they are.
pub names-same : (events : List Event) (event : Event) → event_names event ≡ [] →
    distinct_names (used_names (events ++ event ∷ [])) ≡ distinct_names (used_names events)
names-same events event none =
    ap distinct_names (flat_map-append event_names events (event ∷ []) ∙ ap (λ names. used_names events ++ (names ++ [])) none
    ∙ append-nil (used_names events))

-- What holds of each open node but the innermost.
abbrev pub HasChild : OpenNode → Type 0
HasChild node = node.children ≢ []

-- A node that begins is one more open node, has nothing yet, and is a child of the one around it.
pub begun-depth : (stage : Stage) (name : List ℕ) → MayBegin most_open_nodes name stage →
    length (open_nodes (next_stage stage (NodeStart name))) ≡ length (open_nodes stage) + 1
begun-depth BeforeRoot name may = refl
begun-depth (Inside innermost outer) name may = omega arith
begun-depth AfterRoot name may = absurd may

pub begun-shallow : (stage : Stage) (name : List ℕ) → MayBegin most_open_nodes name stage → length (open_nodes stage) < 64
begun-shallow BeforeRoot name may = omega arith
begun-shallow (Inside innermost outer) name may = may.0
begun-shallow AfterRoot name may = absurd may

pub begun-newest : (stage : Stage) (name : Bor (List ℕ)) → IsNewest (Some (Begin name)) (next_stage stage (NodeStart name.now))
begun-newest BeforeRoot name = (refl, refl)
begun-newest (Inside innermost outer) name = (refl, refl)
begun-newest AfterRoot name = (refl, refl)

pub begun-parents : (stage : Stage) (name : List ℕ) → AllByRecursion HasChild (outer_nodes stage) →
    AllByRecursion HasChild (outer_nodes (next_stage stage (NodeStart name)))
begun-parents BeforeRoot name parents = tt
begun-parents (Inside innermost outer) name parents = (push-some innermost.children name, parents)
begun-parents AfterRoot name parents = tt

-- A node that gets a property stays the innermost open one.
pub added-depth : (stage : Stage) (name value : List ℕ) →
    length (open_nodes (next_stage stage (NodeProperty (name, value)))) ≡ length (open_nodes stage)
added-depth BeforeRoot name value = refl
added-depth (Inside innermost outer) name value = refl
added-depth AfterRoot name value = refl

pub added-newest : (stage : Stage) (property : PropertyItem) (value : List ℕ) → MayHaveNextProperty property.name.now stage →
    IsNewest (Some (Property property)) (next_stage stage (NodeProperty (property.name.now, value)))
added-newest BeforeRoot property value may = absurd may
added-newest (Inside innermost outer) property value may = (last-push innermost.properties property.name.now, may.0)
added-newest AfterRoot property value may = absurd may

pub added-parents : (stage : Stage) (name value : List ℕ) → AllByRecursion HasChild (outer_nodes stage) →
    AllByRecursion HasChild (outer_nodes (next_stage stage (NodeProperty (name, value))))
added-parents BeforeRoot name value parents = parents
added-parents (Inside innermost outer) name value parents = parents
added-parents AfterRoot name value parents = parents

-- A node that ends leaves the one around it, which has a child, or no node.
pub ended-depth : (stage : Stage) → MayEnd stage → length (open_nodes (next_stage stage NodeEnd)) + 1 ≡ length (open_nodes stage)
ended-depth BeforeRoot may = absurd may
ended-depth (Inside innermost []) may = refl
ended-depth (Inside innermost (parent ∷ outer)) may = omega arith
ended-depth AfterRoot may = absurd may

pub ended-newest : (stage : Stage) → MayEnd stage → AllByRecursion HasChild (outer_nodes stage) →
    IsNewest (Some End) (next_stage stage NodeEnd)
ended-newest BeforeRoot may parents = absurd may
ended-newest (Inside innermost []) may parents = tt
ended-newest (Inside innermost (parent ∷ outer)) may parents = parents.0
ended-newest AfterRoot may parents = absurd may

pub ended-parents : (stage : Stage) → AllByRecursion HasChild (outer_nodes stage) →
    AllByRecursion HasChild (outer_nodes (next_stage stage NodeEnd))
ended-parents BeforeRoot parents = parents
ended-parents (Inside innermost []) parents = tt
ended-parents (Inside innermost (parent ∷ outer)) parents = parents.1
ended-parents AfterRoot parents = parents
