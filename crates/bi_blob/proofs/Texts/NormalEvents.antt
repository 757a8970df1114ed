use Rattle.std.proofs.Common.{◌≡◌, ◌≢◌, ℕ, Bool, true, false, T, List, [], ◌∷◌, ◌++◌, length, map, Option, Some, None, Ordering, Less}
use Rattle.std.proofs.Common.{Equal, Greater, is_lt, refl, sym, ap, subst, ◌∙◌, arith, nat_cmp, rules}
use Rattle.std.specs.Prelude.{◌&&◌, IfSome, ⊤}
use Rattle.std.specs.List.{AllByRecursion, slice_get}
use Rattle.std.specs.Cmp.Lexicographic.{slice_cmp}
use Rattle.std.specs.FinMap.{is_sorted}
use Rattle.std.specs.FinMap.Entries.{below_all}
use Rattle.std.proofs.lemmas.Cmp.{nat_list_cmp_total}
use Rattle.std.proofs.lemmas.List.{append_assoc, append-nil, length_push}
use Rattle.bi_base.proofs.ListMembers.{each-weaker}
use Rattle.bi_blob.specs.Tree.{Nodes, none, node, Root, Property, names, EachOwn, IsNew, IsNormal}
use Rattle.bi_blob.specs.Events.{Event, NodeStart, NodeProperty, NodeEnd, events, events_of}
use Rattle.bi_blob.specs.Stages.{Stage, BeforeRoot, Inside, AfterRoot, OpenNode, next_stage, open_nodes}
use Rattle.bi_blob.specs.Following.{most_open_nodes, last_name, MayFollow, MayFollowInText, AllFollow, AreClosedEvents}
use Rattle.bi_blob.specs.BlobLaws.{HasOneTree}
use Rattle.bi_blob.specs.TextLaws.{NormalEventsHaveOneTree, HasOneNormalTree}
use Rattle.bi_blob.proofs.Blobs.OpenNodes.{All-push}
use Rattle.bi_blob.proofs.Blobs.OneTree.{append-regroup}
use Rattle.bi_blob.proofs.Blobs.EventOrder.{open_with, property_names_of}
use Rattle.bi_blob.proofs.Blobs.EventTrees.{closed_events_have_one_tree}
use Rattle.bi_blob.proofs.Texts.PropertyOrder.{both_pass, below_other}

-- Events that may follow one another in a normal text are those of a normal tree.

-- A name is before another in byte order.
abbrev pub IsBefore : List ℕ → List ℕ → Type 0
IsBefore name other = slice_cmp nat_cmp name other ≡ Less

-- The last of some names and one more is that one.
last_name-push : (ns : List (List ℕ)) (name : List ℕ) → last_name (ns ++ name ∷ []) ≡ Some name
last_name-push ns name =
    ap (λ n. slice_get (ns ++ name ∷ []) n) (omega (arith, length_push ns name)) ∙ there ns
  where
    there : (ns : List (List ℕ)) → slice_get (ns ++ name ∷ []) (length ns) ≡ Some name
    there [] = refl
    there (n ∷ ns) = there ns

-- What is after the last of these names is after each of them.
abbrev pub IsRising : List (List ℕ) → Type 0
IsRising ns = (name : List ℕ) → IfSome (last_name ns) (λ last. IsBefore last name) → AllByRecursion (λ n. IsBefore n name) ns

-- Rising names stay so with one more that is after their last.
IsRising-push : (ns : List (List ℕ)) (name : List ℕ) → IsRising ns → IfSome (last_name ns) (λ last. IsBefore last name) →
    IsRising (ns ++ name ∷ [])
IsRising-push ns name rising next other after = search (rules, last_name-push, All-push, each-weaker, nat_list_cmp_total)

-- A name that is after others is new among them.
new_after : (name : List ℕ) (ns : List (List ℕ)) → AllByRecursion (λ n. IsBefore n name) ns → IsNew name ns
new_after name ns before =
    each-weaker (λ n. IsBefore n name) (λ n. n ≢ name)
    (λ n is same. below_other n name (subst (λ o. T (is_lt o)) (sym is) tt) (sym same)) ns before

-- A property comes after the last one of its node in byte order.
abbrev pub IsInOrder : Stage → Event → Type 0
IsInOrder (Inside innermost outer) (NodeProperty property) =
    IfSome (last_name innermost.properties) (λ last. IsBefore last property.0)
IsInOrder stage event = ⊤

-- The properties of all open nodes rise.
abbrev pub AllRise : Stage → Type 0
AllRise stage = AllByRecursion (λ (o : OpenNode). IsRising o.properties) (open_nodes stage)

-- No names rise.
none_rise : IsRising []
none_rise name next = tt

-- What may follow in a normal text may follow in a blob, and in order.
in_text : (stage : Stage) (event : Event) → AllRise stage → MayFollowInText stage event →
    MayFollow most_open_nodes stage event × IsInOrder stage event
in_text BeforeRoot (NodeStart name) rise may = (may, tt)
in_text (Inside innermost outer) (NodeStart name) rise may = (may, tt)
in_text AfterRoot (NodeStart name) rise may = (may, tt)
in_text BeforeRoot (NodeProperty property) rise may = absurd may
in_text (Inside innermost outer) (NodeProperty property) rise may =
    ((may.0, may.1, new_after property.0 innermost.properties (rise.0 property.0 may.2)), may.2)
in_text AfterRoot (NodeProperty property) rise may = absurd may
in_text BeforeRoot NodeEnd rise may = (may, tt)
in_text (Inside innermost outer) NodeEnd rise may = (may, tt)
in_text AfterRoot NodeEnd rise may = (may, tt)

-- The properties of all open nodes rise after what may follow in a normal text.
rise_more : (stage : Stage) (event : Event) → AllRise stage → MayFollowInText stage event → AllRise (next_stage stage event)
rise_more BeforeRoot (NodeStart name) rise may = (none_rise, tt)
rise_more (Inside innermost outer) (NodeStart name) rise may = (none_rise, rise)
rise_more AfterRoot (NodeStart name) rise may = (none_rise, tt)
rise_more BeforeRoot (NodeProperty property) rise may = tt
rise_more (Inside innermost outer) (NodeProperty property) rise may =
    (IsRising-push innermost.properties property.0 rise.0 may.2, rise.1)
rise_more AfterRoot (NodeProperty property) rise may = tt
rise_more BeforeRoot NodeEnd rise may = tt
rise_more (Inside innermost []) NodeEnd rise may = tt
rise_more (Inside innermost (parent ∷ outer)) NodeEnd rise may = rise.1
rise_more AfterRoot NodeEnd rise may = tt

-- Events that may follow in a normal text may follow in a blob.
follow_in_blob : (stage : Stage) (later : List Event) → AllRise stage → AllFollow MayFollowInText stage later →
    AllFollow (MayFollow most_open_nodes) stage later
follow_in_blob stage [] rise follow = tt
follow_in_blob stage (event ∷ later) rise follow =
    search (rules, in_text, rise_more, follow_in_blob (next_stage stage event) later (rise_more stage event rise follow.0) follow.1)

-- They follow in order.
follow_in_order : (stage : Stage) (later : List Event) → AllRise stage → AllFollow MayFollowInText stage later →
    AllFollow IsInOrder stage later
follow_in_order stage [] rise follow = tt
follow_in_order stage (event ∷ later) rise follow =
    search (rules, in_text, rise_more, follow_in_order (next_stage stage event) later (rise_more stage event rise follow.0) follow.1)

-- What may follow in a blob, and in order, may follow in a normal text.
in_blob : (stage : Stage) (event : Event) → MayFollow most_open_nodes stage event → IsInOrder stage event → MayFollowInText stage event
in_blob stage (NodeStart name) may ordered = may
in_blob BeforeRoot (NodeProperty property) may ordered = absurd may
in_blob (Inside innermost outer) (NodeProperty property) may ordered = (may.0, may.1, ordered)
in_blob AfterRoot (NodeProperty property) may ordered = absurd may
in_blob stage NodeEnd may ordered = may

follow_in_text : (stage : Stage) (later : List Event) → AllFollow (MayFollow most_open_nodes) stage later →
    AllFollow IsInOrder stage later → AllFollow MayFollowInText stage later
follow_in_text stage [] follow ordered = tt
follow_in_text stage (event ∷ later) follow ordered =
    (in_blob stage event follow.0 ordered.0, follow_in_text (next_stage stage event) later follow.1 ordered.1)

-- Each of these properties is after the one before it, the first after the last of some names.
abbrev pub AreChained : Option (List ℕ) → List Property → Type 0
AreChained last [] = ⊤
AreChained last (property ∷ later) = IfSome last (λ n. IsBefore n property.0) × AreChained (Some property.0) later

-- Two tests that hold, hold together.
pub both_hold : (a b : Bool) → T a → T b → T (a && b)
both_hold true b first second = second
both_hold false b first second = absurd first

is_Less : (o : Ordering) → T (is_lt o) → o ≡ Less
is_Less Less is = refl
is_Less Equal is = absurd is
is_Less Greater is = absurd is

-- What is before a name is before all that the name is before.
below_more : (name other : List ℕ) (properties : List Property) → IsBefore name other → T (below_all (slice_cmp nat_cmp) other properties) →
    T (below_all (slice_cmp nat_cmp) name properties)
below_more name other [] before below = tt
below_more name other (property ∷ later) before below =
    let both = both_pass (is_lt (slice_cmp nat_cmp other property.0)) (below_all (slice_cmp nat_cmp) other later) below in
    search (rules, both_hold, is_lt, nat_list_cmp_total, is_Less, below_more name other later before both.1)

-- Properties in a chain are in byte order, after the name before the chain.
chain_sorted_after : (name : List ℕ) (properties : List Property) → AreChained (Some name) properties →
    T (below_all (slice_cmp nat_cmp) name properties) × T (is_sorted (slice_cmp nat_cmp) properties)
chain_sorted_after name [] chained = (tt, tt)
chain_sorted_after name (property ∷ later) chained =
    search (rules, both_hold, is_lt, below_more, chain_sorted_after property.0 later chained.1)

chain_sorted : (properties : List Property) → AreChained None properties → T (is_sorted (slice_cmp nat_cmp) properties)
chain_sorted [] chained = tt
chain_sorted (property ∷ later) chained = search (rules, chain_sorted_after, both_hold)

-- Properties in byte order are a chain.
sorted_chain_after : (name : List ℕ) (properties : List Property) → T (below_all (slice_cmp nat_cmp) name properties) →
    T (is_sorted (slice_cmp nat_cmp) properties) → AreChained (Some name) properties
sorted_chain_after name [] below sorted = tt
sorted_chain_after name (property ∷ later) below sorted =
    let first = both_pass (is_lt (slice_cmp nat_cmp name property.0)) (below_all (slice_cmp nat_cmp) name later) below in
    let both = both_pass (below_all (slice_cmp nat_cmp) property.0 later) (is_sorted (slice_cmp nat_cmp) later) sorted in
    (is_Less (slice_cmp nat_cmp name property.0) first.0, sorted_chain_after property.0 later both.0 both.1)

sorted_chain : (properties : List Property) → T (is_sorted (slice_cmp nat_cmp) properties) → AreChained None properties
sorted_chain [] sorted = tt
sorted_chain (property ∷ later) sorted = search (rules, both_pass, sorted_chain_after)

-- The properties of each of these nodes are in byte order.
abbrev pub AreSorted : Nodes (List Property) → Type 0
AreSorted nodes = EachOwn (λ properties. T (is_sorted (slice_cmp nat_cmp) properties)) nodes

-- Properties that follow in order are a chain.
properties_chained : (ps : List Property) (ns : List (List ℕ)) (outer : List OpenNode) (later : List Event) →
    AllFollow IsInOrder (Inside (open_with ns []) outer) (map NodeProperty ps ++ later) →
    AreChained (last_name ns) ps × AllFollow IsInOrder (Inside (open_with (ns ++ property_names_of ps) []) outer) later
properties_chained [] ns outer later follow = search (rules, open_with, append-nil)
properties_chained (p ∷ ps) ns outer later follow =
    search (rules, last_name-push, open_with, append_assoc, property_names_of, properties_chained ps (ns ++ p.0 ∷ []) outer later follow.1)

-- A chain of properties follows in order.
chained_properties : (ps : List Property) (ns : List (List ℕ)) (outer : List OpenNode) (later : List Event) → AreChained (last_name ns) ps →
    AllFollow IsInOrder (Inside (open_with (ns ++ property_names_of ps) []) outer) later →
    AllFollow IsInOrder (Inside (open_with ns []) outer) (map NodeProperty ps ++ later)
chained_properties [] ns outer later chained follow =
    subst (λ l. AllFollow IsInOrder (Inside (open_with l []) outer) later) (append-nil ns) follow
chained_properties (p ∷ ps) ns outer later chained follow = (
  chained.0,
  chained_properties ps (ns ++ p.0 ∷ []) outer later
      (subst (λ last. AreChained last ps) (sym (last_name-push ns p.0)) chained.1)
      (subst (λ l. AllFollow IsInOrder (Inside (open_with l []) outer) later)
      (sym (append_assoc ns (p.0 ∷ []) (property_names_of ps))) follow),
)

-- Nodes whose events follow in order have their properties in byte order.
nodes_sorted : (nodes : Nodes (List Property)) (ns cs : List (List ℕ)) (outer : List OpenNode) (later : List Event) →
    AllFollow IsInOrder (Inside (open_with ns cs) outer) (events nodes ++ later) →
    AreSorted nodes × AllFollow IsInOrder (Inside (open_with ns (cs ++ names nodes)) outer) later
nodes_sorted none ns cs outer later follow = search (rules, open_with, append-nil)
nodes_sorted (node name ps children siblings) ns cs outer later follow =
    let round : List OpenNode = open_with ns (cs ++ name ∷ []) ∷ outer in
    let trailing : List Event = NodeEnd ∷ (events siblings ++ later) in
    let inside : AllFollow IsInOrder (Inside (open_with [] []) round) (map NodeProperty ps ++ (events children ++ trailing)) =
    search (rules, open_with, append-regroup) in
    let own : AreChained None ps × AllFollow IsInOrder (Inside (open_with (property_names_of ps) []) round) (events children ++ trailing) =
    properties_chained ps [] round (events children ++ trailing) inside in
    let below : AreSorted children × AllFollow IsInOrder (Inside (open_with (property_names_of ps) (names children)) round) trailing =
    nodes_sorted children (property_names_of ps) [] round trailing own.1 in
    let after : AreSorted siblings × AllFollow IsInOrder (Inside (open_with ns ((cs ++ name ∷ []) ++ names siblings)) outer) later =
    nodes_sorted siblings ns (cs ++ name ∷ []) outer later below.1.1 in (
      (chain_sorted ps own.0, below.0, after.0),
      subst (λ l. AllFollow IsInOrder (Inside (open_with ns l) outer) later) (append_assoc cs (name ∷ []) (names siblings)) after.1,
    )

-- The events of nodes with their properties in byte order follow in order.
sorted_nodes : (nodes : Nodes (List Property)) (ns cs : List (List ℕ)) (outer : List OpenNode) (later : List Event) → AreSorted nodes →
    AllFollow IsInOrder (Inside (open_with ns (cs ++ names nodes)) outer) later →
    AllFollow IsInOrder (Inside (open_with ns cs) outer) (events nodes ++ later)
sorted_nodes none ns cs outer later sorted follow =
    subst (λ l. AllFollow IsInOrder (Inside (open_with ns l) outer) later) (append-nil cs) follow
sorted_nodes (node name ps children siblings) ns cs outer later sorted follow =
    let round : List OpenNode = open_with ns (cs ++ name ∷ []) ∷ outer in
    let trailing : List Event = NodeEnd ∷ (events siblings ++ later) in
    let after : AllFollow IsInOrder (Inside (open_with ns (cs ++ name ∷ [])) outer) (events siblings ++ later) =
    sorted_nodes siblings ns (cs ++ name ∷ []) outer later sorted.2
    (subst (λ l. AllFollow IsInOrder (Inside (open_with ns l) outer) later) (sym (append_assoc cs (name ∷ []) (names siblings))) follow) in
    let below : AllFollow IsInOrder (Inside (open_with (property_names_of ps) []) round) (events children ++ trailing) =
    sorted_nodes children (property_names_of ps) [] round trailing sorted.1 (tt, after) in
    let inside : AllFollow IsInOrder (Inside (open_with [] []) round) (map NodeProperty ps ++ (events children ++ trailing)) =
    chained_properties ps [] round (events children ++ trailing) (sorted_chain ps sorted.0) below in (
      tt,
      subst (AllFollow IsInOrder (Inside (open_with [] []) round))
          (sym (append-regroup (map NodeProperty ps) (events children) (NodeEnd ∷ events siblings) later)) inside,
    )

-- A tree whose events follow in order is normal.
tree_sorted : (root : Root (List Property)) → AllFollow IsInOrder BeforeRoot (events_of root) → IsNormal root
tree_sorted root follow = search (rules, properties_chained, nodes_sorted, property_names_of, chain_sorted)

-- The events of a normal tree follow in order.
sorted_tree : (root : Root (List Property)) → IsNormal root → AllFollow IsInOrder BeforeRoot (events_of root)
sorted_tree root normal = search (rules, open_with, property_names_of, sorted_nodes, chained_properties, sorted_chain)

-- Closed events of a normal text are those of one normal tree.
one_normal_tree : (events : List Event) → AreClosedEvents MayFollowInText events → HasOneNormalTree events
one_normal_tree events closed =
    let tree : HasOneTree most_open_nodes events = (closed_events_have_one_tree most_open_nodes events).0
    (search (rules, follow_in_blob)) in
    record {
      tree = tree;
      is_normal = tree_sorted tree.root
          (search (rules, follow_in_order));
    }

-- The events of a normal tree may follow one another, and end its root.
normal_tree_closes : (events : List Event) → HasOneNormalTree events → AreClosedEvents MayFollowInText events
normal_tree_closes events normal =
    let closed : AreClosedEvents (MayFollow most_open_nodes) events = (closed_events_have_one_tree most_open_nodes events).1 normal.tree in
    search (rules, follow_in_text, sorted_tree)

-- Closed events of a normal text are those of one normal tree, and only those are closed.
pub normal_events_have_one_tree : NormalEventsHaveOneTree
normal_events_have_one_tree events = (one_normal_tree events, normal_tree_closes events)
