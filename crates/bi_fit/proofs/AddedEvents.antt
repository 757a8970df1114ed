use Rattle.std.proofs.Common.{◌≡◌, ℕ, List, [], ◌∷◌, ◌++◌, fold, sym, ap, subst, ◌∙◌, append_assoc, append-nil, Option, None, Some, IfSome}
use Rattle.std.proofs.Common.{rules}
use Rattle.std.proofs.lemmas.List.Sums.{fold-append}
use Rattle.bi_blob.specs.Tree.{PropertyMap}
use Rattle.bi_blob.specs.Events.{Event, NodeEnd}
use Rattle.bi_blob.specs.Stages.{Stage, next_stage}
use Rattle.bi_blob.specs.Following.{AllFollow, MayFollowInText, stage_of_events, MayEnd}
use Rattle.bi_lay.specs.Contents.{Doc, with_event}
use Rattle.bi_fdt.specs.Views.{table_of_node}
use Rattle.bi_fdt.specs.declared.node.NodeRef.{NodeRef}
use Rattle.bi_fit.specs.declared.name_order.NameOrder.{NameOrder}
use Rattle.bi_fit.specs.NameOrders.{HasOrder}
use Rattle.bi_fit.specs.NormalNodes.{with_events, MayAdd, begin_events}

-- Events that are added to a document in turn are added together, may be added in two parts, and keep its names and an order by these.

-- None change it.
pub with_events-none : (document : Doc) → with_events document [] ≡ document
with_events-none document = ap (λ l. record document { events = l }) (append-nil document.events)

-- Some events and others.
pub with_events-append : (document : Doc) (events later : List Event) →
    with_events (with_events document events) later ≡ with_events document (events ++ later)
with_events-append document events later = ap (λ l. record document { events = l }) (append_assoc document.events events later)

-- The names that may be given by number stay the same,
pub document_keeps_names : (document more : Doc) (events : List Event) → more ≡ with_events document events → more.names ≡ document.names
document_keeps_names document more events is = ap (λ document. document.names) is

-- so that an order by these stays one by these.
pub still_ordered : (order : NameOrder) (node : NodeRef) (document more : Doc) (events : List Event) → more ≡ with_events document events →
    HasOrder document.names order node → HasOrder more.names order node
still_ordered order node document more events is has = subst (λ names. HasOrder names order node)
    (sym (document_keeps_names document more events is)) has

-- The order is of the next node, if there is one.
abbrev pub HasNextOrder : List (List ℕ) → NameOrder → Option NodeRef → Type 0
HasNextOrder names order next = IfSome next (HasOrder names order)

-- The next node is of the same table, if there is one.
abbrev pub HasNextTable : NodeRef → Option NodeRef → Type 0
HasNextTable node next = IfSome next (λ other. table_of_node other ≡ table_of_node node)

-- An order of a node is one of a node of the same table,
pub ordered_next : (names : List (List ℕ)) (order : NameOrder) (node : NodeRef) (next : Option NodeRef) → HasNextTable node next →
    HasOrder names order node → HasNextOrder names order next
ordered_next names order node None same has = tt
ordered_next names order node (Some other) same has = search rules

-- also once events were added.
pub still_ordered_next : (order : NameOrder) (node : NodeRef) (next : Option NodeRef) (document more : Doc) (events : List Event) →
    more ≡ with_events document events → HasNextTable node next → HasOrder document.names order node → HasNextOrder more.names order next
still_ordered_next order node next document more events is same has =
    ordered_next more.names order node next same (still_ordered order node document more events is has)

-- Of events that may follow one another, the first of them may,
follow-front : (stage : Stage) (events later : List Event) → AllFollow MayFollowInText stage (events ++ later) →
    AllFollow MayFollowInText stage events
follow-front stage [] later follow = tt
follow-front stage (event ∷ events) later follow = (follow.0, follow-front (next_stage stage event) events later follow.1)

-- and the others may after them.
follow-back : (stage : Stage) (events later : List Event) → AllFollow MayFollowInText stage (events ++ later) →
    AllFollow MayFollowInText (fold next_stage stage events) later
follow-back stage [] later follow = follow
follow-back stage (event ∷ events) later follow = follow-back (next_stage stage event) events later follow.1

-- The first of some events may be added,
pub MayAdd-front : (document : Doc) (events later : List Event) → MayAdd document (events ++ later) → MayAdd document events
MayAdd-front document events later may = follow-front (stage_of_events document.events) events later may

-- and the others after them.
pub MayAdd-back : (document : Doc) (events later : List Event) → MayAdd document (events ++ later) →
    MayAdd (with_events document events) later
MayAdd-back document events later may = search (rules, fold-append, follow-back)

-- Nodes with the same name and the same properties begin in the same way.
pub begin_events-same : (name other : List ℕ) (properties others : PropertyMap) → name ≡ other → properties ≡ others →
    begin_events name properties ≡ begin_events other others
begin_events-same name other properties others same_name same = ap (λ name. begin_events name properties) same_name
    ∙ ap (begin_events other) same

-- A node is added by some events that begin it, those of its children, and its end.
module _ (document : Doc) (begin children : List Event) where
  -- The whole of it.
  abbrev pub whole : List Event
  whole = begin ++ (children ++ (NodeEnd ∷ []))

  -- Where the node may be added, it may begin,
  pub may_begin : MayAdd document whole → MayAdd document begin
  may_begin may = MayAdd-front document begin (children ++ (NodeEnd ∷ [])) may

  -- its children may follow,
  pub may_have_children : (begun : Doc) → begun ≡ with_events document begin → MayAdd document whole → MayAdd begun children
  may_have_children begun is may = search (rules, MayAdd-front, MayAdd-back)

  -- it may end,
  pub may_end : (begun filled : Doc) → begun ≡ with_events document begin → filled ≡ with_events begun children → MayAdd document whole →
      MayEnd (stage_of_events filled.events)
  may_end begun filled is is_filled may = search (rules, MayAdd-back)

  -- and then all of it was added.
  pub whole_added : (begun filled : Doc) → begun ≡ with_events document begin → filled ≡ with_events begun children →
      with_event filled NodeEnd ≡ with_events document whole
  whole_added begun filled is is_filled = search (rules, with_events-append)
