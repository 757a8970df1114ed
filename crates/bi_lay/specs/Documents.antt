use Rattle.std.specs.Prelude.{◌≡◌, ◌≢◌, ◌+◌, ◌-◌, ◌≤◌, List, [], length}
use Rattle.std.specs.Prelude.{Option, Some, None, slice_get, vec_len, vec_capacity}
use Rattle.std.specs.List.{AllByRecursion}
use Rattle.bi_blob.specs.Stages.{Stage, BeforeRoot, Inside, AfterRoot, OpenNode, open_nodes}
use Rattle.bi_blob.specs.Layout.{used_names, distinct_names}
use Rattle.bi_lay.specs.declared.document.Doc.TheInside.{Inside as Fields}
use Rattle.bi_lay.specs.declared.items.Item.{Item}
use Rattle.bi_lay.specs.declared.items.Item.TheVariants.{Begin, Property, End}
use Rattle.bi_blob.specs.Following.{stage_of_events, AllFollow, MayFollowInText}
use Rattle.bi_lay.specs.Contents.{Doc}
use Rattle.bi_lay.specs.Items.{events_of_items, reservations_of, HasOffset}

-- What a document's fields hold, and what is true of them.

-- What the fields hold.
abbrev pub doc_model : Fields → Doc
doc_model doc = record {
  boot_cpu = doc.boot_cpu;
  reservations = reservations_of doc.reservations.items;
  events = events_of_items doc.items.items;
  names = doc.names.by_number;
}

-- The stage that the tree has reached.
abbrev pub stage_of_fields : Fields → Stage
stage_of_fields doc = stage_of_events (events_of_items doc.items.items)

-- The last of these, if there is one.
abbrev pub last : {X : Type 0} → List X → Option X
last xs = slice_get xs (length xs - 1)

-- The open nodes except the innermost.
abbrev pub outer_nodes : Stage → List OpenNode
outer_nodes (Inside innermost outer) = outer
outer_nodes stage = []

-- What the last item shows about the innermost open node.
abbrev pub IsNewest : Option Item → Stage → Type 0
IsNewest None BeforeRoot = Unit {0}
IsNewest (Some (Begin name)) (Inside innermost outer) =
    (innermost.properties ≡ []) × (innermost.children ≡ [])
IsNewest (Some (Property property)) (Inside innermost outer) =
    (last innermost.properties ≡ Some property.name.now) × (innermost.children ≡ [])
IsNewest (Some End) (Inside innermost outer) = innermost.children ≢ []
IsNewest (Some End) AfterRoot = Unit {0}
IsNewest item stage = ⊥

-- What is true of the fields. There is room for the ends of all open nodes.
pub record IsConsistentDocument (doc : Fields) : Type 0 where
  pub follow : AllFollow MayFollowInText BeforeRoot (events_of_items doc.items.items)
  pub is_depth : doc.depth ≡ length (open_nodes (stage_of_fields doc))
  pub shallow : doc.depth ≤ 64
  pub room : vec_len doc.items + doc.depth ≤ vec_capacity doc.items
  pub newest : IsNewest (last doc.items.items) (stage_of_fields doc)
  pub parents : AllByRecursion (λ node. node.children ≢ []) (outer_nodes (stage_of_fields doc))
  pub names : doc.names.in_block ≡ distinct_names (used_names (events_of_items doc.items.items))
  pub offsets : AllByRecursion (HasOffset doc.names.in_block) doc.items.items
