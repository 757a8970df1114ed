use Rattle.std.proofs.Common.{◌≡◌, ℕ, ◌+◌, ◌≤◌, List, [], ◌∷◌, ◌++◌, length, Some, Bor, Contains, refl, sym, ap, subst, ◌∙◌, arith, vec_len}
use Rattle.std.proofs.Common.{vec_capacity}
use Rattle.std.specs.List.{AllByRecursion}
use Rattle.bi_base.proofs.ListMembers.{each-append}
use Rattle.bi_blob.specs.Events.{NodeStart, NodeEnd}
use Rattle.bi_blob.specs.Stages.{BeforeRoot, next_stage, open_nodes}
use Rattle.bi_blob.specs.Layout.{offset_in, used_names, distinct_names}
use Rattle.bi_lay.specs.declared.document.Doc.TheInside.{Inside as Fields}
use Rattle.bi_lay.specs.declared.items.Item.{Item}
use Rattle.bi_lay.specs.declared.items.Item.TheVariants.{Begin, Property, End}
use Rattle.bi_lay.specs.declared.items.Property.{Property as PropertyItem}
use Rattle.bi_lay.specs.Names.{with_name, saturated_usize}
use Rattle.bi_lay.specs.Items.{event_of, events_of_items, HasOffset}
use Rattle.bi_lay.specs.Values.{value_bytes}
use Rattle.bi_blob.specs.Following.{stage_of_events, MayBegin, most_open_nodes, MayHaveNextProperty, MayEnd, MayFollowInText, AllFollow}
use Rattle.bi_lay.specs.Documents.{IsConsistentDocument, IsNewest, last, stage_of_fields, outer_nodes}
use Rattle.bi_lay.proofs.OneMoreItem.{HasChild, events-push, stage-push, follow-push, last-push, names-same, begun-depth, begun-shallow}
use Rattle.bi_lay.proofs.OneMoreItem.{begun-newest, begun-parents, added-depth, added-newest, added-parents, ended-depth, ended-newest}
use Rattle.bi_lay.proofs.OneMoreItem.{ended-parents}
use Rattle.bi_lay.proofs.UsedNames.{names-push, with_name-has, each-with_name}

-- What is true of a document's fields is so after one more item.

-- Fields with one more item than others, and room for the ends of the open nodes.
pub record HasOneMore (old new : Fields) (item : Item) : Type 0 where
  pub items : new.items.items ≡ old.items.items ++ item ∷ []
  pub room : vec_len new.items + new.depth ≤ vec_capacity new.items

-- Where the tree has come to with one more item.
pub stage-more : (old new : Fields) (item : Item) → HasOneMore old new item →
    stage_of_fields new ≡ next_stage (stage_of_fields old) (event_of item)
stage-more old new item more =
    ap (λ items. stage_of_events (events_of_items items)) more.items ∙ ap stage_of_events (events-push old.items.items item)
    ∙ stage-push (events_of_items old.items.items) (event_of item)

-- Each event may follow those before it, with one more that may follow them.
follow-more : (old new : Fields) (item : Item) → HasOneMore old new item →
    AllFollow MayFollowInText BeforeRoot (events_of_items old.items.items) → MayFollowInText (stage_of_fields old) (event_of item) →
    AllFollow MayFollowInText BeforeRoot (events_of_items new.items.items)
follow-more old new item more follow may =
    rw (ap events_of_items more.items ∙ events-push old.items.items item)
    (follow-push MayFollowInText BeforeRoot (events_of_items old.items.items) (event_of item) follow may)

-- The last of the items is the one that was added.
newest-more : (old new : Fields) (item : Item) → HasOneMore old new item →
    IsNewest (Some item) (next_stage (stage_of_fields old) (event_of item)) → IsNewest (last new.items.items) (stage_of_fields new)
newest-more old new item more newest =
    rw (ap last more.items ∙ last-push old.items.items item, stage-more old new item more) newest

-- The names of the events with one more that has no name of a property.
names-more : (old new : Fields) (item : Item) → HasOneMore old new item →
    distinct_names (used_names (events_of_items old.items.items ++ event_of item ∷ [])) ≡ new.names.in_block →
    new.names.in_block ≡ distinct_names (used_names (events_of_items new.items.items))
names-more old new item more is =
    sym is ∙ sym (ap (λ items. distinct_names (used_names (events_of_items items))) more.items
    ∙ ap (λ events. distinct_names (used_names events)) (events-push old.items.items item))

-- The same of all offsets.
offsets-more : (old new : Fields) (item : Item) → HasOneMore old new item → AllByRecursion (HasOffset new.names.in_block) old.items.items →
    HasOffset new.names.in_block item → AllByRecursion (HasOffset new.names.in_block) new.items.items
offsets-more old new item more each has =
    subst (AllByRecursion (HasOffset new.names.in_block)) (sym more.items)
    (each-append (HasOffset new.names.in_block) old.items.items (item ∷ []) each (has, tt))

-- A node begins.
pub kept-begun : (old new : Fields) (name : Bor (List ℕ)) → IsConsistentDocument old →
    MayBegin most_open_nodes name.now (stage_of_fields old) → HasOneMore old new (Begin name) → new.depth ≡ old.depth + 1 →
    new.names.in_block ≡ old.names.in_block → IsConsistentDocument new
kept-begun old new name kept may more deeper same = record {
  follow = follow-more old new (Begin name) more kept.follow may;
  is_depth = deeper ∙ (omega (arith, kept.is_depth, begun-depth (stage_of_fields old) name.now may))
      ∙ ap (λ stage. length (open_nodes stage)) (sym (stage-more old new (Begin name) more));
  shallow = omega (arith, deeper, kept.is_depth, begun-shallow (stage_of_fields old) name.now may);
  room = more.room;
  newest = newest-more old new (Begin name) more (begun-newest (stage_of_fields old) name);
  parents = subst (λ stage. AllByRecursion HasChild (outer_nodes stage)) (sym (stage-more old new (Begin name) more))
      (begun-parents (stage_of_fields old) name.now kept.parents);
  names = names-more old new (Begin name) more
      (names-same (events_of_items old.items.items) (NodeStart name.now) refl ∙ sym kept.names ∙ sym same);
  offsets = offsets-more old new (Begin name) more
      (subst (λ names. AllByRecursion (HasOffset names) old.items.items) (sym same) kept.offsets) tt;
}

-- A node ends.
pub kept-ended : (old new : Fields) → IsConsistentDocument old → MayEnd (stage_of_fields old) → HasOneMore old new End →
    new.depth + 1 ≡ old.depth → new.names.in_block ≡ old.names.in_block → IsConsistentDocument new
kept-ended old new kept may more less same = record {
  follow = follow-more old new End more kept.follow may;
  is_depth = (omega (arith, less, kept.is_depth, ended-depth (stage_of_fields old) may))
      ∙ ap (λ stage. length (open_nodes stage)) (sym (stage-more old new End more));
  shallow = omega (arith, less, kept.shallow);
  room = more.room;
  newest = newest-more old new End more (ended-newest (stage_of_fields old) may kept.parents);
  parents = subst (λ stage. AllByRecursion HasChild (outer_nodes stage)) (sym (stage-more old new End more))
      (ended-parents (stage_of_fields old) kept.parents);
  names = names-more old new End more (names-same (events_of_items old.items.items) NodeEnd refl ∙ sym kept.names ∙ sym same);
  offsets = offsets-more old new End more (subst (λ names. AllByRecursion (HasOffset names) old.items.items) (sym same) kept.offsets) tt;
}

-- A node gets a property.
pub kept-added : (old new : Fields) (property : PropertyItem) → IsConsistentDocument old →
    MayHaveNextProperty property.name.now (stage_of_fields old) → HasOneMore old new (Property property) → new.depth ≡ old.depth →
    new.names.in_block ≡ with_name old.names.in_block property.name.now →
    property.name_offset ≡ saturated_usize (offset_in new.names.in_block property.name.now) →
    IsConsistentDocument new
kept-added old new property kept may more same names is_offset = record {
  follow = follow-more old new (Property property) more kept.follow may;
  is_depth = same ∙ kept.is_depth ∙ sym (added-depth (stage_of_fields old) property.name.now (value_bytes property.value))
      ∙ ap (λ stage. length (open_nodes stage)) (sym (stage-more old new (Property property) more));
  shallow = omega (arith, same, kept.shallow);
  room = more.room;
  newest = newest-more old new (Property property) more (added-newest (stage_of_fields old) property (value_bytes property.value) may);
  parents = subst (λ stage. AllByRecursion HasChild (outer_nodes stage)) (sym (stage-more old new (Property property) more))
      (added-parents (stage_of_fields old) property.name.now (value_bytes property.value) kept.parents);
  names = names-more old new (Property property) more
      (names-push (events_of_items old.items.items) (
        property.name.now,
        value_bytes property.value,
      ) ∙ ap (λ l. with_name l property.name.now) (sym kept.names) ∙ sym names);
  offsets = offsets-more old new (Property property) more
      (subst (λ l. AllByRecursion (HasOffset l) old.items.items) (sym names)
      (each-with_name old.names.in_block property.name.now old.items.items kept.offsets))
      (subst (λ l. Contains l property.name.now) (sym names) (with_name-has old.names.in_block property.name.now), is_offset);
}
