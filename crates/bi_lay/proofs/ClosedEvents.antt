use Rattle.std.proofs.Common.{◌≡◌, ◌<◌, ◌-◌, List, [], ◌∷◌, length, Some, refl, ap, subst, arith, get_or, vec_len}
use Rattle.std.proofs.lemmas.Option.{slice_get-get_or}
use Rattle.bi_blob.specs.Stages.{Stage, BeforeRoot, Inside, AfterRoot, open_nodes}
use Rattle.bi_blob.specs.TextLaws.{HasOneNormalTree}
use Rattle.bi_blob.proofs.Texts.NormalEvents.{normal_events_have_one_tree}
use Rattle.bi_lay.specs.declared.document.Doc.TheInside.{Inside as Fields}
use Rattle.bi_lay.specs.declared.items.Item.{Item}
use Rattle.bi_lay.specs.declared.items.Item.TheVariants.{Begin, Property, End}
use Rattle.bi_lay.specs.Items.{events_of_items}
use Rattle.bi_lay.specs.Documents.{IsConsistentDocument, IsNewest, stage_of_fields}

-- A document without open nodes in which a node was begun holds one tree.

-- Where there is an item and no open node, the root has ended.
at_end : (stage : Stage) (item : Item) → IsNewest (Some item) stage → length (open_nodes stage) ≡ 0 → stage ≡ AfterRoot
at_end BeforeRoot (Begin name) newest none = absurd newest
at_end BeforeRoot (Property property) newest none = absurd newest
at_end BeforeRoot End newest none = absurd newest
at_end (Inside innermost outer) item newest none = absurd (omega arith)
at_end AfterRoot item newest none = refl

-- The root has ended.
ended : (doc : Fields) → IsConsistentDocument doc → doc.depth ≡ 0 → 0 < vec_len doc.items → (items : List Item) → items ≡ doc.items.items →
    stage_of_fields doc ≡ AfterRoot
ended doc kept none some [] is = absurd (omega (arith, some, doc.items.ok.0, ap length is))
ended doc kept none some (first ∷ later) is =
    at_end (stage_of_fields doc) (get_or doc.items.items (length doc.items.items - 1) first)
    (subst (λ item. IsNewest item (stage_of_fields doc))
    (slice_get-get_or doc.items.items (length doc.items.items - 1) first (omega (arith, ap length is))) kept.newest)
    (omega (arith, kept.is_depth, none))

-- The events are those of one tree.
pub closed_has_tree : (doc : Fields) → IsConsistentDocument doc → doc.depth ≡ 0 → 0 < vec_len doc.items →
    HasOneNormalTree (events_of_items doc.items.items)
closed_has_tree doc kept none some =
    (normal_events_have_one_tree (events_of_items doc.items.items)).0
    (record { follow = kept.follow; closed = ended doc kept none some doc.items.items refl })
