use Rattle.std.proofs.Common.{sym, ap, subst, ◌∙◌, arith, refl, cond, is_ok, ◌+◌, ◌++◌, ◌∷◌, [], vec_len}
use Rattle.bi_lay.specs.declared.items.Item.TheVariants.{End}
use Rattle.bi_blob.specs.Following.{stage_of_events, MayEnd}
use Rattle.bi_lay.specs.Documents.{stage_of_fields}
use Rattle.bi_lay.proofs.OneMoreItem.{ended-depth}
use Rattle.bi_lay.proofs.DocInvariant.{kept-ended}
use Rattle.bi_lay.proofs.document.Doc.end.Goals as goal

pub invariant_of-self : goal.invariant_of-self
invariant_of-self c =
    let ok = ap is_ok c.unwrap.ensures in
    let items = c.push.ensures.items ∙ ap (λ b. cond b (c.self.inside.items.items ++ End ∷ []) c.self.inside.items.items) ok in
    let len = c.push.ensures.len ∙ ap (λ b. cond b (vec_len c.self.inside.items + 1) (vec_len c.self.inside.items)) ok in
    let may = subst (λ content. MayEnd (stage_of_events content.events)) (sym c.self.view_is) c.requires in
    let depth = ended-depth (stage_of_fields c.self.inside) may in
    kept-ended c.self.inside _ c.self.invariant may
    (record { items = items; room = omega (arith, len, c.push.ensures.capacity, c.self.invariant.room, depth, c.self.invariant.is_depth) })
    (omega (arith, depth, c.self.invariant.is_depth)) refl
