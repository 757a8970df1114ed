use Rattle.std.proofs.Common.{sym, ap, subst, ◌∙◌, arith, refl, cond, is_ok, ◌+◌, ◌++◌, ◌∷◌, [], vec_len}
use Rattle.bi_lay.specs.declared.items.Item.{Item}
use Rattle.bi_lay.specs.declared.items.Item.TheVariants.{Property}
use Rattle.bi_blob.specs.Following.{stage_of_events, MayHaveNextProperty}
use Rattle.bi_lay.proofs.DocInvariant.{kept-added}
use Rattle.bi_lay.proofs.document.Doc.property.Goals as goal

pub invariant_of-self-2 : goal.invariant_of-self-2
invariant_of-self-2 c =
    let item : Item = Property (record { name = c.args.name; name_offset = c.in_ok-name_offset.name_offset; value = c.args.value }) in
    let ok = ap is_ok c.unwrap.ensures in
    let items = c.push.ensures.items ∙ ap (λ b. cond b (c.reserve.new.self.items ++ item ∷ []) c.reserve.new.self.items) ok
    ∙ ap (λ l. l ++ item ∷ []) c.in_ok-reserve.ensures.items in
    let len = c.push.ensures.len ∙ ap (λ b. cond b (vec_len c.reserve.new.self + 1) (vec_len c.reserve.new.self)) ok in
    kept-added c.self.inside _ _ c.self.invariant
    (subst (λ content. MayHaveNextProperty c.args.name.now (stage_of_events content.events)) (sym c.self.view_is) c.requires)
    (record { items = items; room = omega (arith, len, c.push.ensures.capacity, c.in_ok-reserve.ensures.ok) })
    refl (ap (λ names. names.in_block) c.in_ok-name_offset.ensures.names) c.in_ok-name_offset.ensures.offset
