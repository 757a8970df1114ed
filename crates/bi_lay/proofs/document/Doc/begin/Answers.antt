use Rattle.std.proofs.Common.{sym, ap, subst, ◌∙◌, arith, refl, cond, is_ok, ◌+◌, ◌++◌, ◌∷◌, [], vec_len}
use Rattle.bi_lay.specs.declared.items.Item.TheVariants.{Begin}
use Rattle.bi_blob.specs.Following.{stage_of_events, MayBegin, most_open_nodes}
use Rattle.bi_lay.proofs.DocInvariant.{kept-begun}
use Rattle.bi_lay.proofs.document.Doc.begin.Goals as goal

pub invariant_of-self-2 : goal.invariant_of-self-2
invariant_of-self-2 c =
    let ok = ap is_ok c.unwrap.ensures in
    let items = c.push.ensures.items ∙ ap (λ b. cond b (c.reserve.new.self.items ++ Begin c.args.name ∷ []) c.reserve.new.self.items) ok
    ∙ ap (λ l. l ++ Begin c.args.name ∷ []) c.in_ok-reserve.ensures.items in
    let len = c.push.ensures.len ∙ ap (λ b. cond b (vec_len c.reserve.new.self + 1) (vec_len c.reserve.new.self)) ok in
    kept-begun c.self.inside _ c.args.name c.self.invariant
    (subst (λ content. MayBegin most_open_nodes c.args.name.now (stage_of_events content.events)) (sym c.self.view_is) c.requires)
    (record { items = items; room = omega (arith, len, c.push.ensures.capacity, c.in_ok-reserve.ensures.ok) })
    refl refl
