use Rattle.std.proofs.Common.{◌≡◌, sym, ap, subst, ◌∙◌, arith, refl, cond, is_ok, ◌+◌, ◌++◌, ◌∷◌, [], vec_len}
use Rattle.bi_lay.specs.declared.items.Item.{Item}
use Rattle.bi_lay.specs.declared.items.Item.TheVariants.{Property}
use Rattle.bi_blob.specs.Following.{stage_of_events, MayHaveNextProperty}
use Rattle.bi_blob.specs.Layout.{offset_in}
use Rattle.bi_lay.specs.Contents.{name_numbered}
use Rattle.bi_lay.specs.Names.{saturated_usize, with_name}
use Rattle.bi_lay.specs.Documents.{stage_of_fields}
use Rattle.bi_lay.proofs.DocInvariant.{kept-added}
use Rattle.bi_lay.proofs.document.Doc.property_numbered.Goals as goal

pub invariant_of-self-2 : goal.invariant_of-self-2
invariant_of-self-2 c =
    let item : Item = Property (record {
      name = c.name-name.result;
      name_offset = c.in_ok-name_offset.name_offset;
      value = c.args.value;
    }) in
    let ok = ap is_ok c.unwrap.ensures in
    let items = c.push.ensures.items ∙ ap (λ b. cond b (c.reserve.new.self.items ++ item ∷ []) c.reserve.new.self.items) ok
    ∙ ap (λ l. l ++ item ∷ []) c.in_ok-reserve.ensures.items in
    let len = c.push.ensures.len ∙ ap (λ b. cond b (vec_len c.reserve.new.self + 1) (vec_len c.reserve.new.self)) ok in
    let is_name : c.name-name.result.now ≡ name_numbered c.self.inside.names.by_number c.args.number = c.name-name.ensures in
    kept-added c.self.inside _ _ c.self.invariant
    (subst (λ name. MayHaveNextProperty name (stage_of_fields c.self.inside)) (sym is_name)
    (subst (λ content. MayHaveNextProperty (name_numbered content.names c.args.number) (stage_of_events content.events))
    (sym c.self.view_is) c.requires))
    (record { items = items; room = omega (arith, len, c.push.ensures.capacity, c.in_ok-reserve.ensures.ok) })
    refl (ap (λ names. names.in_block) c.in_ok-name_offset.ensures.names ∙ ap (with_name c.self.inside.names.in_block) (sym is_name))
    (c.in_ok-name_offset.ensures.offset ∙ ap (λ name. saturated_usize (offset_in c.add_numbered.new.self.in_block name)) (sym is_name))
