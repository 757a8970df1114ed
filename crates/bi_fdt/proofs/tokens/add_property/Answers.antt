use Rattle.std.proofs.Common.{◌≡◌, ◌+◌, ◌≤◌, map, sym, ap, subst, ◌∙◌, arith}
use Rattle.bi_base.specs.Cells.{up4}
use Rattle.bi_base.proofs.Refusals.{refused_by, refusal_passed_on}
use Rattle.bi_blob.specs.Tree.{FileProperty, IsNew}
use Rattle.bi_blob.specs.BlobFaults.{token_fault, IsNewProperty}
use Rattle.bi_blob.specs.OpenNodes.{IsOpenAt, OpenTree, stage_of, with_one_property}
use Rattle.bi_fdt.specs.Blocks.{blocks_of}
use Rattle.bi_fdt.specs.Table.{property_in}
use Rattle.bi_fdt.proofs.TokenSteps.{up4-within, property_fault, duplicate_property, after_property}
use Rattle.bi_fdt.proofs.tokens.add_property.Goals as goal

pub returns-in_err-property-clause-failed : goal.returns-in_err-property-clause-failed
returns-in_err-property-clause-failed c =
    let r = c.requires.reading in
    refused_by _ c.in_err-property.field-0.0 _ c.from_residual.ensures.1
    (property_fault (blocks_of c.args.blocks) c.args.depth_limit c.args.reading.now.place r.innermost r.outer r.position _ c.requires.number
    (c.in_err-property.ensures.fault (stage_of (OpenTree r.innermost r.outer))
    (c.is_childless.ensures c.args.blocks.file.now r.innermost r.outer r.growing)))

pub returns-in_err-add_property-clause-failed : goal.returns-in_err-add_property-clause-failed
returns-in_err-add_property-clause-failed c =
    let r = c.requires.reading in
    let file = c.args.blocks.file.now in
    let p = c.in_ok-property.property in
    let childless = (c.is_childless.ensures file r.innermost r.outer r.growing).0 c.in_ok-property.ensures.childless in
    refusal_passed_on _ c.in_err-add_property.field-0.0 _ _ _ c.from_residual-in_err-add_property.ensures.1
    c.in_err-add_property.ensures.failed c.in_err-add_property.ensures.failed
    (λ fault is _.
    duplicate_property (blocks_of c.args.blocks) c.args.depth_limit c.args.reading.now.place r.innermost r.outer r.position p fault
    c.requires.number c.in_ok-property.ensures.property childless
    (is.is_fault ∙ ap (λ at. token_fault at IsNewProperty) c.in_ok-property.ensures.property.place)
    (subst (λ name. ¬ (IsNew name (map (λ (q : FileProperty). q.name) r.innermost.properties))) c.name_in-name.ensures
    (is.taken file r.innermost r.outer r.growing childless)))

pub returns-clause-added : goal.returns-clause-added
returns-clause-added c =
    let r = c.requires.reading in
    let file = c.args.blocks.file.now in
    let added = c.in_ok-add_property.ensures.added in
    let p = c.in_ok-property.property in
    let is = c.in_ok-property.ensures.property in
    let childless = (c.is_childless.ensures file r.innermost r.outer r.growing).0 c.in_ok-property.ensures.childless in
    let wide : c.up4.result ≡ up4 (p.value_length + 12) = c.up4.ensures in
    let least : p.value_length + 12 ≤ up4 (p.value_length + 12) = (up4-within (p.value_length + 12)).0 in
    let most : up4 (p.value_length + 12) ≤ p.value_length + 12 + 3 = (up4-within (p.value_length + 12)).1 in (
      record {
        innermost = with_one_property r.innermost (property_in file p);
        outer = r.outer;
        position = subst (λ w. IsOpenAt (blocks_of c.args.blocks) c.args.depth_limit (c.args.reading.now.place + w)
            (OpenTree (with_one_property r.innermost (property_in file p)) r.outer)) (sym wide)
            (after_property (blocks_of c.args.blocks) c.args.depth_limit c.args.reading.now.place r.innermost r.outer r.position
            p c.requires.number is childless
            (subst (λ name. IsNew name (map (λ (q : FileProperty). q.name) r.innermost.properties)) c.name_in-name.ensures
            (added.is_new file r.innermost r.outer r.growing childless)));
        growing = added.grown file r.innermost r.outer r.growing childless (sym c.name_in-name.ensures);
        strings = added.strings ∙ r.strings;
        few = omega (arith, r.few, added.count, least);
        within = omega (arith, is.has_value, is.value_length, most);
      },
      omega arith,
    )
