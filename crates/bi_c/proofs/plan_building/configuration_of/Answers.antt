use Rattle.std.proofs.Common.{◌<◌, ◌∙◌, ap, arith}
use Rattle.bi_fit.specs.declared.building.ConfigurationSpec.{ConfigurationSpec}
use Rattle.bi_fit.specs.declared.key.Key.TheVariants.{Kernel, Fdt, Ramdisk, Firmware, Loadables, Script}
use Rattle.bi_c.specs.PlanBuilding.{piece_if_given}
use Rattle.bi_c.proofs.PlanBuilding.{configuration_is, range_outside}
use Rattle.bi_c.proofs.plan_building.configuration_of.Goals as goal

pub returns-in_err-part-2-clause-none : goal.returns-in_err-part-2-clause-none
returns-in_err-part-2-clause-none c =
    rw c.from_residual-in_err-part-2.ensures
    (λ lists same has.
    range_outside c.args.input.now c.args.pieces.now lists same c.args.element.now.kernel c.in_err-part-2.ensures.none
    (has.listed Kernel))

pub returns-in_err-part-3-clause-none : goal.returns-in_err-part-3-clause-none
returns-in_err-part-3-clause-none c =
    rw c.from_residual-in_err-part-3.ensures
    (λ lists same has.
    range_outside c.args.input.now c.args.pieces.now lists same c.args.element.now.fdt c.in_err-part-3.ensures.none
    (has.listed Fdt))

pub returns-in_err-part-4-clause-none : goal.returns-in_err-part-4-clause-none
returns-in_err-part-4-clause-none c =
    rw c.from_residual-in_err-part-4.ensures
    (λ lists same has.
    range_outside c.args.input.now c.args.pieces.now lists same c.args.element.now.ramdisk c.in_err-part-4.ensures.none
    (has.listed Ramdisk))

pub returns-in_err-part-5-clause-none : goal.returns-in_err-part-5-clause-none
returns-in_err-part-5-clause-none c =
    rw c.from_residual-in_err-part-5.ensures
    (λ lists same has.
    range_outside c.args.input.now c.args.pieces.now lists same c.args.element.now.firmware c.in_err-part-5.ensures.none
    (has.listed Firmware))

pub returns-in_err-part-6-clause-none : goal.returns-in_err-part-6-clause-none
returns-in_err-part-6-clause-none c =
    rw c.from_residual-in_err-part-6.ensures
    (λ lists same has.
    range_outside c.args.input.now c.args.pieces.now lists same c.args.element.now.loadables c.in_err-part-6.ensures.none
    (has.listed Loadables))

pub returns-in_err-part-7-clause-none : goal.returns-in_err-part-7-clause-none
returns-in_err-part-7-clause-none c =
    rw c.from_residual-in_err-part-7.ensures
    (λ lists same has.
    range_outside c.args.input.now c.args.pieces.now lists same c.args.element.now.script c.in_err-part-7.ensures.none
    (has.listed Script))

pub returns-clause-configuration : goal.returns-clause-configuration
returns-clause-configuration c = λ lists same.
    let input = c.args.input.now in
    let element = c.args.element.now in
    let spec : ConfigurationSpec = record {
      name = c.in_ok-piece.field-0;
      description = c.in_ok-piece_if.field-0;
      compatible = c.in_ok-part.field-0;
      kernel = c.in_ok-part-2.field-0;
      fdt = c.in_ok-part-3.field-0;
      ramdisk = c.in_ok-part-4.field-0;
      firmware = c.in_ok-part-5.field-0;
      loadables = c.in_ok-part-6.field-0;
      script = c.in_ok-part-7.field-0;
    } in
    let is_flag : element.given < 2 = omega (arith, c.if-element-gt1.false) in
    configuration_is input c.args.pieces.now lists same element spec c.in_ok-piece.ensures.inside c.in_ok-piece.ensures.bytes
    c.in_ok-piece_if.ensures.inside
    (c.in_ok-piece_if.ensures.given ∙ ap (λ given. piece_if_given given input element.description) c.has_bit.ensures) is_flag
    (record { inside = c.in_ok-part.ensures.inside; is = c.in_ok-part.ensures.listed })
    (record { inside = c.in_ok-part-2.ensures.inside; is = c.in_ok-part-2.ensures.listed })
    (record { inside = c.in_ok-part-3.ensures.inside; is = c.in_ok-part-3.ensures.listed })
    (record { inside = c.in_ok-part-4.ensures.inside; is = c.in_ok-part-4.ensures.listed })
    (record { inside = c.in_ok-part-5.ensures.inside; is = c.in_ok-part-5.ensures.listed })
    (record { inside = c.in_ok-part-6.ensures.inside; is = c.in_ok-part-6.ensures.listed })
    (record { inside = c.in_ok-part-7.ensures.inside; is = c.in_ok-part-7.ensures.listed })
