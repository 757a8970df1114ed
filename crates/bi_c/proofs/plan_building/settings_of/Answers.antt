use Rattle.std.proofs.Common.{◌∙◌, ap, arith, refl}
use Rattle.bi_c.specs.PlanBuilding.{AreOptions, piece_if_given}
use Rattle.bi_c.proofs.CallAnswers.{is_so}
use Rattle.bi_c.proofs.plan_building.settings_of.Goals as goal

pub returns-clause-settings : goal.returns-clause-settings
returns-clause-settings c =
    let input = c.args.input.now in
    let options = c.args.options.now in
    let valid : AreOptions input options = record {
      is_size = omega (arith, c.if-options-ne-OPTIONS_SIZE.false);
      arguments = record {
        limits = is_so _ c.in_ok-limits_of.ensures.in_range;
        form = c.in_ok-form_of.field-0;
        is_form = c.in_ok-form_of.ensures.some;
      };
      description = c.in_ok-piece.ensures.inside;
      default = c.in_ok-piece_if.ensures.inside;
      is_flag = omega (arith, c.if-options-gt1.false);
    } in
    record {
      valid = valid;
      is_form = refl;
      are_limits = c.in_ok-limits_of.ensures.value;
      is_description = c.in_ok-piece.ensures.bytes;
      is_time = refl;
      is_default = c.in_ok-piece_if.ensures.given ∙ ap (λ given. piece_if_given given input options.default_name) c.has_bit.ensures;
    }
