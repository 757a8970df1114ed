use Rattle.std.proofs.Common.{ap, sym, ◌∙◌, None, Some}
use Rattle.std.specs.Option.{option_copied}
use Rattle.bi_base.proofs.strings.text_before_nul.Goals as goal
use Rattle.bi_base.proofs.NulTexts.{text_by_place}

pub returns-in_err-end : goal.returns-in_err-end
returns-in_err-end c =
    ap option_copied c.from_residual.ensures
    ∙ text_by_place c.args.value.now None (sym c.in_err-end.was ∙ c.position_of_nul.ensures)

pub returns : goal.returns
returns c = text_by_place c.args.value.now (Some c.in_ok-end.end) (sym c.in_ok-end.was ∙ c.position_of_nul.ensures)
