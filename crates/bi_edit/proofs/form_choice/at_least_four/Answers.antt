use Rattle.std.proofs.Common.{sym, true≢false}
use Rattle.bi_edit.proofs.ChosenForms.{alignment_of_power}
use Rattle.bi_edit.proofs.form_choice.at_least_four.Goals as goal

pub unreachable-requires : goal.unreachable-requires
unreachable-requires c =
    true≢false (sym (c.in_default.ensures.in_range.1 (alignment_of_power c.args.bytes c.requires c.if-bytes-lt4.false)))
