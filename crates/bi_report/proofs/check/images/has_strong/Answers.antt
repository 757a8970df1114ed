use Rattle.std.proofs.Common.{sym, ap, ◌∙◌}
use Rattle.std.specs.List.{list_any}
use Rattle.bi_report.specs.Checking.{is_strong}
use Rattle.bi_report.proofs.check.images.has_strong.Goals as goal

pub returns : goal.returns
returns c = ap (list_any is_strong) (sym c.in-None.ensures.steps.0) ∙ c.loop-hash.invariant
