use Rattle.std.proofs.Common.{ap, ◌∙◌, ◌&&◌}
use Rattle.bi_fit.specs.JudgementCalls.{checked_hash_of}
use Rattle.bi_report.specs.Checking.{is_strong_algorithm}
use Rattle.bi_report.proofs.check.images.is_strong.Goals as goal

pub returns-then-is_good : goal.returns-then-is_good
returns-then-is_good c = c.is_strong_name.ensures
    ∙ ap (λ b. b && is_strong_algorithm (checked_hash_of c.args.hash.now).algo) c.if-is_good.ensures
