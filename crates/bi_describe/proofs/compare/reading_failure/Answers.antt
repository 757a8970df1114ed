use Rattle.bi_describe.proofs.ComparedImages.{memory_of_reading}
use Rattle.bi_describe.proofs.compare.reading_failure.Goals as goal

pub returns-in_default : goal.returns-in_default
returns-in_default c limits file other is = memory_of_reading limits file c.args.error c.in_default.not-Refused is
