use Rattle.bi_norm.proofs.NormalForms.{needs_memory}
use Rattle.bi_describe.proofs.compare.read_other.Goals as goal

pub returns-in-Err : goal.returns-in-Err
returns-in-Err c = record { read = tt; failed = λ one meaning means. needs_memory c.args.limits one meaning means }
