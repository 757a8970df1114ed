use Rattle.bi_describe.proofs.DeepFacts.{last_is}
use Rattle.bi_describe.proofs.describe.deep.last_name.Goals as goal

pub returns-in-len1-up : goal.returns-in-len1-up
returns-in-len1-up c = last_is c.args.names.now _ c.in-len1-up.len_at_least
