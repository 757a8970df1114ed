use Rattle.std.proofs.Common.{ℕ, rules}
use Rattle.std.proofs.lemmas.List.{take-replicate}
use Rattle.bi_legacy.proofs.text.put_zeros.Goals as goal

pub returns : goal.returns
returns g c = search (rules, take-replicate {X = ℕ} c.args.count 32 0 c.requires)
