use Rattle.std.proofs.Common.{rules}
use Rattle.bi_fdt.proofs.TokenSteps.{after_nop, after_end}
use Rattle.bi_fdt.proofs.tokens.step.Goals as goal

pub returns-then-number-eq-NOP-clause-ok : goal.returns-then-number-eq-NOP-clause-ok
returns-then-number-eq-NOP-clause-ok c = search (rules, after_nop)

pub returns-clause-ok : goal.returns-clause-ok
returns-clause-ok c = search (rules, after_end)
