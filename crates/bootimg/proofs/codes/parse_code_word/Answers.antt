use Rattle.std.proofs.Common.{ℕ}
use Rattle.bootimg.specs.CodeWords.{IsCode}
use Rattle.bootimg.proofs.CommandLines.{if_none}
use Rattle.bootimg.proofs.codes.parse_code_word.Goals as goal

pub returns-in_err-code-clause-none : goal.returns-in_err-code-clause-none
returns-in_err-code-clause-none c =
    if_none c.from_residual.result ((code : ℕ) → IsCode c.args.field c.args.argument.now code → ⊥)
    (λ code is. absurd (let e = c.in_err-code.ensures.exactly code is in cc))
