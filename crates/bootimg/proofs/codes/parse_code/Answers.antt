use Rattle.std.proofs.Common.{sym, ◌∙◌}
use Rattle.bootimg.specs.CodeWords.{IsCode, Named, Numbered}
use Rattle.bootimg.proofs.CodeWords.{number_that_fits}
use Rattle.bootimg.proofs.codes.parse_code.Goals as goal

pub returns-in_err-parse_number-in-None-clause-exactly :
    goal.returns-in_err-parse_number-in-None-clause-exactly
returns-in_err-parse_number-in-None-clause-exactly c = λ code is. elim is [
  | Named named ↦ absurd (let e = c.code.ensures ∙ named in cc)
  | Numbered none number small ↦ absurd (let e = c.in_err-parse_number-in-None.ensures.exactly code number in cc)
]

pub returns-in_ok-parse_number-in-None-clause-some :
    goal.returns-in_ok-parse_number-in-None-clause-some
returns-in_ok-parse_number-in-None-clause-some c =
    number_that_fits _ _ c.try_from.result c.ok.result (IsCode c.args.field c.args.argument.now) c.ok.ensures.value c.try_from.ensures
    (λ small. Numbered (sym c.code.ensures ∙ c.in-None.is) c.in_ok-parse_number-in-None.ensures.some small)
