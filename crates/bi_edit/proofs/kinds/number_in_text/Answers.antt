use Rattle.std.proofs.Common.{◌≡◌, sym}
use Rattle.std.proofs.lemmas.Fmt.{parse-decimal}
use Rattle.bi_edit.proofs.kinds.number_in_text.Goals as goal

pub returns-in-Ok-clause-some : goal.returns-in-Ok-clause-some
returns-in-Ok-clause-some c other small is =
    let read = parse-decimal 64 other _ _ small small (sym is) c.parse.ensures.value.0 in
    let same : other ≡ c.in-Ok.number = cc in
    same

pub returns-in-Err-clause-none : goal.returns-in-Err-clause-none
returns-in-Err-clause-none c is =
    absurd (cc (parse-decimal 64 is.number _ _ is.small is.small (sym is.is) c.parse.ensures.value.0))
