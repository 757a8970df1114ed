use Rattle.bi_edit.proofs.HexadecimalTexts.{no_hexadecimal}
use Rattle.bi_edit.proofs.Outcomes.{none_by}
use Rattle.bi_edit.proofs.words.values.parse_value.Goals as goal

pub returns-in-Some-clause-none : goal.returns-in-Some-clause-none
returns-in-Some-clause-none c =
    none_by c.bytes_of_digits.result (no_hexadecimal c.args.text.now c.in-Some.digits.now c.in-Some.ensures.some)
    c.bytes_of_digits.ensures.none
