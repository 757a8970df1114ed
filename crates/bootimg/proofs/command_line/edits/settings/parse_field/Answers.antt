use Rattle.std.proofs.Common.{arith}
use Rattle.bootimg.proofs.FieldTexts.{other_field_word}
use Rattle.bootimg.proofs.SetWords.{cut_of_split}
use Rattle.bootimg.proofs.command_line.edits.settings.parse_field.Goals as goal

pub returns-then-ne-clause-some : goal.returns-then-ne-clause-some
returns-then-ne-clause-some c =
    let word = c.args.word.now in
    let split = c.in-Some.ensures.byte (omega arith) (λ text place found. found) in
    other_field_word word c.in-Some.field.now c.in-Some.text.now
    (cut_of_split word c.in-Some.field.now c.in-Some.text.now split.0 split.1 split.2) c.parse_other_field.result
    c.parse_other_field.ensures.some
