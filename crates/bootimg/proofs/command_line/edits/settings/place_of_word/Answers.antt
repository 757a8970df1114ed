use Rattle.std.proofs.Common.{◌+◌, ◌∙◌, None, Some, ap, arith, length, refl, take}
use Rattle.bootimg.proofs.SetWords.{cut_of_none, cut_of_split, no_set_word, place_of_property, slash_is, before_second}
use Rattle.bootimg.proofs.command_line.edits.settings.place_of_word.Goals as goal

pub returns-in_default : goal.returns-in_default
returns-in_default c edit is =
    let word = c.args.word.now in
    let split = c.in_default.ensures.byte (omega arith) (λ text place found. found) in
    absurd (no_set_word word word None (cut_of_none word split) refl edit is)

pub returns-in-Some-split_once : goal.returns-in-Some-split_once
returns-in-Some-split_once c edit is =
    let word = c.args.word.now in
    let first = c.in-Some.first.now in
    let rest = c.in-Some.rest.now in
    let second = c.in-Some-split_once.second.now in
    let third = c.in-Some-split_once.field-0-1.now in
    let split = c.in-Some.ensures.byte (omega arith) (λ text place found. found) in
    let cut = cut_of_split word first rest split.0 split.1 split.2 in
    let later = c.in-Some-split_once.ensures.byte (omega arith) (λ text place found. found) in
    let rest_cut = cut_of_split rest second third later.0 later.1 later.2 in
    let slash = slash_is word c.starts_with.result
    (c.starts_with.ensures.byte (omega arith) (omega arith) (λ text place found. found)) c.if-not-starts_with.false in
    ap (take (length first + 1 + length second)) c.as_bytes-in-Some-split_once.ensures.value
    ∙ before_second word first rest second third cut.is rest_cut.is
    ∙ place_of_property word first (Some rest) cut rest second (Some third) refl rest_cut slash edit is

pub returns-in-None : goal.returns-in-None
returns-in-None c edit is =
    let word = c.args.word.now in
    let first = c.in-Some.first.now in
    let rest = c.in-Some.rest.now in
    let split = c.in-Some.ensures.byte (omega arith) (λ text place found. found) in
    let cut = cut_of_split word first rest split.0 split.1 split.2 in
    let rest_cut = cut_of_none rest (c.in-None.ensures.byte (omega arith) (λ text place found. found)) in
    let slash = slash_is word c.starts_with.result
    (c.starts_with.ensures.byte (omega arith) (omega arith) (λ text place found. found)) c.if-not-starts_with.false in
    c.as_bytes-in-None.ensures.value ∙ cut.is
    ∙ place_of_property word first (Some rest) cut rest rest None refl rest_cut slash edit is
