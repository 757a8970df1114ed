use Rattle.std.proofs.Common.{◌≡◌, ◌≤◌, ◌++◌, codes, length, sym, ap, subst, ◌∙◌}
use Rattle.bi_common.specs.Shown.{shown_text}
use Rattle.bi_common.proofs.UnshownNames.{empty_list, some_list, some_holds}
use Rattle.bi_edit.specs.EditWords.{IsChildWord}
use Rattle.bi_edit.proofs.Outcomes.{holds_of_none}
use Rattle.bi_edit.proofs.PayloadWords.{same_payload_parts}
use Rattle.bi_edit.proofs.words.parse_payload.Goals as goal

pub returns-in_default-clause-none : goal.returns-in_default-clause-none
returns-in_default-clause-none c = λ image file is.
    holds_of_none c.split_word.result c.in_default.is c.split_word.ensures.none (shown_text image) file is.is

pub returns-then-is_empty-clause-none : goal.returns-then-is_empty-clause-none
returns-then-is_empty-clause-none c = λ image file is.
    let parts = same_payload_parts c.args.word.now c.in-Some.shown.now c.in-Some.file.now c.in-Some.ensures.some c.in-Some.ensures.first
    image file is in
    is.some (parts.1 ∙ empty_list c.in-Some.file.now (sym c.is_empty.ensures ∙ c.if-is_empty.true))

pub returns-in_default-2-clause-none : goal.returns-in_default-2-clause-none
returns-in_default-2-clause-none c = λ image file is.
    let parts = same_payload_parts c.args.word.now c.in-Some.shown.now c.in-Some.file.now c.in-Some.ensures.some c.in-Some.ensures.first
    image file is in
    holds_of_none c.in_ok-name.field-0 c.in_default-2.is c.in_ok-name.ensures.none image
    (record { is_name = is.is_name; is = parts.0 ∙ sym c.as_bytes.ensures.value })

pub returns-clause-some : goal.returns-clause-some
returns-clause-some c =
    let word = some_holds (λ name. IsChildWord c.as_bytes.result.now name.items) c.in_ok-name.field-0 c.in-Some-2.name c.in-Some-2.is
    c.in_ok-name.ensures.some in
    let same : shown_text c.in-Some-new.image ≡ c.in-Some.shown.now
    = ap shown_text c.in-Some-new.ensures.some.0 ∙ word.is ∙ c.as_bytes.ensures.value in
    record {
      is_name = c.in-Some-new.ensures.some.1;
      is = c.in-Some.ensures.some ∙ ap (λ shown. shown ++ (codes "=@" ++ c.in-Some.file.now)) (sym same);
      first = λ before after at.
          subst (λ shown. length shown ≤ length before) (sym same) (c.in-Some.ensures.first before after at);
      some = some_list c.in-Some.file.now (sym c.is_empty.ensures ∙ c.if-is_empty.false);
    }
