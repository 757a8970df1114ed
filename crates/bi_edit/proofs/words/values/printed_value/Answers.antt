use Rattle.std.proofs.Common.{◌≡◌, bytes_eq, sym, ap, ◌∙◌}
use Rattle.std.proofs.lemmas.Bool.{not-true}
use Rattle.bi_base.proofs.EqualBytes.{other_bytes}
use Rattle.bi_edit.specs.EditWords.{value_text}
use Rattle.bi_edit.proofs.UnquotedTexts.{unquoted_value}
use Rattle.bi_edit.proofs.words.values.printed_value.Goals as goal

pub returns-then-ne-clause-none : goal.returns-then-ne-clause-none
returns-then-ne-clause-none c = λ value is.
    let text = c.args.text.now in
    let same : c.in_ok-value.value.items ≡ value = c.in_ok-value.ensures ∙ unquoted_value value text is c.requires in
    other_bytes c.as_slice.result.now text
    (not-true (bytes_eq c.as_slice.result.now text) (sym c.ne.ensures ∙ c.if-ne.true))
    (c.as_slice.ensures.value ∙ c.in_ok-printed.ensures.text ∙ ap value_text (c.deref-2.ensures.value ∙ same) ∙ is)
