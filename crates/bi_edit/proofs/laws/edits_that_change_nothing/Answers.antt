use Rattle.std.proofs.Common.{sym, ap, ◌∙◌}
use Rattle.bi_norm.specs.Meaning.{normal_text}
use Rattle.bi_edit.proofs.laws.edits_that_change_nothing.Goals as goal

pub returns : goal.returns
returns c = λ edits limits form file text normal is stays is_normal.
    is.is_text ∙ ap (normal_text is.form) (stays is.meaning is.means.means) ∙ ap (λ form. normal_text form is.meaning) is.is_form
    ∙ ap (normal_text form) (is_normal.only is.meaning is.means.means) ∙ sym is_normal.is_text
