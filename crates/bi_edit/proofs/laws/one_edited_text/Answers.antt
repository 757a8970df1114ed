use Rattle.std.proofs.Common.{sym, ap, ◌∙◌}
use Rattle.bi_norm.specs.Meaning.{normal_text}
use Rattle.bi_edit.specs.Edits.{meaning_after}
use Rattle.bi_edit.proofs.laws.one_edited_text.Goals as goal

pub returns : goal.returns
returns c = λ edits limits form file text other is is_other.
    is.is_text ∙ ap (λ form. normal_text form (meaning_after edits is.meaning)) (is.is_form ∙ sym is_other.is_form)
    ∙ ap (λ meaning. normal_text is_other.form (meaning_after edits meaning)) (is_other.means.only is.meaning is.means.means)
    ∙ sym is_other.is_text
