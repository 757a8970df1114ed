use Rattle.std.proofs.Common.{sym, ◌∙◌}
use Rattle.bi_common.proofs.QuotedValues.{texts_tested}
use Rattle.bi_common.proofs.fields.values.are_quotable_texts.Goals as goal

pub returns-then-ends_with : goal.returns-then-ends_with
returns-then-ends_with c =
    c.have_texts.ensures ∙ texts_tested c.args.value.now _ (sym c.ends_with.ensures.value ∙ c.if-ends_with.true)
