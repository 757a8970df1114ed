use Rattle.std.proofs.Common.{sym, subst, ◌∙◌}
use Rattle.bi_common.proofs.QuotedValues.{words_of_texts}
use Rattle.bi_common.proofs.fields.values.put_value.Goals as goal

pub returns-then-are_quotable_texts : goal.returns-then-are_quotable_texts
returns-then-are_quotable_texts g c =
    subst (λ bytes. g.P.Pen.puts c.args.pen.now bytes c.put_texts.new.pen)
    (sym (words_of_texts c.args.value.now c.in-len1-up.len_at_least
    (sym c.are_quotable_texts.ensures ∙ c.if-are_quotable_texts.true))) c.put_texts.ensures
