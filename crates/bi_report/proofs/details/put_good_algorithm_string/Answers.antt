use Rattle.std.proofs.Common.{ap, sym, subst, ◌∙◌}
use Rattle.bi_fit.specs.JudgementCalls.{checked_hash_of}
use Rattle.bi_common.specs.JsonTokens.{json_tokens}
use Rattle.bi_report.proofs.PrintedDetails.{good_string}
use Rattle.bi_report.proofs.details.put_good_algorithm_string.Goals as goal

pub returns-then-is_good : goal.returns-then-is_good
returns-then-is_good g c =
    subst (λ tokens. g.J.JsonPen.puts c.args.json.now tokens c.put_value.new.json)
    (ap json_tokens c.shown_or_null.ensures ∙ sym (good_string (checked_hash_of c.args.hash) (sym c.if-is_good.ensures)))
    c.put_value.ensures
