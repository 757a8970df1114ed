use Rattle.std.proofs.Common.{rules}
use Rattle.bi_common.specs.Json.{json_string}
use Rattle.bi_common.specs.Shown.{shown_text}
use Rattle.bi_common.proofs.WrittenTokens.{value_put}
use Rattle.bi_labels.proofs.labelled_text.put_string.Goals as goal

pub returns : goal.returns
returns g c =
    value_put g.P.Pen.puts _ _ _ _ _ (json_string (shown_text c.args.name.now)) c.new.ensures.no_comma c.new.ensures.same_pen (search rules)
    c.put.ensures.1
