use Rattle.std.proofs.Common.{subst, arith}
use Rattle.bi_common.proofs.LinePieces.{steps_are_path}
use Rattle.bi_common.proofs.fields.put_path.Goals as goal

pub returns-in-len1-up : goal.returns-in-len1-up
returns-in-len1-up g c =
    subst (λ bytes. g.P.Pen.puts c.args.pen.now bytes c.put_steps.new.pen)
    (steps_are_path c.args.names.now (omega (arith, c.in-len1-up.len_at_least))) c.put_steps.ensures
