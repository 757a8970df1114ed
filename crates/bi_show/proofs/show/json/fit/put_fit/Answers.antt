use Rattle.std.proofs.Common.{◌∷◌, [], rules}
use Rattle.bi_common.proofs.WrittenTokens.{value_put}
use Rattle.bi_show.specs.ReadObjects.{read_fit_object}
use Rattle.bi_show.proofs.show.json.fit.put_fit.Goals as goal

pub returns : goal.returns
returns g c =
    g.met.P.Pen.puts_in_turn _ _ _ _ (10 ∷ [])
    (value_put g.P.Pen.puts _ _ _ _ _ (read_fit_object c.args.file.now c.args.fit.now) c.new.ensures.no_comma c.new.ensures.same_pen
    (search rules) c.put_fit_object.ensures.1)
    c.put.ensures
