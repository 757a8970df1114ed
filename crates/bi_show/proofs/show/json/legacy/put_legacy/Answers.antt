use Rattle.std.proofs.Common.{◌∷◌, [], rules}
use Rattle.bi_common.proofs.WrittenTokens.{value_put}
use Rattle.bi_show.specs.ReadObjects.{read_legacy_object}
use Rattle.bi_show.proofs.show.json.legacy.put_legacy.Goals as goal

pub returns : goal.returns
returns g c =
    g.met.P.Pen.puts_in_turn _ _ _ _ (10 ∷ [])
    (value_put g.P.Pen.puts _ _ _ _ _ (read_legacy_object c.args.file.now c.args.image.now) c.new.ensures.no_comma c.new.ensures.same_pen
    (search rules) c.put_legacy_object.ensures.1)
    c.put.ensures
