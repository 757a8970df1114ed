use Rattle.std.proofs.Common.{[], ◌∷◌, ap, refl, subst, sym}
use Rattle.bi_common.specs.LineTokens.{one_field}
use Rattle.bi_describe.proofs.DeepFacts.{token_stays}
use Rattle.bi_describe.proofs.describe.inside.paths.InsidePenLinePen.put_word.Goals as goal

pub returns-in-Path : goal.returns-in-Path
unfolding one_field
returns-in-Path g c = rw c.in-Path.is (record { payload = refl; same_borrow = refl; put = c.put_path_inside.ensures })

pub returns-in_default : goal.returns-in_default
unfolding one_field
returns-in_default g c =
    let self = c.args.self.now in
    record {
      payload = refl;
      same_borrow = refl;
      put = subst (λ tokens. g.L.LinePen.puts self.pen.now tokens c.put_word.new.self)
          (ap (λ token. token ∷ []) (sym (token_stays self.payload.now c.args.word c.in_default.not-Path))) c.put_word.ensures;
    }
