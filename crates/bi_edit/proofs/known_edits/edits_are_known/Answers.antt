use Rattle.std.proofs.Common.{refl}
use Rattle.bi_edit.proofs.known_edits.edits_are_known.Goals as goal

pub returns : goal.returns
returns c = record {
  edits = record {
    plain = λ payload. refl;
    removal = λ payload. refl;
    setting = λ payload value. refl;
    payload = λ old new. refl;
    time = λ payload. refl;
    both = λ payload. refl;
    names = λ first second. refl;
  };
}
