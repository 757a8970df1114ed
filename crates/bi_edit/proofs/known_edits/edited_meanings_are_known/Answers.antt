use Rattle.std.proofs.Common.{◌≡◌, refl, codes, arith}
use Rattle.std.specs.Fmt.{decimal}
use Rattle.std.proofs.lemmas.Fmt.{decimal_digit}
use Rattle.bi_edit.proofs.known_edits.edited_meanings_are_known.Goals as goal

zero : decimal 0 ≡ codes "0"
zero = decimal_digit 0 (omega arith)

pub returns : goal.returns
returns c = record {
  meanings = record {
    fields = λ one other. refl;
    part = λ one other new. rw zero refl;
    removal = λ payload. refl;
  };
}
