use Rattle.std.proofs.Common.{◌≡◌, refl, codes, arith}
use Rattle.std.specs.Fmt.{decimal}
use Rattle.std.proofs.lemmas.Fmt.{decimal_digit}
use Rattle.bi_edit.proofs.known_edits.legacy_edits_are_known.Goals as goal

zero : decimal 0 ≡ codes "0"
zero = decimal_digit 0 (omega arith)

one_digit : decimal 1 ≡ codes "1"
one_digit = decimal_digit 1 (omega arith)

pub returns : goal.returns
returns c = record {
  edits = record {
    time = λ one other. refl;
    field = λ one other. refl;
    part = λ one other new. rw zero (rw one_digit refl);
    no_part = λ one other new. rw zero (rw one_digit refl);
    no_number = λ one other new. rw zero (rw one_digit refl);
  };
}
