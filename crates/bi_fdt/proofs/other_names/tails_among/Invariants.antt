use Rattle.std.proofs.Common.{◌≡◌, ℕ, ◌+◌, Option, Some, slice_get}
use Rattle.std.specs.Prelude.{vec_len}
use Rattle.bi_fdt.specs.NameParts.{parts_of_slices}
use Rattle.bi_fdt.specs.OtherNames.{HasOtherNumber}
use Rattle.bi_fdt.proofs.other_names.tails_among.Given as goal

abbrev pub invariant-loop-tail : goal.invariant-loop-tail
invariant-loop-tail l = record {
  count : vec_len l.numbers ≡ l.tail-index + 1;
  each : (number : ℕ) (found : Option ℕ) → slice_get l.numbers.items number ≡ Some found
      → HasOtherNumber (parts_of_slices l.parts) l.others number found;
}
