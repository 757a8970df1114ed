use Rattle.std.proofs.Common.{◌≡◌, ℕ, Option, Some, slice_get}
use Rattle.std.specs.Prelude.{vec_len}
use Rattle.bi_fdt.specs.NameParts.{NamePart, parts_of_slices}
use Rattle.bi_fdt.specs.OtherNames.{FindsAfter}
use Rattle.bi_fdt.proofs.other_names.parts_among.Given as goal

abbrev pub invariant-loop-tail : goal.invariant-loop-tail
invariant-loop-tail l = record {
  count : vec_len l.numbers ≡ l.tail-index;
  each : (index : ℕ) (part : NamePart) (tail number : Option ℕ) → slice_get (parts_of_slices l.parts) index ≡ Some part →
      slice_get l.tails part.0 ≡ Some tail
      → slice_get l.numbers.items index ≡ Some number → FindsAfter l.others tail part.1 number;
}
