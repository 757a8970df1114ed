use Rattle.std.proofs.Common.{◌≡◌, ℕ, [], Some, length, slice_get}
use Rattle.bi_fdt.proofs.PartNumbers.{Bucket}
use Rattle.bi_fdt.proofs.part_numbers.PartNumbers.new.Given as goal

abbrev pub invariant-loop : goal.invariant-loop
invariant-loop l =
    (length l.buckets.items ≡ l.counter)
    × ((index : ℕ) (bucket : Bucket) → slice_get l.buckets.items index ≡ Some bucket → bucket.entries ≡ [])
