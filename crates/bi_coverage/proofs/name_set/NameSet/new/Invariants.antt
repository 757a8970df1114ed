use Rattle.std.proofs.Common.{◌≡◌, ℕ, Some, length, slice_get}
use Rattle.std.specs.BTreeSet.{IsEmpty}
use Rattle.bi_coverage.proofs.NameBuckets.{NameBucket}
use Rattle.bi_coverage.proofs.name_set.NameSet.new.Given as goal

abbrev pub invariant-loop : goal.invariant-loop
invariant-loop l =
    (length l.buckets.items ≡ l.counter)
    × ((index : ℕ) (bucket : NameBucket) → slice_get l.buckets.items index ≡ Some bucket → IsEmpty bucket)
