use Rattle.std.proofs.Common.{◌<◌, rules, length, sym, subst}
use Rattle.bi_base.specs.Slices.{bytes_of}
use Rattle.bi_coverage.specs.NameBuckets.{HaveNames}
use Rattle.bi_coverage.proofs.NameBuckets.{HaveNames-none}
use Rattle.bi_coverage.proofs.name_set.NameSet.new.Goals as goal

pub invariant_of-result : goal.invariant_of-result
invariant_of-result c =
    let some : 0 < length c.loop.buckets.items = search rules in
    subst (λ items. HaveNames c.loop.buckets.items (bytes_of items)) (sym c.new-2.ensures.items)
    (HaveNames-none c.loop.buckets.items some c.loop.invariant.1)
