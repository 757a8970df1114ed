use Rattle.std.proofs.Common.{◌≡◌, ◌+◌, drop, map, max, ap, subst, ◌∙◌, arith}
use Rattle.bi_describe.specs.TreeEntries.{as_entry}
use Rattle.bi_describe.specs.TreeEntries as tree
use Rattle.bi_describe.proofs.EntryLines.{entries_from, most_after, count_after-le}
use Rattle.bi_describe.proofs.describe.lines.most_open.Goals as goal

pub loop-entry-preserved : goal.loop-entry-preserved
loop-entry-preserved c =
    let entries = c.args.entries.now in
    let i = c.loop-entry.entry-index in
    let entry = as_entry c.entry-item.result in
    let left = map as_entry (drop (i + 1) entries) in
    let invariant = c.loop-entry.invariant in
    let more = most_after c.loop-entry.open c.loop-entry.most (tree.most_open 0 (map as_entry entries)) entry left invariant.within
    (subst (λ left. max c.loop-entry.most (tree.most_open c.loop-entry.open left) ≡ tree.most_open 0 (map as_entry entries))
    (entries_from entries i c.entry-item.result c.entry-item.is c.loop-entry-test.true) invariant.most) in
    record {
      most = ap (λ most. max most (tree.most_open c.count_after-open.result left)) c.greater-most.ensures
          ∙ ap (λ count. max (max c.loop-entry.most count) (tree.most_open count left)) c.count_after-open.ensures ∙ more;
      within = omega (arith, c.greater-most.ensures);
      small = omega (arith, c.count_after-open.ensures, invariant.small, count_after-le c.loop-entry.open entry);
    }
