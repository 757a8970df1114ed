use Rattle.std.proofs.Common.{◌≡◌, ◌≤◌, drop, map, max}
use Rattle.bi_describe.specs.TreeEntries.{as_entry}
use Rattle.bi_describe.specs.TreeEntries as tree
use Rattle.bi_describe.proofs.describe.lines.most_open.Given as goal

abbrev pub invariant-loop-entry : goal.invariant-loop-entry
invariant-loop-entry l = record {
  most : max l.most (tree.most_open l.open (map as_entry (drop l.entry-index l.entries))) ≡ tree.most_open 0 (map as_entry l.entries);
  within : l.open ≤ l.most;
  small : l.open ≤ l.entry-index;
}
