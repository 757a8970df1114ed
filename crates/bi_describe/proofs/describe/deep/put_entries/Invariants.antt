use Rattle.std.proofs.Common.{[], drop, map}
use Rattle.bi_describe.specs.DeepEntries.{deep_entry_tokens}
use Rattle.bi_describe.specs.MadeInsides.{HoldInsides, whole_devicetrees}
use Rattle.bi_describe.specs.TreeEntries.{as_entry}
use Rattle.bi_describe.proofs.describe.deep.put_entries.Given as goal

-- If the tokens of the entries that are left are put next, all were put.
abbrev pub invariant-loop-entry : goal.invariant-loop-entry
invariant-loop-entry g l =
    (trees : _) → HoldInsides (whole_devicetrees trees) l.insides → (new : _) →
    g.J.JsonPen.puts l.json (deep_entry_tokens trees l.last (map as_entry (drop l.entry-index l.entries))) new →
    g.J.JsonPen.puts l.initial.json (deep_entry_tokens trees [] (map as_entry l.entries)) new
