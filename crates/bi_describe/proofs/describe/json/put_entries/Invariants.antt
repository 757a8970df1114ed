use Rattle.std.proofs.Common.{flat_map, map, take}
use Rattle.bi_describe.specs.EntryTokens.{entry_tokens}
use Rattle.bi_describe.specs.TreeEntries.{as_entry}
use Rattle.bi_describe.proofs.describe.json.put_entries.Given as goal

-- The tokens of the entries before this one were put.
abbrev pub invariant-loop-entry : goal.invariant-loop-entry
invariant-loop-entry g l =
    g.J.JsonPen.puts l.initial.json (flat_map entry_tokens (map as_entry (take l.entry-index l.entries))) l.json
