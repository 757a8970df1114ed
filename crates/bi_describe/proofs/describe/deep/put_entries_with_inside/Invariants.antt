use Rattle.std.proofs.Common.{◌≡◌, ◌≤◌, [], drop, take, map, length}
use Rattle.bi_common.specs.LineTokens.{tokens_of_lines}
use Rattle.bi_common.specs.MadeFields.{bytes_of_names}
use Rattle.bi_describe.specs.DeepDescriptions.{lines_with_inside}
use Rattle.bi_describe.specs.MadeInsides.{HoldInsides, shown_by}
use Rattle.bi_describe.specs.TreeEntries.{entry_lines, most_open, as_entry}
use Rattle.bi_describe.proofs.describe.deep.put_entries_with_inside.Given as goal

-- If the lines of the entries that are left are put next, all were put, and the same trees are inside.
abbrev pub invariant-loop-entry : goal.invariant-loop-entry
invariant-loop-entry g l = record {
  same_length : length l.names ≡ length l.initial.names;
  room : most_open l.open (map as_entry (drop l.entry-index l.entries)) ≤ length l.names;
  held : (trees : _) → HoldInsides trees l.initial.insides → HoldInsides trees l.insides;
  written : (trees : _) → HoldInsides trees l.initial.insides → (new : _) → g.L.LinePen.puts l.pen
      (tokens_of_lines (lines_with_inside (shown_by trees l.opened)
      (entry_lines (bytes_of_names (take l.open l.names)) (map as_entry (drop l.entry-index l.entries))))) new →
      g.L.LinePen.puts l.initial.pen
      (tokens_of_lines (lines_with_inside (shown_by trees l.opened) (entry_lines [] (map as_entry l.entries)))) new;
}
