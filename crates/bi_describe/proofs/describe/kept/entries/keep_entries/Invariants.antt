use Rattle.std.proofs.Common.{◌≡◌, ◌≤◌, ◌++◌, [], drop, length, map, take}
use Rattle.bi_common.specs.MadeFields.{bytes_of_names}
use Rattle.bi_describe.specs.KeptEntries.{kept_entries}
use Rattle.bi_describe.specs.MadeWords.{ignored_words}
use Rattle.bi_describe.specs.TreeEntries.{as_entry, most_open}
use Rattle.bi_describe.proofs.describe.kept.entries.keep_entries.Given as goal

-- The entries so far and those that stay of the entries that are left are all.
abbrev pub invariant-loop-entry : goal.invariant-loop-entry
invariant-loop-entry l = record {
  room : most_open l.open (map as_entry (drop l.entry-index l.entries)) ≤ length l.names;
  small : l.skipped ≤ l.entry-index;
  left : map as_entry l.kept.items
      ++ kept_entries (ignored_words l.words) (bytes_of_names (take l.open l.names)) l.skipped
      (map as_entry (drop l.entry-index l.entries))
      ≡ map as_entry l.initial.kept.items ++ kept_entries (ignored_words l.words) [] 0 (map as_entry l.entries);
}
