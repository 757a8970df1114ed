use Rattle.std.proofs.Common.{◌≡◌, ◌↔◌, [], drop, map}
use Rattle.bi_describe.specs.MadeInsides.{is_one_of_places}
use Rattle.bi_describe.specs.OpenedEntries.{entries_unless_opened}
use Rattle.bi_describe.specs.TreeEntries.{as_entry}
use Rattle.bi_describe.proofs.describe.kept.entries.are_same_unless_opened.Given as goal

-- The entries that are left decide.
abbrev pub invariant-loop-index : goal.invariant-loop-index
invariant-loop-index l =
    (entries_unless_opened (is_one_of_places l.opened) l.last (map as_entry (drop l.index l.one))
    ≡ entries_unless_opened (is_one_of_places l.opened) l.last (map as_entry (drop l.index l.other)))
    ↔ (entries_unless_opened (is_one_of_places l.opened) [] (map as_entry l.one)
    ≡ entries_unless_opened (is_one_of_places l.opened) [] (map as_entry l.other))
