use Rattle.std.proofs.Common.{◌≡◌, ℕ, ◌+◌, ◌-◌, ◌<◌, ◌≤◌, max, List, [], ◌∷◌, get_or, drop, take, length, map, ap, sym, ◌∙◌, rules, arith}
use Rattle.std.specs.Borrow.{Bor}
use Rattle.std.proofs.lemmas.List.{drop_more, length-map, length-take-le, take-map, take-take}
use Rattle.bi_common.specs.MadeFields.{bytes_of_names}
use Rattle.bi_describe.specs.declared.describe.entries.Entry.{Entry}
use Rattle.bi_describe.specs.TreeEntries.{NodeBegins, NodeEnds, PayloadEntry, PropertiesBegin, PropertyEntry, ChildrenBegin}
use Rattle.bi_describe.specs.TreeEntries.{EntryModel, as_entry, count_after, most_open}

-- Entries are one entry and then those after it, and an entry opens at most one node.

-- The entries from one on are this one and those after it.
pub entries_from : (entries : List Entry) (index : ℕ) (entry : Entry) → entry ≡ get_or entries index entry → index < length entries →
    map as_entry (drop index entries) ≡ as_entry entry ∷ map as_entry (drop (index + 1) entries)
entries_from entries index entry is within =
    ap (map as_entry) (drop_more entries index entry within)
    ∙ ap (λ item. as_entry item ∷ map as_entry (drop (index + 1) entries)) (sym is)

-- At least as many nodes are open at most as at first.
pub open_at_first : (count : ℕ) (entries : List EntryModel) → count ≤ most_open count entries
open_at_first count [] = omega arith
open_at_first count (entry ∷ later) = omega arith

-- How many nodes are open at most, one entry further.
pub most_after : (count most total : ℕ) (entry : EntryModel) (later : List EntryModel) → count ≤ most →
    max most (most_open count (entry ∷ later)) ≡ total
    → max (max most (count_after count entry)) (most_open (count_after count entry) later) ≡ total
most_after count most total entry later within is = omega (arith, within, is, open_at_first (count_after count entry) later)

-- One entry opens one node at most.
pub count_after-le : (count : ℕ) (entry : EntryModel) → count_after count entry ≤ count + 1
count_after-le count (NodeBegins name) = omega arith
count_after-le count NodeEnds = omega arith
count_after-le count (PayloadEntry payload) = omega arith
count_after-le count PropertiesBegin = omega arith
count_after-le count (PropertyEntry property) = omega arith
count_after-le count ChildrenBegin = omega arith

-- After an end, the names are those before the last.
pub names_closed : (names : List (Bor (List ℕ))) (count : ℕ) → count ≤ length names →
    bytes_of_names (take (count - 1) names) ≡ take (length (bytes_of_names (take count names)) - 1) (bytes_of_names (take count names))
names_closed names count within = search (rules, length-map, length-take-le, take-map, take-take)
