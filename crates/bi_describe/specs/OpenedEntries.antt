use Rattle.std.specs.Prelude.{ℕ, Bool, List, [], ◌∷◌, None, if◌then◌else◌}
use Rattle.bi_describe.specs.DeepEntries.{last_begun}
use Rattle.bi_describe.specs.Ignoring.{PayloadPlace, OfImageNamed}
use Rattle.bi_describe.specs.TreeEntries.{EntryModel, PayloadEntry}

-- The entries of a tree, of which the payloads that are opened are left out.

-- An entry, if the last node that began has this name.
abbrev pub entry_unless_opened : (is_opened : PayloadPlace → Bool) → (last : List ℕ) → EntryModel
    → EntryModel
entry_unless_opened is_opened last (PayloadEntry payload) =
    if is_opened (OfImageNamed last) then PayloadEntry None else PayloadEntry payload
entry_unless_opened is_opened last entry = entry

abbrev pub entries_unless_opened : (is_opened : PayloadPlace → Bool) → (last : List ℕ)
    → List EntryModel → List EntryModel
entries_unless_opened is_opened last [] = []
entries_unless_opened is_opened last (entry ∷ later) =
    entry_unless_opened is_opened last entry
    ∷ entries_unless_opened is_opened (last_begun last entry) later
