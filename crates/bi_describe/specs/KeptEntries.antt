use Rattle.std.specs.Prelude.{ℕ, ◌+◌, ◌-◌, ◌==◌, ◌&&◌, Bool, false, not, List, [], ◌∷◌, ◌++◌}
use Rattle.std.specs.Prelude.{Option, Some, None, if◌then◌else◌}
use Rattle.bi_blob.specs.Tree.{Root}
use Rattle.bi_describe.specs.ComparedNodes.{ComparedNode}
use Rattle.bi_describe.specs.Ignoring.{Ignored, is_node_ignored, is_property_ignored}
use Rattle.bi_describe.specs.TreeEntries.{EntryModel, NodeBegins, NodeEnds, PropertyEntry}
use Rattle.bi_describe.specs.TreeEntries.{node_entries, open_after, own_entries}

-- The entries of a tree that stay once something is left out of it.

-- The entry is about a node or a property that is left out, and not only because a node above it
-- is. These nodes are open after it.
abbrev pub is_entry_ignored : List Ignored → (names : List (List ℕ)) → EntryModel → Bool
is_entry_ignored words names (NodeBegins name) = is_node_ignored words names
is_entry_ignored words names (PropertyEntry property) =
    is_property_ignored words names property.0
is_entry_ignored words names entry = false

-- The entry stays. So many nodes are open before it from the one on that is left out.
abbrev pub is_entry_kept : List Ignored → (names : List (List ℕ)) → (skipped : ℕ) → EntryModel
    → Bool
is_entry_kept words names skipped entry =
    skipped == 0 && not (is_entry_ignored words names entry)

-- How many nodes are open after an entry from the one on that is left out.
abbrev pub skipped_after : List Ignored → (names : List (List ℕ)) → (skipped : ℕ) → EntryModel
    → ℕ
skipped_after words names skipped (NodeBegins name) =
    if is_entry_kept words names skipped (NodeBegins name) then 0 else skipped + 1
skipped_after words names skipped NodeEnds = skipped - 1
skipped_after words names skipped entry = skipped

-- The entry, if it stays.
abbrev pub kept_entry : List Ignored → (names : List (List ℕ)) → (skipped : ℕ) → EntryModel
    → List EntryModel
kept_entry words names skipped entry =
    if is_entry_kept words names skipped entry then entry ∷ [] else []

-- The entries that stay. `names` are those of the nodes that are open before the first of them, of
-- which so many are below one that is left out, or are that one.
abbrev pub kept_entries : List Ignored → (names : List (List ℕ)) → (skipped : ℕ)
    → List EntryModel → List EntryModel
kept_entries words names skipped [] = []
kept_entries words names skipped (entry ∷ later) =
    let now : List (List ℕ) = open_after names entry in
    kept_entry words now skipped entry
    ++ kept_entries words now (skipped_after words now skipped entry) later

-- The entries of a tree, if there is one.
abbrev pub root_entries : Option (Root ComparedNode) → Option (List EntryModel)
root_entries None = None
root_entries (Some root) = Some (own_entries root.own ++ node_entries root.children)
