use Rattle.std.specs.Prelude.{◌≡◌, ℕ, List, Contains}
use Rattle.std.specs.List.{AllByRecursion}
use Rattle.bi_blob.specs.Tree.{Root, FileNode, FileProperty}
use Rattle.bi_blob.specs.Events.{FileNodeProperty, file_events_of}

-- The names of the properties of a tree in a file.

-- A property of the tree has this name.
abbrev pub IsNameIn : List ℕ → Root FileNode → Type 0
IsNameIn name root =
    (property : FileProperty) × Contains (file_events_of root) (FileNodeProperty property)
    × (property.name ≡ name)

-- Each of these is the name of a property of the tree.
abbrev pub AreNamesIn : List (List ℕ) → Root FileNode → Type 0
AreNamesIn names root = AllByRecursion (λ name. IsNameIn name root) names
