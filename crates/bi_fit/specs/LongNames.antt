use Rattle.std.specs.Prelude.{ℕ, ◌<◌, nat_le, List, [], length, flat_map, if◌then◌else◌}
use Rattle.bi_blob.specs.Tree.{Root, FileNode, AreDistinct}
use Rattle.bi_fdt.specs.TreeNames.{AreNamesIn}

-- The long names of properties (profile of this project). Names may share bytes in a file, so long
-- names can have more bytes together than the file. A text has each of them once, in full.

-- A name of 64 bytes or more, and no bytes for a shorter name. The names of the properties that
-- hold a payload, a time or a digest are shorter.
abbrev pub name_if_long : List ℕ → List ℕ
name_if_long name = if nat_le 64 (length name) then name else []

-- Different long names of properties of a tree have more bytes together than this number.
abbrev pub HasLongerNames : ℕ → Root FileNode → Type 0
HasLongerNames limit root =
    (names : List (List ℕ)) × AreDistinct names × AreNamesIn names root
    × (limit < length (flat_map name_if_long names))
