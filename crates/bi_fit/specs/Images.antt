use Rattle.std.specs.Prelude.{ℕ, ◌+◌, ◌≤◌, List, length, IfSome}
use Rattle.bi_blob.specs.Tree.{FileNode}
use Rattle.bi_blob.specs.Lookups.{property_named}
use Rattle.bi_fit.specs.Names.{data_name}

-- What reading an image node requires.

-- The value of the property `data` of an image node, if it has one, begins in its file.
abbrev pub HasDataInFile : List ℕ → FileNode → Type 0
HasDataInFile file own =
    IfSome (property_named own.properties data_name)
    (λ property. property.place + 12 ≤ length file)
