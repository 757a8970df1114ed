use Rattle.std.specs.Prelude.{ℕ, List, [], ◌∷◌, ◌++◌, codes}
use Rattle.bi_base.specs.Cells.{cell}
use Rattle.bi_blob.specs.Layout.{text_of_tree}
use Rattle.bi_blob.specs.Tree.{none, node, Root, Property}
use Rattle.bi_fit.specs.KnownJudgements.{good_crc}
use Rattle.bi_fit.specs.Names.{algo_name, configurations_name, data_offset_name, data_size_name}
use Rattle.bi_fit.specs.Names.{default_name, images_name, timestamp_name}

-- The file of a small flattened image tree.

-- What the root, the image `a` and the configuration `c` say. The load address is not the entry
-- point.
abbrev pub shown_root : List Property
shown_root = (codes "description", codes "d" ++ 0 ∷ []) ∷ (timestamp_name, cell 0) ∷ []

abbrev pub shown_image : List Property
shown_image =
    (data_offset_name, cell 0)
    ∷ (data_size_name, cell 3)
    ∷ (codes "type", codes "kernel" ++ 0 ∷ [])
    ∷ (codes "os", codes "linux" ++ 0 ∷ [])
    ∷ (codes "arch", codes "arm64" ++ 0 ∷ [])
    ∷ (codes "compression", codes "none" ++ 0 ∷ [])
    ∷ (codes "load", cell 0x8000)
    ∷ (codes "entry", cell 0x8040)
    ∷ []

abbrev pub shown_default : List Property
shown_default = (default_name, codes "c" ++ 0 ∷ []) ∷ []

abbrev pub shown_configuration : List Property
shown_configuration =
    (codes "kernel", codes "a" ++ 0 ∷ []) ∷ (codes "compatible", codes "x y" ++ 0 ∷ []) ∷ []

abbrev pub shown_signature : List Property
shown_signature =
    (algo_name, codes "rsa" ++ 0 ∷ []) ∷ (codes "key-name-hint", codes "dev" ++ 0 ∷ []) ∷ []

-- The image has a hash node, which is good, and the configuration has a signature node.
abbrev pub shown_tree : Root (List Property)
shown_tree = record {
  own = shown_root;
  children = node images_name []
      (node (codes "a") shown_image (node (codes "hash-1") good_crc none none) none)
      (node configurations_name shown_default
      (node (codes "c") shown_configuration (node (codes "signature") shown_signature none none)
      none)
      none);
}

-- A file with this tree. The payload of the image, `abc`, follows the blob.
abbrev pub shown_file : List ℕ
shown_file = text_of_tree 4 0 [] shown_tree ++ codes "abc"
