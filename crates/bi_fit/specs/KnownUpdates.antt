use Rattle.std.specs.Prelude.{◌≡◌, ℕ, true, false, List, [], ◌∷◌, ◌++◌, codes, Some, None}
use Rattle.std.specs.FinMap.{empty, from_entries}
use Rattle.bi_base.specs.Cells.{cell}
use Rattle.bi_blob.specs.Layout.{in_byte_order}
use Rattle.bi_blob.specs.Tree.{none, node, Root, Property}
use Rattle.bi_fit.specs.declared.changes.Changes.{Changes}
use Rattle.bi_fit.specs.ImageTree.{ImageTree}
use Rattle.bi_fit.specs.KnownJudgements.{other_crc}
use Rattle.bi_fit.specs.Names.{images_name, timestamp_name, algo_name, value_name}
use Rattle.bi_fit.specs.Updating.{with_changes}

-- A small tree and what it is after updates, by which a reader can judge the definitions.

-- The properties of its root, with time 1, and those of a hash node with three bytes of the CRC-32
-- of `abc`. Each has one more property, which an update must keep.
abbrev pub head_to_update : List Property
head_to_update = (codes "description", codes "k" ++ 0 ∷ []) ∷ (timestamp_name, cell 1) ∷ []

abbrev pub hash_to_update : List Property
hash_to_update =
    (algo_name, codes "crc32" ++ 0 ∷ [])
    ∷ (codes "hint", codes "x" ++ 0 ∷ [])
    ∷ (value_name, 1 ∷ 2 ∷ 3 ∷ [])
    ∷ []

-- The tree. The image `a` has the payload `abc`, a hash node with a hash node below it, a hash node
-- with an unknown algorithm, a node that is not a hash node, and another hash node. The image `b`
-- has no payload.
abbrev pub tree_to_update : ImageTree
tree_to_update = record {
  cpu = 1;
  reservations = record { address = 0x1000; size = 0x20 } ∷ [];
  root = record {
    own = from_entries head_to_update;
    children = node images_name empty
        (node (codes "a") empty
        (node (codes "hash-1") (from_entries hash_to_update)
        (node (codes "hash") (from_entries hash_to_update) none none)
        (node (codes "hash@2") (from_entries other_crc) none
        (node (codes "other") (from_entries hash_to_update) none
        (node (codes "hash-3") (from_entries hash_to_update) none none))))
        (node (codes "b") empty
        (node (codes "hash-1") (from_entries hash_to_update) none none)
        none))
        none;
  };
  payloads = Some (codes "abc") ∷ None ∷ [];
}

-- The same hash node in byte order, with this value.
abbrev pub hash_with_value : List ℕ → List Property
hash_with_value value =
    (algo_name, codes "crc32" ++ 0 ∷ [])
    ∷ (codes "hint", codes "x" ++ 0 ∷ [])
    ∷ (value_name, value)
    ∷ []

-- The nodes of the tree, with the properties of each in byte order, with this time, and with this
-- value of the two hash nodes that an update changes.
abbrev pub nodes_after_update : (time : ℕ) → (value : List ℕ) → Root (List Property)
nodes_after_update time value = record {
  own = (codes "description", codes "k" ++ 0 ∷ []) ∷ (timestamp_name, cell time) ∷ [];
  children = node images_name []
      (node (codes "a") []
      (node (codes "hash-1") (hash_with_value value)
      (node (codes "hash") (hash_with_value (1 ∷ 2 ∷ 3 ∷ [])) none none)
      (node (codes "hash@2")
      ((algo_name, codes "crc16-ccitt" ++ 0 ∷ []) ∷ (value_name, 0 ∷ 0 ∷ []) ∷ [])
      none
      (node (codes "other") (hash_with_value (1 ∷ 2 ∷ 3 ∷ [])) none
      (node (codes "hash-3") (hash_with_value value) none none))))
      (node (codes "b") []
      (node (codes "hash-1") (hash_with_value (1 ∷ 2 ∷ 3 ∷ [])) none none)
      none))
      none;
}

-- The tree after an update with these changes.
abbrev pub after_update : Changes → Root (List Property)
after_update changes = in_byte_order (with_changes changes tree_to_update).root

-- An update of the time, one of the digests, and one of both. The CRC-32 of `abc` is 0x352441c2.
pub record UpdatesAreKnown : Type 0 where
  pub time : after_update (record { time = Some 5; hashes = false })
      ≡ nodes_after_update 5 (1 ∷ 2 ∷ 3 ∷ [])
  pub hashes : after_update (record { time = None; hashes = true })
      ≡ nodes_after_update 1 (0x35 ∷ 0x24 ∷ 0x41 ∷ 0xc2 ∷ [])
  pub both : after_update (record { time = Some 0; hashes = true })
      ≡ nodes_after_update 0 (0x35 ∷ 0x24 ∷ 0x41 ∷ 0xc2 ∷ [])
