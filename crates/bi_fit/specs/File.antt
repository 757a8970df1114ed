use Rattle.std.specs.Prelude.{◌≡◌, ℕ, List, Some}
use Rattle.std.specs.List.{AllZip}
use Rattle.bi_base.specs.Limits.{Limits}
use Rattle.bi_blob.specs.Tree.{Nodes, Root, FileNode, tree_without_places, tree_without_order}
use Rattle.bi_blob.specs.Blob.{IsBlob, IsWithin}
use Rattle.bi_fit.specs.ImageTree.{ImageTree, image_nodes, each_own, tree_without_payloads}
use Rattle.bi_fit.specs.Payloads.{HasPayload}

-- The file is a flattened image tree that means this (Flattened Image Tree Specification): a blob
-- whose root has a child `images`, and each child of that has this payload, or none. The order of
-- children is part of the meaning; the order of properties is not (profile of this project).
pub record IsFitFile (file : List ℕ) (tree : ImageTree) : Type 0 where
  pub root : Root FileNode
  pub blob : IsBlob file tree.cpu tree.reservations root
  pub images : Nodes FileNode
  pub has_images : image_nodes root ≡ Some images
  pub payloads : AllZip (HasPayload file) (each_own images) tree.payloads
  pub is_root : tree.root ≡ tree_without_payloads (tree_without_order (tree_without_places root))

-- The file is a flattened image tree that means this, within limits on the length of the file and
-- the depth of its tree (profile of this project).
pub record FitMeans (bounds : Limits) (file : List ℕ) (tree : ImageTree) : Type 0 where
  pub is_file : IsFitFile file tree
  pub within : IsWithin bounds file is_file.root
