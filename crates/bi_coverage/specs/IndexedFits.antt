use Rattle.std.specs.Prelude.{◌≡◌, ℕ, List, map}
use Rattle.bi_blob.specs.Lookups.{siblings}
use Rattle.bi_blob.specs.Tree.{names}
use Rattle.bi_fdt.specs.Content.{Blob}
use Rattle.bi_fit.specs.Content.{FitModel, IsHeld}
use Rattle.bi_fit.specs.HashNodes.{file_images}
use Rattle.bi_coverage.specs.ReferenceOrders.{IsNamesOrder}
use Rattle.bi_coverage.specs.Signatures.{covered_names}

-- A flattened image tree with what is looked up in it for its signatures.

-- The tree, and the limit on the lengths of paths.
pub record IndexedFit : Type 0 where
  pub content : FitModel
  pub limit : ℕ

-- The names of the children of each image that a signature must cover.
abbrev pub covered_by_images : FitModel → List (List (List ℕ))
covered_by_images content =
    map (λ image. covered_names (names image.children)) (siblings (file_images content.blob))

-- What is looked up is that of the tree, which was read.
pub record IsIndexedFit (content : FitModel) (order : List (ℕ × ℕ))
    (covered : List (List (List ℕ))) (nodes : Blob) : Type 0 where
  pub held : IsHeld content
  pub ordered : IsNamesOrder content.blob.table order
  pub are_covered : covered ≡ covered_by_images content
  pub same_blob : nodes ≡ content.blob
