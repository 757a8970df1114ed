use Rattle.std.specs.Prelude.{◌≡◌, ◌≤◌, length}
use Rattle.bi_base.specs.Limits.{Limits}
use Rattle.bi_blob.specs.Tree.{Root, PropertyMap, depth_of}
use Rattle.bi_blob.specs.Layout.{longest_text}
use Rattle.bi_fit.specs.declared.form.Form.TheVariants.{Embedded}
use Rattle.bi_fit.specs.ImageTree.{ImageTree, IsImageTree}
use Rattle.bi_fit.specs.Laws.{IsAcceptedAs}
use Rattle.bi_fit.specs.Text.{fit_text}
use Rattle.bi_plain.specs.Plain.{IsPlainTree, plain_root, with_plain_root}
use Rattle.bi_plain.specs.PlainText.{plain_text}

-- Laws of plain trees (profile of this project).

-- A flattened image tree has a plain tree of the same depth, which has no other flattened image
-- tree, and whose text is that of the flattened image tree in the form Embedded.
pub record HasPlainTree (tree : ImageTree) : Type 0 where
  pub is_plain : IsPlainTree (plain_root tree)
  pub same_depth : depth_of (plain_root tree) ≡ depth_of tree.root
  pub same : with_plain_root (plain_root tree) tree ≡ tree
  pub is_text : plain_text tree.cpu tree.reservations (plain_root tree) ≡ fit_text Embedded tree

abbrev pub EachImageTreeHasPlainTree : Type 0
EachImageTreeHasPlainTree = (tree : ImageTree) → IsImageTree tree → HasPlainTree tree

-- A plain tree, with the boot processor and the memory reservations of a flattened image tree, is
-- that of a flattened image tree.
pub record IsOfImageTree (root : Root PropertyMap) (tree : ImageTree) : Type 0 where
  pub is_tree : IsImageTree (with_plain_root root tree)
  pub same : plain_root (with_plain_root root tree) ≡ root

abbrev pub EachPlainTreeIsOfImageTree : Type 0
EachPlainTreeIsOfImageTree = (root : Root PropertyMap) (tree : ImageTree) → IsPlainTree root
    → IsImageTree tree → IsOfImageTree root tree

-- The text of a plain tree is accepted under limits that hold it, and means the flattened image
-- tree that the plain tree is of.
abbrev pub PlainTreesReturn : Type 0
PlainTreesReturn =
    (bounds : Limits) (root : Root PropertyMap) (tree : ImageTree) → IsPlainTree root
    → IsImageTree tree → depth_of root ≤ bounds.depth
    → length (plain_text tree.cpu tree.reservations root) ≤ bounds.file
    → bounds.file ≤ longest_text
    → IsAcceptedAs bounds (plain_text tree.cpu tree.reservations root) (with_plain_root root tree)
