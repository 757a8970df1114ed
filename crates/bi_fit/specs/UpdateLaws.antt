use Rattle.std.specs.Prelude.{◌≡◌, ◌≢◌, ℕ, ◌≤◌, Bool, true, false, List, Option, None, Some, length}
use Rattle.std.specs.FinMap.{get}
use Rattle.std.specs.List.{AllZip}
use Rattle.bi_base.specs.Cells.{cell}
use Rattle.bi_base.specs.Limits.{Limits}
use Rattle.bi_blob.specs.Tree.{Nodes, PropertyMap, depth_of}
use Rattle.bi_blob.specs.Layout.{longest_text}
use Rattle.bi_blob.specs.Lookups.{Sibling, siblings}
use Rattle.bi_hash.specs.declared.algo.Algo.{Algo}
use Rattle.bi_hash.specs.Digests.{digest_of}
use Rattle.bi_fit.specs.declared.changes.Changes.{Changes}
use Rattle.bi_fit.specs.declared.form.Form.{Form}
use Rattle.bi_fit.specs.ImageTree.{ImageTree, IsImageTree}
use Rattle.bi_fit.specs.Judgement.{Image, images_of}
use Rattle.bi_fit.specs.Laws.{IsAcceptedAs}
use Rattle.bi_fit.specs.Names.{images_name, timestamp_name, value_name}
use Rattle.bi_fit.specs.NewDigests.{hash_algorithm}
use Rattle.bi_fit.specs.Text.{fit_text}
use Rattle.bi_fit.specs.Updating.{with_changes, HasUpdatedJudgement}

-- Laws of updates of flattened image trees (profile of this project). Each is the contract of a
-- function in `update_laws`.

-- Without changes a tree is as it was.
abbrev pub NoChangeKeepsTree : Type 0
NoChangeKeepsTree =
    (tree : ImageTree) → with_changes (record { time = None; hashes = false }) tree ≡ tree

-- An updated image tree is an image tree of the same depth.
pub record IsStillImageTree (changes : Changes) (tree : ImageTree) : Type 0 where
  pub is_image_tree : IsImageTree (with_changes changes tree)
  pub depth : depth_of (with_changes changes tree).root ≡ depth_of tree.root

abbrev pub UpdatedIsImageTree : Type 0
UpdatedIsImageTree =
    (changes : Changes) (tree : ImageTree) → IsImageTree tree → IsStillImageTree changes tree

-- The text of an updated image tree is accepted under limits that hold it, and means the updated
-- tree.
abbrev pub UpdatedIsAccepted : Type 0
UpdatedIsAccepted =
    (bounds : Limits) (form : Form) (changes : Changes) (tree : ImageTree) → IsImageTree tree
    → depth_of tree.root ≤ bounds.depth
    → length (fit_text form (with_changes changes tree)) ≤ bounds.file → bounds.file ≤ longest_text
    → IsAcceptedAs bounds (fit_text form (with_changes changes tree)) (with_changes changes tree)

-- After an update of the digests each verdict on a known algorithm is Good, and all else that
-- follows from a tree stays.
abbrev pub EachUpdateHasItsJudgement : Type 0
EachUpdateHasItsJudgement =
    (changes : Changes) (tree : ImageTree)
    → HasUpdatedJudgement changes tree (with_changes changes tree)

-- ---- what an update changes

-- The properties of a root have this time, and all but `timestamp` are as they were.
pub record HaveNewTime (time : ℕ) (old new : PropertyMap) : Type 0 where
  pub timestamp : get new timestamp_name ≡ Some (cell time)
  pub others : (name : List ℕ) → name ≢ timestamp_name → get new name ≡ get old name

-- The same if there may be no time: without one, all are as they were.
abbrev pub HaveTime : Option ℕ → (old new : PropertyMap) → Type 0
HaveTime None old new = new ≡ old
HaveTime (Some time) old new = HaveNewTime time old new

-- The properties of a hash node have the digest of this payload with this algorithm, and all but
-- `value` are as they were.
pub record HaveNewDigest (algo : Algo) (payload : List ℕ) (old new : PropertyMap) : Type 0 where
  pub value : get new value_name ≡ Some (digest_of algo payload)
  pub others : (name : List ℕ) → name ≢ value_name → get new name ≡ get old name

-- The same if there may be no algorithm: without one, all are as they were.
abbrev pub HaveDigest : Option Algo → (payload : List ℕ) → (old new : PropertyMap) → Type 0
HaveDigest None payload old new = new ≡ old
HaveDigest (Some algo) payload old new = HaveNewDigest algo payload old new

-- A child of an image node with this payload has the digest if it is a hash node and names a known
-- algorithm, and is as it was if not. The nodes below it are as they were.
pub record IsUpdatedChild (payload : List ℕ) (old new : Sibling PropertyMap) : Type 0 where
  pub name : new.name ≡ old.name
  pub own : HaveDigest (hash_algorithm old.name old.own) payload old.own new.own
  pub children : new.children ≡ old.children

-- The children of an image node that may have a payload: without one they are as they were.
abbrev pub AreUpdatedChildren : Option (List ℕ) → (old new : Nodes PropertyMap) → Type 0
AreUpdatedChildren None old new = new ≡ old
AreUpdatedChildren (Some payload) old new =
    AllZip (IsUpdatedChild payload) (siblings old) (siblings new)

-- An image has the name, the properties and the payload that it had, and such children.
pub record IsUpdatedImage (old new : Image) : Type 0 where
  pub payload : new.payload ≡ old.payload
  pub name : new.entry.name ≡ old.entry.name
  pub own : new.entry.own ≡ old.entry.own
  pub children : AreUpdatedChildren old.payload old.entry.children new.entry.children

-- A child of the root has the name and the properties that it had, and the children too, unless it
-- is `images`.
pub record IsKeptChild (old new : Sibling PropertyMap) : Type 0 where
  pub name : new.name ≡ old.name
  pub own : new.own ≡ old.own
  pub children : old.name ≢ images_name → new.children ≡ old.children

-- A tree has new digests, and all other nodes are as they were.
pub record HasOnlyNewDigests (old new : ImageTree) : Type 0 where
  pub children : AllZip IsKeptChild (siblings old.root.children) (siblings new.root.children)
  pub images : AllZip IsUpdatedImage (images_of old) (images_of new)

-- The same, if the digests change: if not, all nodes are as they were.
abbrev pub HasDigests : (hashes : Bool) → (old new : ImageTree) → Type 0
HasDigests false old new = new.root.children ≡ old.root.children
HasDigests true old new = HasOnlyNewDigests old new

-- A tree has these changes and no others.
pub record HasOnlyChanges (changes : Changes) (old new : ImageTree) : Type 0 where
  pub cpu : new.cpu ≡ old.cpu
  pub reservations : new.reservations ≡ old.reservations
  pub payloads : new.payloads ≡ old.payloads
  pub properties : HaveTime changes.time old.root.own new.root.own
  pub nodes : HasDigests changes.hashes old new

-- An update changes what it must change, and nothing else.
abbrev pub EachUpdateHasItsChanges : Type 0
EachUpdateHasItsChanges =
    (changes : Changes) (tree : ImageTree) → HasOnlyChanges changes tree (with_changes changes tree)
