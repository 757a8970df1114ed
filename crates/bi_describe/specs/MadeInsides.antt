use Rattle.std.specs.Prelude.{◌≡◌, ⊤, Bool, false, ℕ, ◌+◌, List, [], ◌∷◌, IfSome, None, Option}
use Rattle.std.specs.Prelude.{Some, if◌then◌else◌, map, slice_get, unwrap_or}
use Rattle.std.specs.Borrow.{Bor}
use Rattle.std.specs.List.{AllZip, list_any}
use Rattle.std.specs.Option.{option_map}
use Rattle.bi_base.specs.Limits.{Limits}
use Rattle.bi_fdt.specs.Content.{Blob}
use Rattle.bi_fit.specs.Content.{ImageModel, index_of}
use Rattle.bi_norm.specs.declared.image.BootImage.{BootImage}
use Rattle.bi_norm.specs.declared.image.BootImage.TheVariants as boot
use Rattle.bi_norm.specs.Meaning.{Meaning, OfFit, OfLegacy}
use Rattle.bi_describe.specs.declared.describe.deep.DeepImage.{DeepImage}
use Rattle.bi_describe.specs.declared.describe.inside.InsideNodes.{InsideNodes}
use Rattle.bi_describe.specs.declared.describe.inside.InsideTree.{InsideTree}
use Rattle.bi_describe.specs.declared.describe.insides.Insides.{Insides as MadeInsides}
use Rattle.bi_describe.specs.declared.describe.insides.PayloadIndex.{PayloadIndex}
use Rattle.bi_describe.specs.declared.describe.insides.PayloadIndex.TheVariants as by
use Rattle.bi_describe.specs.declared.describe.kept.legacy.KeptPart.{KeptPart}
use Rattle.bi_describe.specs.declared.ignored.PayloadPlace.{PayloadPlace as MadePlace}
use Rattle.bi_common.specs.declared.format.Format.{Format}
use Rattle.bi_describe.specs.DeepDescribing.{CanBeDescribedDeep}
use Rattle.bi_describe.specs.DeepDescriptions.{InsidesShown, whole_devicetree}
use Rattle.bi_describe.specs.DescribedImages.{HoldsMeaning}
use Rattle.bi_describe.specs.Devicetrees.{AreInside, DeepMeaning, HasInside, Insides}
use Rattle.bi_describe.specs.IgnoredWords.{payload_path}
use Rattle.bi_describe.specs.Ignoring.{Ignored, PayloadPlace, OfImageNamed, OfPart}
use Rattle.bi_describe.specs.Ignoring.{is_node_ignored}
use Rattle.bi_describe.specs.InsideTrees.{IsBlobInside, devicetree_of, long_names}
use Rattle.bi_describe.specs.KeptEntries.{kept_entries, root_entries}
use Rattle.bi_describe.specs.KeptImages.{numbered_part}
use Rattle.bi_describe.specs.MadeWords.{place_of_payload}
use Rattle.bi_describe.specs.OpenedPayloads.{is_same_payload, is_word_inside, part_unless_opened}
use Rattle.bi_describe.specs.OpenedPayloads.{tree_at_without}
use Rattle.bi_describe.specs.ReducedMeanings.{ReducedTree}
use Rattle.bi_describe.specs.TreeEntries.{EntryModel, as_entry}

-- What is inside payloads, as the code has it.

-- The entries of nodes, if there are nodes.
abbrev pub entries_inside : Option InsideNodes → Option (List EntryModel)
entries_inside nodes = option_map (λ nodes. map as_entry nodes.entries.items) nodes

-- The entries that stay once words are left out of a tree: none if its root is.
abbrev pub entries_that_stay : List Ignored → Option (List EntryModel) → Option (List EntryModel)
entries_that_stay words None = None
entries_that_stay words (Some entries) =
    if is_node_ignored words [] then None else Some (kept_entries words [] 0 entries)

-- This is what stays of a devicetree inside the payload with this path.
pub record HoldsInside (payload : List ℕ) (tree : ReducedTree) (made : InsideTree) : Type 0 where
  pub path : made.path.items ≡ payload
  pub cpu : made.blob.cpu ≡ tree.cpu
  pub reservations : made.blob.reservations ≡ tree.reservations
  pub entries : entries_inside made.nodes ≡ root_entries tree.root

-- The index of the payload at a place, if there can be one.
abbrev pub payload_index_in : PayloadIndex → PayloadPlace → Option ℕ
payload_index_in by.Parts (OfPart index) = Some index
payload_index_in (by.Images fit) (OfImageNamed name) = index_of name fit.now.images
payload_index_in index place = None

-- The name of the image with this index: no bytes if there is none.
abbrev pub name_at : List ImageModel → ℕ → List ℕ
name_at images index =
    unwrap_or (option_map (λ (image : ImageModel). image.name) (slice_get images index)) []

-- The place of the payload with this index.
abbrev pub place_at : PayloadIndex → ℕ → PayloadPlace
place_at by.Parts index = OfPart index
place_at (by.Images fit) index = OfImageNamed (name_at fit.now.images index)

-- This is where the payloads of an image are.
abbrev pub IsIndexOf : BootImage → PayloadIndex → Type 0
IsIndexOf (boot.Legacy legacy) by.Parts = ⊤
IsIndexOf (boot.Fit fit) (by.Images other) = other.now ≡ fit
IsIndexOf image index = ⊥

-- The payloads of a meaning, by their index. Not every image has one.
abbrev pub payloads_in : Meaning → List (Option (List ℕ))
payloads_in (OfLegacy image) = map Some image.parts
payloads_in (OfFit tree) = tree.payloads

-- A tree, if there is one.
abbrev pub tree_or_none : Option (Option InsideTree) → Option InsideTree
tree_or_none None = None
tree_or_none (Some tree) = tree

-- The tree inside the payload with this index, and at a place.
abbrev pub tree_with_index : List (Option InsideTree) → Option ℕ → Option InsideTree
tree_with_index trees None = None
tree_with_index trees (Some index) = tree_or_none (slice_get trees index)

abbrev pub made_tree_at : MadeInsides → PayloadPlace → Option InsideTree
made_tree_at made place = tree_with_index made.trees.items (payload_index_in made.index place)

-- This is the tree at a place, or there is none.
abbrev pub HoldsAt : PayloadPlace → Option ReducedTree → Option InsideTree → Type 0
HoldsAt place None None = ⊤
HoldsAt place (Some tree) (Some made) = HoldsInside (payload_path place) tree made
HoldsAt place tree made = ⊥

-- These are the trees at all places.
abbrev pub HoldInsides : (tree_at : PayloadPlace → Option ReducedTree) → MadeInsides → Type 0
HoldInsides tree_at made =
    (place : PayloadPlace) → HoldsAt place (tree_at place) (made_tree_at made place)

-- Those of a meaning, if nothing is left out.
abbrev pub whole_devicetrees : Insides → PayloadPlace → Option ReducedTree
whole_devicetrees insides place = option_map whole_devicetree (insides place)

-- The code has what is inside the payloads of a meaning within the limits.
pub record IsReadInside (limits : Limits) (meaning : Meaning) (made : MadeInsides) : Type 0 where
  pub insides : Insides
  pub are_inside : AreInside limits meaning insides
  pub are_held : HoldInsides (whole_devicetrees insides) made

-- The trees, of which that at one place is this.
abbrev pub with_tree_at : PayloadPlace → Option ReducedTree
    → (tree_at : PayloadPlace → Option ReducedTree) → PayloadPlace → Option ReducedTree
with_tree_at place tree tree_at other = if is_same_payload place other then tree else tree_at other

-- The trees once these words are left out of those that one of the first words is for something
-- inside of.
abbrev pub trees_after : (words first : List Ignored) → Insides → PayloadPlace
    → Option ReducedTree
trees_after words first insides place =
    if list_any (is_word_inside place) first then tree_at_without words insides place
    else whole_devicetrees insides place

-- The blob in a payload, if that is a devicetree.
abbrev pub HasBlob : Limits → (payload : Option (List ℕ)) → Option Blob → Type 0
HasBlob limits None None = ⊤
HasBlob limits None (Some blob) = ⊥
HasBlob limits (Some payload) None = HasInside limits payload None
HasBlob limits (Some payload) (Some blob) = IsBlobInside limits payload blob

abbrev pub AreBlobsInside : Limits → (payloads : List (Option (List ℕ))) → List (Option Blob)
    → Type 0
AreBlobsInside limits payloads blobs = AllZip (HasBlob limits) payloads blobs

-- The tree of a blob, if there is one.
abbrev pub HoldsBlob : (payload : List ℕ) → Option Blob → Option InsideTree → Type 0
HoldsBlob payload None None = ⊤
HoldsBlob payload (Some blob) (Some made) =
    HoldsInside payload (whole_devicetree (devicetree_of blob)) made
HoldsBlob payload blob made = ⊥

-- The trees of blobs, the first of which is in the payload with this index.
abbrev pub HoldBlobs : PayloadIndex → (first : ℕ) → List (Option Blob) → List (Option InsideTree)
    → Type 0
HoldBlobs index first [] [] = ⊤
HoldBlobs index first (blob ∷ blobs) (tree ∷ trees) =
    HoldsBlob (payload_path (place_at index first)) blob tree
    × HoldBlobs index (first + 1) blobs trees
HoldBlobs index first blobs trees = ⊥

-- A blob is a devicetree, if there is one.
abbrev pub IsBlobOrNone : Limits → Option Blob → Type 0
IsBlobOrNone limits blob = IfSome blob (λ found. IsBlobInside limits found.file found)

-- How many bytes the long names of properties in these blobs have together.
abbrev pub long_names_in : List (Option Blob) → ℕ
long_names_in [] = 0
long_names_in (blob ∷ later) =
    long_names (option_map devicetree_of blob) + long_names_in later

-- The code has a meaning, with what is inside.
pub record HoldsDeep (deep : DeepMeaning) (made : DeepImage) : Type 0 where
  pub holds : HoldsMeaning deep.meaning made.described
  pub are_held : HoldInsides (whole_devicetrees deep.insides) made.insides

-- The code has what the deep description of a meaning is made from, which can be described in a
-- form within limits.
pub record IsDeepOf (format : Format) (limits : Limits) (meaning : Meaning) (made : DeepImage)
    : Type 0
  where
    pub insides : Insides
    pub are_inside : AreInside limits meaning insides
    pub within : CanBeDescribedDeep format limits (record { meaning = meaning; insides = insides })
    pub holds : HoldsDeep (record { meaning = meaning; insides = insides }) made

-- ---- payloads that are opened

-- The payload at a place is among those at these places.
abbrev pub is_one_of_places : List (Bor MadePlace) → PayloadPlace → Bool
is_one_of_places places payload =
    list_any (λ place. is_same_payload payload (place_of_payload place.now)) places

-- These trees are shown, and these payloads have no lines of their own.
abbrev pub shown_by : (tree_at : PayloadPlace → Option ReducedTree) → List (Bor MadePlace)
    → InsidesShown
shown_by tree_at places = record { tree_at = tree_at; is_left_out = is_one_of_places places }

-- The place is this one, if there is one.
abbrev pub has_place : PayloadPlace → Option (Bor MadePlace) → Bool
has_place payload None = false
has_place payload (Some place) = is_same_payload payload (place_of_payload place.now)

-- A part that stays, without its bytes if it is among those at these places.
abbrev pub kept_part_unless : List (Bor MadePlace) → KeptPart → ℕ × List ℕ
kept_part_unless places part =
    part_unless_opened (is_one_of_places places) (numbered_part part)
