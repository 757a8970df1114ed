use Rattle.std.specs.Prelude.{◌≡◌, ℕ, ◌+◌, Contains, List, [], ◌∷◌, Option, Some, None}
use Rattle.bi_base.specs.Limits.{Limits}
use Rattle.bi_blob.specs.Blob.{IsBlob, IsWithin, Reservation}
use Rattle.bi_blob.specs.Lookups.{node_named}
use Rattle.bi_blob.specs.Tree.{FileNode, PropertyMap, Root, names, tree_without_order}
use Rattle.bi_blob.specs.Tree.{tree_without_places}
use Rattle.bi_fit.specs.ImageTree.{image_nodes, nodes_or_none}
use Rattle.bi_fit.specs.Names.{images_name}
use Rattle.bi_norm.specs.Comparing.{MeansOnly}
use Rattle.bi_norm.specs.Meaning.{Meaning, OfLegacy, OfFit}
use Rattle.bi_describe.specs.Ignoring.{PayloadPlace, OfImageNamed, OfPart}

-- The devicetrees inside the payloads of a boot image (profile of this project).

-- What a devicetree blob means: the boot processor, the memory reservations, and the tree without
-- the order of properties. All properties of all nodes count.
pub record Devicetree : Type 0 where
  pub cpu : ℕ
  pub reservations : List Reservation
  pub root : Root PropertyMap

-- The payload is this devicetree within the limits: it begins with a blob, and the root has no
-- child `images`.
pub record IsDevicetree (limits : Limits) (payload : List ℕ) (tree : Devicetree) : Type 0 where
  pub root : Root FileNode
  pub blob : IsBlob payload tree.cpu tree.reservations root
  pub within : IsWithin limits payload root
  pub no_images : node_named root.children images_name ≡ None
  pub is_root : tree.root ≡ tree_without_order (tree_without_places root)

-- What is inside a payload: a devicetree, or nothing if the payload is none.
abbrev pub HasInside : Limits → (payload : List ℕ) → Option Devicetree → Type 0
HasInside limits payload None = (tree : Devicetree) → ¬ (IsDevicetree limits payload tree)
HasInside limits payload (Some tree) = IsDevicetree limits payload tree

-- The payloads of images with these names, each with its place. Not every image has one.
abbrev pub image_payloads_at : (names : List (List ℕ)) → List (Option (List ℕ))
    → List (PayloadPlace × List ℕ)
image_payloads_at (name ∷ names) (Some payload ∷ later) =
    (OfImageNamed name, payload) ∷ image_payloads_at names later
image_payloads_at (name ∷ names) (None ∷ later) = image_payloads_at names later
image_payloads_at names payloads = []

-- Parts, the first of which has this index, each with its place.
abbrev pub payloads_of_parts : (index : ℕ) → List (List ℕ) → List (PayloadPlace × List ℕ)
payloads_of_parts index [] = []
payloads_of_parts index (part ∷ later) = (OfPart index, part) ∷ payloads_of_parts (index + 1) later

-- The payloads of a meaning, each with its place.
abbrev pub payloads_at_places : Meaning → List (PayloadPlace × List ℕ)
payloads_at_places (OfLegacy image) = payloads_of_parts 0 image.parts
payloads_at_places (OfFit tree) =
    image_payloads_at (names (nodes_or_none (image_nodes tree.root))) tree.payloads

-- What is inside the payload at each place.
abbrev pub Insides : Type 0
Insides = PayloadPlace → Option Devicetree

-- Nothing is, as without `--deep`.
abbrev pub nothing_inside : Insides
nothing_inside place = None

-- This is what is inside the payloads of a meaning, within the limits.
pub record AreInside (limits : Limits) (meaning : Meaning) (insides : Insides) : Type 0 where
  pub each : (place : PayloadPlace) (payload : List ℕ)
      → Contains (payloads_at_places meaning) (place, payload)
      → HasInside limits payload (insides place)
  pub other : (place : PayloadPlace)
      → ((payload : List ℕ) → ¬ (Contains (payloads_at_places meaning) (place, payload)))
      → insides place ≡ None

-- What a boot image means, and what is inside its payloads.
pub record DeepMeaning : Type 0 where
  pub meaning : Meaning
  pub insides : Insides

-- The file means this and nothing else, and this is inside its payloads, within the limits.
pub record MeansWithInside (limits : Limits) (file : List ℕ) (deep : DeepMeaning) : Type 0 where
  pub means : MeansOnly limits file deep.meaning
  pub are_inside : AreInside limits deep.meaning deep.insides
