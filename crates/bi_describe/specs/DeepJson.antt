use Rattle.std.specs.Prelude.{ℕ, ◌+◌, List, [], ◌∷◌, Option, None, Some, codes}
use Rattle.bi_blob.specs.Tree.{with_each}
use Rattle.bi_norm.specs.Meaning.{Meaning, OfLegacy, OfFit}
use Rattle.bi_common.specs.CommonLines.{reservations_member}
use Rattle.bi_common.specs.Json.{Json, Member, json_line, json_number, json_object}
use Rattle.bi_describe.specs.DescriptionJson.{digest_object_with, fit_object_with}
use Rattle.bi_describe.specs.DescriptionJson.{legacy_object_with, node_members, node_objects}
use Rattle.bi_describe.specs.Descriptions.{digest_of_payload, plain_node}
use Rattle.bi_describe.specs.Devicetrees.{DeepMeaning, Devicetree, Insides}
use Rattle.bi_describe.specs.Ignoring.{OfImageNamed, OfPart}

-- The JSON of a deep description: that of the description, in which each payload or part that is a
-- devicetree has a member for it after its SHA-256 (profile of this project).

-- A devicetree. Its tree is like that of a flattened image tree without images.
abbrev pub devicetree_object : Devicetree → Json
devicetree_object tree =
    json_object
    ((codes "boot_cpu", json_number tree.cpu)
    ∷ reservations_member tree.reservations
    ∷ (
      codes "root",
      json_object
          (node_members (plain_node tree.root.own)
          (node_objects (with_each plain_node tree.root.children))),
    ) ∷ [])

-- The member for what is inside a payload, if something is.
abbrev pub inside_members : Option Devicetree → List Member
inside_members None = []
inside_members (Some tree) = (codes "devicetree", devicetree_object tree) ∷ []

-- Parts, the first of which has this index.
abbrev pub deep_part_objects : Insides → (index : ℕ) → List (List ℕ) → List Json
deep_part_objects insides index [] = []
deep_part_objects insides index (part ∷ later) =
    digest_object_with (inside_members (insides (OfPart index))) (digest_of_payload part)
    ∷ deep_part_objects insides (index + 1) later

-- What a boot image means, inside whose payloads is this.
abbrev pub object_with_inside : Insides → Meaning → Json
object_with_inside insides (OfLegacy image) =
    legacy_object_with (deep_part_objects insides 0 image.parts) image
object_with_inside insides (OfFit tree) =
    fit_object_with (λ name. inside_members (insides (OfImageNamed name))) tree

abbrev pub deep_object : DeepMeaning → Json
deep_object deep = object_with_inside deep.insides deep.meaning

-- The text of the deep description in JSON.
abbrev pub deep_json : DeepMeaning → List ℕ
deep_json deep = json_line (deep_object deep)
