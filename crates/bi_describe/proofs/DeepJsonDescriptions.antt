use Rattle.std.proofs.Common.{◌<◌, ◌^◌, ◌+◌, ℕ, List, [], ◌∷◌, None, Some, Option, refl, arith, inl, inr}
use Rattle.std.proofs.Common.{length}
use Rattle.std.specs.List.{AllByRecursion}
use Rattle.bi_base.specs.Limits.{Limits}
use Rattle.bi_blob.specs.Tree.{with_each}
use Rattle.bi_blob.proofs.Texts.TextContent.{blob_has_content}
use Rattle.bi_legacy.proofs.ImageOfFile.{image_of_file}
use Rattle.bi_norm.specs.Meaning.{Meaning, Means, OfFit, OfLegacy}
use Rattle.bi_common.specs.Json.{json_members, json_values}
use Rattle.bi_common.proofs.JsonSizes.{part_sizes_small}
use Rattle.bi_common.proofs.JsonTexts.{json_lines_are_json}
use Rattle.bi_describe.specs.DeepJson.{deep_object, deep_part_objects, devicetree_object, inside_members, object_with_inside}
use Rattle.bi_describe.specs.DeepLaws.{DeepDescriptionsAreJson}
use Rattle.bi_describe.specs.DescriptionJson.{node_objects}
use Rattle.bi_describe.specs.Descriptions.{digest_of_payload, plain_node}
use Rattle.bi_describe.specs.Devicetrees.{AreInside, Devicetree, HasInside, Insides, IsDevicetree, payloads_at_places}
use Rattle.bi_describe.specs.Ignoring.{OfImageNamed, OfPart, PayloadPlace}
use Rattle.bi_describe.proofs.JsonDescriptions.{digest_read_with, fit_read_with, legacy_read_with, nodes_read_with, own_read_with}
use Rattle.bi_describe.proofs.JsonDescriptions.{reservations_read}
use Rattle.bi_describe.proofs.JsonReading.{CanReadMembers, CanReadValue, CanReadValues, has_numbers}
use Rattle.bi_describe.proofs.OneInside.{FoundAt, found_payload}
use Rattle.bi_describe.proofs.ShownNodes.{digest_shown}
use Rattle.bi_describe.proofs.ShownDevicetrees.{root_shown}

-- Each deep description in JSON is JSON.

-- ---- a devicetree

devicetree_read : (limits : Limits) (payload : List ℕ) (tree : Devicetree) → IsDevicetree limits payload tree →
    CanReadValue (devicetree_object tree)
devicetree_read limits payload tree is =
    let shown = root_shown limits payload tree is in
    let content = blob_has_content payload tree.cpu tree.reservations is.root is.blob in
    let nodes = nodes_read_with (λ name. []) (λ name. tt) (with_each plain_node tree.root.children) shown.nodes in
    let root = own_read_with [] (plain_node tree.root.own) (node_objects (with_each plain_node tree.root.children)) tt shown.properties tt
    nodes in
    (refl, (omega (arith, content.cpu_fits), (refl, (reservations_read tree.reservations, (refl, (root, tt))))))

-- The members for what is inside a payload.
inside_read : (limits : Limits) (payload : List ℕ) (found : Option Devicetree) → HasInside limits payload found →
    CanReadMembers (json_members (inside_members found))
inside_read limits payload None has = tt
inside_read limits payload (Some tree) has = (refl, (devicetree_read limits payload tree has, tt))

all_read : (limits : Limits) (meaning : Meaning) (insides : Insides) → AreInside limits meaning insides → (place : PayloadPlace) →
    CanReadMembers (json_members (inside_members (insides place)))
all_read limits meaning insides are place = by (found_payload (payloads_at_places meaning) place)
  where
    by : FoundAt (payloads_at_places meaning) place → CanReadMembers (json_members (inside_members (insides place)))
    by (inl (payload, has)) = inside_read limits payload (insides place) (are.each place payload has)
    by (inr nothing) = rw (are.other place nothing) tt

parts_read : (insides : Insides) → ((place : PayloadPlace) → CanReadMembers (json_members (inside_members (insides place)))) →
    (index : ℕ) (parts : List (List ℕ)) → AllByRecursion (λ (part : List ℕ). length part < 2 ^ 64) parts →
    CanReadValues (json_values (deep_part_objects insides index parts))
parts_read insides can index [] small = tt
parts_read insides can index (part ∷ later) small = (
  digest_read_with (inside_members (insides (OfPart index))) (digest_of_payload part) (digest_shown part small.0) (can (OfPart index)),
  parts_read insides can (index + 1) later small.1,
)

meaning_read : (limits : Limits) (file : List ℕ) (insides : Insides) →
    ((place : PayloadPlace) → CanReadMembers (json_members (inside_members (insides place)))) → (meaning : Meaning) →
    Means limits file meaning → CanReadValue (object_with_inside insides meaning)
meaning_read limits file insides can (OfLegacy image) means =
    let is = image_of_file file image means.is_file in
    legacy_read_with (deep_part_objects insides 0 image.parts) image is
    (parts_read insides can 0 image.parts (part_sizes_small image is))
meaning_read limits file insides can (OfFit tree) means =
    fit_read_with (λ name. inside_members (insides (OfImageNamed name))) (λ name. can (OfImageNamed name)) file tree means.is_file

pub deep_descriptions_are_json : DeepDescriptionsAreJson
deep_descriptions_are_json limits file deep range means =
    let can = all_read limits deep.meaning deep.insides means.are_inside in
    json_lines_are_json (deep_object deep)
    (has_numbers (deep_object deep) (meaning_read limits file deep.insides can deep.meaning means.means.means))
