use Rattle.std.proofs.Common.{ℕ, ◌<◌, ◌^◌, Bool, true, false, cond, List, [], ◌∷◌, bytes_eq, length, Option, None, Some}
use Rattle.std.specs.Prelude.{⊤}
use Rattle.std.specs.FinMap.{entries}
use Rattle.std.specs.List.{AllByRecursion}
use Rattle.std.specs.Option.{option_map}
use Rattle.bi_base.specs.Cells.{AreBytes}
use Rattle.bi_blob.specs.Tree.{Nodes, none, node, IsChildName, PropertyMap, AreNodes, with_each}
use Rattle.bi_fit.specs.File.{IsFitFile}
use Rattle.bi_fit.specs.ImageTree.{ImageTree, ArePropertiesByName, HaveByteNames}
use Rattle.bi_fit.specs.Names.{images_name}
use Rattle.bi_fit.proofs.TextLaws.{file_means_image_tree}
use Rattle.bi_fit.proofs.TreeContents.{AreBlobProperties, good-entries}
use Rattle.bi_hash.specs.declared.algo.Algo.TheVariants.{Sha256}
use Rattle.bi_hash.proofs.DigestBytes.{AreBytes-digest_of}
use Rattle.bi_describe.specs.Descriptions.{PayloadDigest, NodePayload, OfImage, DescribedNode, digest_of_payload, plain_node}
use Rattle.bi_describe.specs.Descriptions.{described_images, described_nodes}
use Rattle.bi_describe.proofs.PayloadSizes.{HasSize, file_payloads_fit}

-- What a description shows of the nodes of a file are bytes and numbers of 64 bits.

pub record IsShownDigest (digest : PayloadDigest) : Type 0 where
  pub bytes : AreBytes digest.sha256
  pub small : digest.size < 2 ^ 64

pub digest_shown : (payload : List ℕ) → length payload < 2 ^ 64 → IsShownDigest (digest_of_payload payload)
digest_shown payload small = record { bytes = AreBytes-digest_of Sha256 payload; small = small }

abbrev pub IsShownPayload : NodePayload → Type 0
IsShownPayload (OfImage (Some digest)) = IsShownDigest digest
IsShownPayload payload = ⊤

payload_shown : (payload : Option (List ℕ)) → HasSize payload → IsShownPayload (OfImage (option_map digest_of_payload payload))
payload_shown None small = tt
payload_shown (Some payload) small = digest_shown payload small

pub record IsShownNode (name : List ℕ) (own : DescribedNode) : Type 0 where
  pub is_name : IsChildName name
  pub name_bytes : AreBytes name
  pub properties : AreBlobProperties (entries own.properties)
  pub payload : IsShownPayload own.payload

-- The same of nodes and all below them.
abbrev pub AreShown : Nodes DescribedNode → Type 0
AreShown none = ⊤
AreShown (node name own children later) = IsShownNode name own × AreShown children × AreShown later

pub plain_shown : (nodes : Nodes PropertyMap) → AreNodes ArePropertiesByName nodes → HaveByteNames nodes →
    AreShown (with_each plain_node nodes)
plain_shown none are bytes = tt
plain_shown (node name own children later) are bytes = (
  record { is_name = are.0.is_name; name_bytes = bytes.0; properties = good-entries own are.0.is_own; payload = tt },
  plain_shown children are.1 bytes.1,
  plain_shown later are.2 bytes.2,
)

images_shown : (nodes : Nodes PropertyMap) (payloads : List (Option (List ℕ))) → AreNodes ArePropertiesByName nodes →
    HaveByteNames nodes → AllByRecursion HasSize payloads → AreShown (described_images nodes payloads)
images_shown none payloads are bytes sizes = tt
images_shown (node name own children later) [] are bytes sizes = tt
images_shown (node name own children later) (payload ∷ payloads) are bytes sizes = (
  record {
    is_name = are.0.is_name;
    name_bytes = bytes.0;
    properties = good-entries own are.0.is_own;
    payload = payload_shown payload sizes.0;
  },
  plain_shown children are.1 bytes.1,
  images_shown later payloads are.2 bytes.2 sizes.1,
)

nodes_shown : (nodes : Nodes PropertyMap) (payloads : List (Option (List ℕ))) → AreNodes ArePropertiesByName nodes →
    HaveByteNames nodes → AllByRecursion HasSize payloads → AreShown (described_nodes nodes payloads)
nodes_shown none payloads are bytes sizes = tt
nodes_shown (node name own children later) payloads are bytes sizes = (
  record { is_name = are.0.is_name; name_bytes = bytes.0; properties = good-entries own are.0.is_own; payload = tt },
  by (bytes_eq name images_name),
  nodes_shown later payloads are.2 bytes.2 sizes,
)
  where
    by : (b : Bool) → AreShown (cond b (described_images children payloads) (with_each plain_node children))
    by true = images_shown children payloads are.1 bytes.1 sizes
    by false = plain_shown children are.1 bytes.1

-- The nodes of what a file means, and the properties of its root.
pub all_shown : (file : List ℕ) (tree : ImageTree) → IsFitFile file tree → AreShown (described_nodes tree.root.children tree.payloads)
all_shown file tree is =
    let good = file_means_image_tree file tree is in
    nodes_shown tree.root.children tree.payloads good.is_tree.children good.name_bytes (file_payloads_fit file tree is)

pub root_shown : (file : List ℕ) (tree : ImageTree) → IsFitFile file tree → AreBlobProperties (entries tree.root.own)
root_shown file tree is = good-entries tree.root.own (file_means_image_tree file tree is).is_tree.is_own
