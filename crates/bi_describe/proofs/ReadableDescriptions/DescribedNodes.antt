use Rattle.std.proofs.Common.{◌≡◌, ◌≢◌, ℕ, Bool, true, false, List, [], ◌∷◌, map, Option, Some, None, refl, sym, ap}
use Rattle.std.proofs.Common.{ap₂, subst, ◌∙◌, bytes_eq, true≢false}
use Rattle.std.specs.Option.{option_map}
use Rattle.std.specs.List.{AllByRecursion, AllZip}
use Rattle.std.proofs.lemmas.Bool.{cond-true, cond-false}
use Rattle.bi_base.proofs.EqualBytes.{same_bytes}
use Rattle.bi_blob.specs.Tree.{Nodes, none, node, names, PropertyMap, AreNodes, with_each}
use Rattle.bi_fit.specs.ImageTree.{children_of, each_own, IsApart}
use Rattle.bi_fit.specs.Names.{images_name}
use Rattle.bi_fit.proofs.Meanings.{same_in_some}
use Rattle.bi_describe.specs.Descriptions.{PayloadDigest, digest_of_payload, OfImage, DescribedNode, plain_node, described_images}
use Rattle.bi_describe.specs.Descriptions.{described_children, described_nodes}

-- Nodes and the digests of payloads are read back from the nodes of a description.

-- The digest of each payload, and that an image node has none.
abbrev pub digests : List (Option (List ℕ)) → List (Option PayloadDigest)
digests payloads = map (option_map digest_of_payload) payloads

-- Two nodes are the same where their parts are.
parts_same : {A : Type 0} {a b : List ℕ} {c d : A} {e f g h : Nodes A} → a ≡ b → c ≡ d → e ≡ f → g ≡ h → node a c e g ≡ node b d f h
parts_same p q r s = cc

-- The parts of the same node are the same.
record SameParts {A : Type 0} (name other_name : List ℕ) (own other_own : A)
    (children other_children later other_later : Nodes A) : Type 0 where
  names : name ≡ other_name
  owns : own ≡ other_own
  below : children ≡ other_children
  rest : later ≡ other_later

same_parts : {A : Type 0} (a b : List ℕ) (c d : A) (e f g h : Nodes A) → node a c e g ≡ node b d f h → SameParts a b c d e f g h
same_parts a b c d e f g h same = record { names = cc; owns = cc; below = cc; rest = cc }

-- Nodes are read back from the same nodes with no payloads.
same_plain : (one other : Nodes PropertyMap) → with_each plain_node one ≡ with_each plain_node other → one ≡ other
same_plain none none same = refl
same_plain none (node name own children later) same = absurd cc
same_plain (node name own children later) none same = absurd cc
same_plain (node name own children later) (node other_name other_own other_children other_later) same =
    let parts = same_parts name other_name (plain_node own) (plain_node other_own) (with_each plain_node children)
    (with_each plain_node other_children)
    (with_each plain_node later) (with_each plain_node other_later) same in
    parts_same parts.names (ap (λ (described : DescribedNode). described.properties) parts.owns)
    (same_plain children other_children parts.below)
    (same_plain later other_later parts.rest)

-- The payload of an image node is read back.
same_payload : (one other : Option PayloadDigest) → OfImage one ≡ OfImage other → one ≡ other
same_payload one other same = cc

-- Image nodes and the digests of their payloads are read back from the described ones.
same_images : (one other : Nodes PropertyMap) (payloads others : List (Option (List ℕ))) → AllZip IsApart (each_own one) payloads →
    AllZip IsApart (each_own other) others → described_images one payloads ≡ described_images other others →
    (one ≡ other) × (digests payloads ≡ digests others)
same_images none none [] [] apart also same = (refl, refl)
same_images none none [] (q ∷ others) apart also same = absurd also
same_images none none (p ∷ payloads) others apart also same = absurd apart
same_images none (node name own children later) payloads [] apart also same = absurd also
same_images none (node name own children later) [] (q ∷ others) apart also same = absurd cc
same_images none (node name own children later) (p ∷ payloads) (q ∷ others) apart also same = absurd apart
same_images (node name own children later) other [] others apart also same = absurd apart
same_images (node name own children later) none (p ∷ payloads) [] apart also same = absurd cc
same_images (node name own children later) none (p ∷ payloads) (q ∷ others) apart also same = absurd also
same_images (node name own children later) (node other_name other_own other_children other_later) (p ∷ payloads) [] apart also same =
    absurd also
same_images (node name own children later) (node other_name other_own other_children other_later) (p ∷ payloads)
    (q ∷ others) apart also same =
    let parts = same_parts name other_name (record { properties = own; payload = OfImage (option_map digest_of_payload p) })
    (record { properties = other_own; payload = OfImage (option_map digest_of_payload q) }) (with_each plain_node children)
    (with_each plain_node other_children) (described_images later payloads) (described_images other_later others) same in
    let rest = same_images later other_later payloads others apart.1 also.1 parts.rest in
    let first : option_map digest_of_payload p ≡ option_map digest_of_payload q =
    same_payload (option_map digest_of_payload p) (option_map digest_of_payload q)
    (ap (λ (described : DescribedNode). described.payload) parts.owns) in (
      parts_same parts.names (ap (λ (described : DescribedNode). described.properties) parts.owns)
          (same_plain children other_children parts.below) rest.0,
      ap₂ (λ digest later. digest ∷ later) first rest.1,
    )

-- Nodes none of which is the parent of the image nodes have no payloads.
described_plain : (nodes : Nodes PropertyMap) (payloads : List (Option (List ℕ))) →
    AllByRecursion (λ name. name ≢ images_name) (names nodes) → described_nodes nodes payloads ≡ with_each plain_node nodes
described_plain none payloads others = refl
described_plain (node name own children later) payloads others =
    parts_same refl refl (plain_children (bytes_eq name images_name) refl) (described_plain later payloads others.1)
  where
    plain_children : (b : Bool) → bytes_eq name images_name ≡ b → described_children name children payloads ≡ with_each plain_node children
    plain_children true is = absurd (others.0 (same_bytes name images_name is))
    plain_children false is = cond-false (bytes_eq name images_name) (described_images children payloads) (with_each plain_node children) is

-- The children of a root that has image nodes with these payloads.
pub record HasImages (IsOwn : PropertyMap → Type 0) (nodes : Nodes PropertyMap) (payloads : List (Option (List ℕ))) : Type 0 where
  pub are_nodes : AreNodes IsOwn nodes
  pub images : Nodes PropertyMap
  pub has_images : children_of images_name nodes ≡ Some images
  pub apart : AllZip IsApart (each_own images) payloads

-- The first of them has the image nodes as its children, or the image nodes are in the later ones.
pub data ImagesIn (IsOwn : PropertyMap → Type 0) (name : List ℕ) (own : PropertyMap) (children later : Nodes PropertyMap)
    (payloads : List (Option (List ℕ))) : Type 0 where
  InFirst : bytes_eq name images_name ≡ true → AllZip IsApart (each_own children) payloads →
      AllByRecursion (λ name. name ≢ images_name) (names later) → ImagesIn IsOwn name own children later payloads
  InLater : bytes_eq name images_name ≡ false → HasImages IsOwn later payloads → ImagesIn IsOwn name own children later payloads

-- They are in one of the two.
pub images_among : (IsOwn : PropertyMap → Type 0) (name : List ℕ) (own : PropertyMap) (children later : Nodes PropertyMap)
    (payloads : List (Option (List ℕ))) → HasImages IsOwn (node name own children later) payloads →
    ImagesIn IsOwn name own children later payloads
images_among IsOwn name own children later payloads has = where_first (bytes_eq name images_name) refl
  where
    where_first : (b : Bool) → bytes_eq name images_name ≡ b → ImagesIn IsOwn name own children later payloads
    where_first true is =
        let found : children ≡ has.images = same_in_some children has.images (rw is at has.has_images) in
        let name_is : name ≡ images_name = same_bytes name images_name is in
        InFirst is (subst (λ images. AllZip IsApart (each_own images) payloads) (sym found) has.apart)
        (subst (λ wanted. AllByRecursion (λ name. name ≢ wanted) (names later)) name_is has.are_nodes.0.is_new)
    where_first false is =
        InLater is (record { are_nodes = has.are_nodes.2; images = has.images; has_images = rw is at has.has_images; apart = has.apart })

-- Nodes and the digests of payloads are read back from the described nodes.
pub same_described : (IsOwn : PropertyMap → Type 0) (one other : Nodes PropertyMap) (payloads others : List (Option (List ℕ))) →
    HasImages IsOwn one payloads → HasImages IsOwn other others → described_nodes one payloads ≡ described_nodes other others →
    (one ≡ other) × (digests payloads ≡ digests others)
same_described IsOwn none other payloads others has have same = let nothing : None ≡ Some has.images = has.has_images in absurd cc
same_described IsOwn (node name own children later) none payloads others has have same =
    let nothing : None ≡ Some have.images = have.has_images in absurd cc
same_described IsOwn (node name own children later) (node other_name other_own other_children other_later) payloads others has have same =
    where_images (images_among IsOwn name own children later payloads has)
    (images_among IsOwn other_name other_own other_children other_later others have)
    (λ first second. same_described IsOwn later other_later payloads others first second parts.rest)
  where
    parts : SameParts name other_name (plain_node own) (plain_node other_own) (described_children name children payloads)
        (described_children other_name other_children others) (described_nodes later payloads) (described_nodes other_later others)
    parts = same_parts name other_name (plain_node own) (plain_node other_own) (described_children name children payloads)
        (described_children other_name other_children others) (described_nodes later payloads) (described_nodes other_later others) same

    same_owns : own ≡ other_own
    same_owns = ap (λ (described : DescribedNode). described.properties) parts.owns

    both_or_none : (b : Bool) → bytes_eq name images_name ≡ b → bytes_eq other_name images_name ≡ b
    both_or_none b is = ap (λ n. bytes_eq n images_name) (sym parts.names) ∙ is

    where_images : ImagesIn IsOwn name own children later payloads → ImagesIn IsOwn other_name other_own other_children other_later others →
        (HasImages IsOwn later payloads → HasImages IsOwn other_later others →
        (later ≡ other_later) × (digests payloads ≡ digests others)) →
        (node name own children later ≡ node other_name other_own other_children other_later) × (digests payloads ≡ digests others)
    where_images (InFirst is apart no_more) (InFirst also apart_also none_either) rest_agrees =
        let images = same_images children other_children payloads others apart apart_also
        (sym (cond-true (bytes_eq name images_name) (described_images children payloads) (with_each plain_node children) is) ∙ parts.below
        ∙ cond-true (bytes_eq other_name images_name) (described_images other_children others)
        (with_each plain_node other_children) also) in
        let rest = same_plain later other_later
        (sym (described_plain later payloads no_more) ∙ parts.rest ∙ described_plain other_later others none_either) in
        (parts_same parts.names same_owns images.0 rest, images.1)
    where_images (InFirst is apart no_more) (InLater also have) rest_agrees = absurd (true≢false (sym (both_or_none true is) ∙ also))
    where_images (InLater is has) (InFirst also apart none_either) rest_agrees = absurd (true≢false (sym also ∙ both_or_none false is))
    where_images (InLater is has) (InLater also have) rest_agrees =
        let below = same_plain children other_children
        (sym (cond-false (bytes_eq name images_name) (described_images children payloads) (with_each plain_node children) is) ∙ parts.below
        ∙ cond-false (bytes_eq other_name images_name) (described_images other_children others)
        (with_each plain_node other_children) also) in
        let rest = rest_agrees has have in
        (parts_same parts.names same_owns below rest.0, rest.1)
