use Rattle.std.proofs.Common.{◌≡◌, ℕ, ◌+◌, ◌≤◌, Bool, true, false, List, [], map, length, bytes_eq, Option, Some, None, refl, sym, ap, ap₂}
use Rattle.std.proofs.Common.{subst, ◌∙◌, true≢false, arith, length-append, rules}
use Rattle.std.proofs.lemmas.List.{length-map}
use Rattle.std.specs.Prelude.{IsSome}
use Rattle.std.specs.FinMap.{entries}
use Rattle.std.proofs.lemmas.Slice.Eq.{bytes_eq-Decides}
use Rattle.std.proofs.lemmas.Slice.Zip.{AllZip-long}
use Rattle.bi_blob.specs.Tree.{Nodes, none, node, Property, PropertyMap, FileNode, names, with_each, properties_of, IsNew, AreProperties}
use Rattle.bi_blob.specs.Tree.{AreNodes, EachOwn}
use Rattle.bi_blob.specs.Lookups.{siblings, root_node}
use Rattle.bi_blob.specs.Events.{events, events_of}
use Rattle.bi_blob.specs.Following.{most_open_nodes, AreClosedEvents, MayFollowInText}
use Rattle.bi_blob.proofs.Texts.TextContent.{blob_has_content}
use Rattle.bi_blob.proofs.Blobs.EventTrees.{same_events}
use Rattle.bi_blob.proofs.Texts.NormalEvents.{normal_events_have_one_tree}
use Rattle.bi_blob.proofs.Texts.NormalOrder.{has_one_order}
use Rattle.bi_fdt.specs.Content.{root_of}
use Rattle.bi_fit.specs.declared.changes.Changes.{Changes}
use Rattle.bi_fit.specs.declared.form.Form.{Form}
use Rattle.bi_fit.specs.declared.form.Form.TheVariants.{Embedded}
use Rattle.bi_fit.specs.declared.image.Image.{Image}
use Rattle.bi_fit.specs.Names.{images_name}
use Rattle.bi_fit.specs.ImageTree.{ImageTree, children_of, image_nodes, nodes_or_none, with_children_of, with_image_nodes, without_payloads}
use Rattle.bi_fit.specs.File.{IsFitFile}
use Rattle.bi_fit.specs.Documents.{length_after_blob}
use Rattle.bi_fit.specs.Text.{alignment_of, blob_alignment, with_payloads, normal_tree, blob_of, after_blob, fit_text}
use Rattle.bi_fit.proofs.FormAlignments.{form-positive}
use Rattle.bi_fit.specs.Content.{FitModel, image_model, tree_of, IsReadImage, IsHeld}
use Rattle.bi_fit.specs.Updating.{with_new_digests, with_changes}
use Rattle.bi_fit.specs.NewDigests.{digests_if_changed, new_digests}
use Rattle.bi_fit.specs.TakenDigests.{HaveImageDigests, images_with_digests_from}
use Rattle.bi_fit.specs.HashNodes.{file_images}
use Rattle.bi_fit.specs.NormalNodes.{HasDistinctNames, HaveImageNodes, AreImageNodes, alone, properties_by_name, nodes_by_name}
use Rattle.bi_fit.specs.NormalNodes.{sorted_nodes, sorted_root_children, sorted_root}
use Rattle.bi_fit.proofs.Meanings.{same_in_some}
use Rattle.bi_fit.proofs.PayloadAreas.{length-payload_area}
use Rattle.bi_fit.proofs.FileTrees.{is_image_tree, depth-image_tree}
use Rattle.bi_fit.proofs.FileNodes.{image_nodes_named}
use Rattle.bi_fit.proofs.UpdatedTrees.{new_images, updated_is_image_tree, depth-updated}
use Rattle.bi_fit.proofs.TakenDigests.{are_taken, digests_bare}
use Rattle.bi_fit.proofs.TreeContents.{content-normal_tree}
use Rattle.bi_blob.proofs.Blobs.Lookups.{names-with_each}
use Rattle.bi_fit.proofs.Texts.{depth-normal_tree}
use Rattle.bi_fit.proofs.ReadBlobs.{read_payloads}

-- The events of a normal tree are those of the nodes of the file in their order, and they may follow one another and end the root.

-- A name that is not `images` fails the test.
pub other_name : (name : List ℕ) → (name ≡ images_name → ⊥) → bytes_eq name images_name ≡ false
other_name name differs = search (rules, bytes_eq-Decides)

-- Nodes, none of them with the name `images`.
others_sorted : (hashes : Bool) (form : Form) (payloads : List (Option (List ℕ))) (digests : List ℕ) (nodes : Nodes FileNode) →
    IsNew images_name (names nodes) → sorted_root_children hashes form payloads digests nodes ≡ sorted_nodes nodes
others_sorted hashes form payloads digests none new = refl
others_sorted hashes form payloads digests (node name own children later) new =
    rw (other_name name new.0) (ap (node name (entries (properties_by_name own)) (sorted_nodes children))
    (others_sorted hashes form payloads digests later new.1))

-- The image nodes of the tree.
abbrev bare_images : Nodes FileNode → Nodes PropertyMap
bare_images nodes = nodes_or_none (children_of images_name (with_children_of images_name without_payloads (nodes_by_name nodes)))

-- The children of the root of the normal tree. At most one has the name `images`.
module _ (hashes : Bool) (form : Form) (payloads : List (Option (List ℕ))) (digests : List ℕ) where
  changed : Nodes FileNode → Nodes (List Property)
  changed nodes =
      with_each entries
      (with_children_of images_name (with_payloads (alignment_of form) 0 payloads)
      (with_children_of images_name (new_images hashes payloads) (with_children_of images_name without_payloads (nodes_by_name nodes))))

  root_children : (IsOwn : FileNode → Type 0) (nodes : Nodes FileNode) → AreNodes IsOwn nodes →
      digests ≡ digests_if_changed hashes payloads (bare_images nodes) →
      changed nodes ≡ sorted_root_children hashes form payloads digests nodes
  unfolding changed
  root_children IsOwn none are is_digests = refl
  root_children IsOwn (node name own children later) are is_digests =
      where_first (bytes_eq name images_name) refl is_digests (root_children IsOwn later are.2)
    where
      where_first : (b : Bool) → bytes_eq name images_name ≡ b →
          digests ≡ digests_if_changed hashes payloads (bare_images (node name own children later)) →
          (digests ≡ digests_if_changed hashes payloads (bare_images later) →
          changed later ≡ sorted_root_children hashes form payloads digests later) →
          changed (node name own children later) ≡ sorted_root_children hashes form payloads digests (node name own children later)
      where_first true is is_digests rest =
          let new : IsNew images_name (names later) = subst (λ name. IsNew name (names later))
          ((bytes_eq-Decides name images_name).0 is) are.0.is_new in
          let here : digests ≡ digests_if_changed hashes payloads (without_payloads (nodes_by_name children)) = rw (is, is) at is_digests in
          let taken : images_with_digests_from hashes payloads digests (without_payloads (nodes_by_name children))
          ≡ new_images hashes payloads (without_payloads (nodes_by_name children)) =
          (are_taken hashes payloads (without_payloads (nodes_by_name children)) digests here).same in
          rw (is, is, is)
          (ap₂ (node name (entries (properties_by_name own)))
          (ap (λ images. with_each entries (with_payloads (alignment_of form) 0 payloads images)) (sym taken))
          (sym (others_sorted hashes form payloads digests later new)))
      where_first false is is_digests rest =
          rw (is, is, is) (ap (node name (entries (properties_by_name own)) (sorted_nodes children)) (rest (rw (is, is) at is_digests)))

-- Other children that are the same change nothing.
same_children : (nodes : Nodes PropertyMap) → with_children_of images_name (λ images. images) nodes ≡ nodes
same_children none = refl
same_children (node name own children later) = search (rules, same_children later)

-- New digests are new children of the node `images`.
with_new_images : (hashes : Bool) (payloads : List (Option (List ℕ))) (nodes : Nodes PropertyMap) →
    with_new_digests hashes payloads nodes ≡ with_children_of images_name (new_images hashes payloads) nodes
with_new_images false payloads nodes = sym (same_children nodes)
with_new_images true payloads nodes = refl

-- Nodes that a tree can have have what each of them has.
each_own_from : {Own : Type 0} (P Q : Own → Type 0) → ((own : Own) → P own → Q own) → (nodes : Nodes Own) → AreNodes P nodes →
    EachOwn Q nodes
each_own_from P Q follows none are = tt
each_own_from P Q follows (node name own children later) are =
    (follows own are.0.is_own, each_own_from P Q follows children are.1, each_own_from P Q follows later are.2)

-- What holds of nodes without the places holds of them with the places.
nodes_with_places : (P : List Property → Type 0) (nodes : Nodes FileNode) → AreNodes P (with_each properties_of nodes) →
    AreNodes (λ own. P (properties_of own)) nodes
nodes_with_places P none are = tt
nodes_with_places P (node name own children later) are = (
  record { is_name = are.0.is_name; is_own = are.0.is_own; is_new = subst (IsNew name) (names-with_each properties_of later) are.0.is_new },
  nodes_with_places P children are.1,
  nodes_with_places P later are.2,
)

-- None of these nodes has the name `images`.
no_images : (AreImages : Nodes FileNode → Type 0) (nodes : Nodes FileNode) → IsNew images_name (names nodes) →
    HaveImageNodes AreImages nodes
no_images AreImages none new = tt
no_images AreImages (node name own children later) new = ((λ is. absurd (new.0 is)), no_images AreImages later new.1)

-- The node of the name `images` has the image nodes as its children.
images_found : (AreImages : Nodes FileNode → Type 0) (IsOwn : FileNode → Type 0) (nodes inner : Nodes FileNode) →
    children_of images_name nodes ≡ Some inner → AreNodes IsOwn nodes → AreImages inner → HaveImageNodes AreImages nodes
images_found AreImages IsOwn none inner has are images = tt
images_found AreImages IsOwn (node name own children later) inner has are images =
    where_first (bytes_eq name images_name) refl has (λ has. images_found AreImages IsOwn later inner has are.2 images)
  where
    where_first : (b : Bool) → bytes_eq name images_name ≡ b → children_of images_name (node name own children later) ≡ Some inner →
        (children_of images_name later ≡ Some inner → HaveImageNodes AreImages later) →
        HaveImageNodes AreImages (node name own children later)
    where_first true is has rest =
        let found : children ≡ inner = same_in_some children inner (rw is at has) in
        let new : IsNew images_name (names later) = subst (λ name. IsNew name (names later))
        ((bytes_eq-Decides name images_name).0 is) are.0.is_new in
        ((λ same. subst AreImages (sym found) images), no_images AreImages later new)
    where_first false is has rest =
        ((λ same. absurd (true≢false (sym ((bytes_eq-Decides name images_name).1 same) ∙ is))), rest (rw is at has))

-- Nodes that are there.
pub some_nodes : (nodes : Option (Nodes FileNode)) → IsSome nodes → nodes ≡ Some (nodes_or_none nodes)
some_nodes None is = absurd cc
some_nodes (Some nodes) is = refl

module _ (content : FitModel) (held : IsHeld content) where
  -- Its file means its image tree.
  pub held_means : IsFitFile content.blob.file (tree_of content)
  held_means = record {
    root = root_of content.blob;
    blob = held.is_blob;
    images = nodes_or_none (image_nodes (root_of content.blob));
    has_images = some_nodes (image_nodes (root_of content.blob)) held.has_images;
    payloads = read_payloads content.blob.file (nodes_or_none (image_nodes (root_of content.blob))) content.images held.images;
    is_root = refl;
  }

  -- The nodes of its file are nodes that a tree can have.
  pub held_nodes : AreNodes (λ own. AreProperties (properties_of own)) (root_of content.blob).children
  held_nodes = nodes_with_places AreProperties (root_of content.blob).children
      (blob_has_content content.blob.file content.blob.cpu content.blob.reservations (root_of content.blob) held.is_blob).is_tree.children

  -- The names of each node's properties are distinct.
  pub held_distinct : EachOwn HasDistinctNames (alone (root_node (root_of content.blob)))
  held_distinct = search (rules, blob_has_content, each_own_from, held_nodes)

  module _ (changes : Changes) (digests : List ℕ) (is_digests : digests ≡ new_digests changes (tree_of content)) where
    -- The image nodes are those of the images, and the bytes hold their digests.
    pub held_images : (images : List Image) → map image_model images ≡ content.images →
        HaveImageNodes (AreImageNodes changes.hashes images digests) (root_of content.blob).children
    held_images images is_images =
        images_found (AreImageNodes changes.hashes images digests) (λ own. AreProperties (properties_of own))
        (root_of content.blob).children (file_images content.blob)
        (some_nodes (image_nodes (root_of content.blob)) held.has_images) held_nodes
        (record {
          same_count = sym (AllZip-long (IsReadImage content.blob.file) (siblings (file_images content.blob)) content.images held.images)
              ∙ ap length (sym is_images) ∙ length-map images image_model;
          has_digests = subst (λ payloads. HaveImageDigests changes.hashes payloads digests (nodes_by_name (file_images content.blob)))
              (ap (map (λ image. image.payload)) (sym is_images))
              (digests_bare changes.hashes (tree_of content).payloads digests (nodes_by_name (file_images content.blob))
              (are_taken changes.hashes (tree_of content).payloads (without_payloads (nodes_by_name (file_images content.blob))) digests
              (is_digests ∙ ap (digests_if_changed changes.hashes (tree_of content).payloads)
              (image_nodes_named (root_of content.blob).children))).there);
        })

    module _ (form : Form) where
      -- The events of the normal tree are those of the nodes in their order.
      pub held_events : events (sorted_root changes form (tree_of content).payloads digests (root_node (root_of content.blob))) ≡
          events_of (normal_tree form (with_changes changes (tree_of content)))
      unfolding changed
      held_events = search (rules, root_children, held_nodes, with_new_images)

      -- They may follow one another, and they end the root.
      pub held_closed : AreClosedEvents MayFollowInText (events_of (normal_tree form (with_changes changes (tree_of content))))
      unfolding held_means
      held_closed = (normal_events_have_one_tree (events_of (normal_tree form (with_changes changes (tree_of content))))).1 (record {
        tree = record {
          root = normal_tree form (with_changes changes (tree_of content));
          same = refl;
          only = λ other also. same_events other (normal_tree form (with_changes changes (tree_of content))) also;
          is_tree = (content-normal_tree form (with_changes changes (tree_of content))
              (updated_is_image_tree changes (tree_of content) (is_image_tree content.blob.file (tree_of content) held_means))).is_tree;
          shallow = subst (λ n. n ≤ most_open_nodes)
              (sym (depth-normal_tree form (with_changes changes (tree_of content)) ∙ depth-updated changes (tree_of content)
              ∙ depth-image_tree content.blob.file (tree_of content) held_means)) held.shallow;
        };
        is_normal = (has_one_order (with_image_nodes (with_payloads (alignment_of form) 0 (tree_of content).payloads)
            (with_changes changes (tree_of content)).root)).is_normal;
      })

-- The length of a normal text.
pub length-fit_text : (form : Form) (tree : ImageTree) →
    length (fit_text form tree) ≡ length (blob_of form tree) + length_after_blob form tree.payloads
length-fit_text Embedded tree = length-append (blob_of Embedded tree) []
length-fit_text form tree =
    omega (
      arith,
      length-append (blob_of form tree) (after_blob form tree),
      length-payload_area (blob_alignment (alignment_of form)) 0 tree.payloads (form-positive form),
    )
