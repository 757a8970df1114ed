use Rattle.std.proofs.Common.{◌≡◌, ℕ, List, map, Some, sym, ap, subst, ◌∙◌, rules}
use Rattle.bi_blob.specs.Tree.{FileNode, EachOwn}
use Rattle.bi_blob.specs.Lookups.{Sibling, root_node}
use Rattle.bi_blob.specs.Events.{Event, events, events_of}
use Rattle.bi_blob.specs.Stages.{AfterRoot}
use Rattle.bi_blob.specs.Following.{stage_of_events}
use Rattle.bi_fdt.specs.Content.{Blob, root_of}
use Rattle.bi_lay.specs.Contents.{Doc, empty_with_names, HaveSameContent}
use Rattle.bi_fit.specs.declared.changes.Changes.{Changes}
use Rattle.bi_fit.specs.declared.form.Form.{Form}
use Rattle.bi_fit.specs.declared.image.Image.{Image}
use Rattle.bi_fit.specs.Text.{normal_tree}
use Rattle.bi_fit.specs.Content.{FitModel, image_model, tree_of, IsHeld, IsImagesPosition}
use Rattle.bi_fit.specs.TextNodes.{HaveImagesAfter}
use Rattle.bi_fit.specs.Updating.{with_changes}
use Rattle.bi_fit.specs.NewDigests.{new_digests}
use Rattle.bi_fit.specs.Documents.{document_of}
use Rattle.bi_fit.specs.NormalNodes.{MayAdd, with_events, with_reservations, HasDistinctNames, HaveImageNodes, AreImageNodes, alone}
use Rattle.bi_fit.specs.NormalNodes.{payloads_of, sorted_root}
use Rattle.bi_fit.proofs.ImagesPositions.{position_there}
use Rattle.bi_fit.proofs.NormalTrees.{held_distinct, held_images, held_events, held_closed}

-- The nodes of a blob may be added to a document, and the document is then that of the normal text.

module _ (content : FitModel) (held : IsHeld content) (changes : Changes) (form : Form)
    (digests : List ℕ) (is_digests : digests ≡ new_digests changes (tree_of content))
    (blob : Blob) (is_blob : blob ≡ content.blob)
    (images : List Image) (is_images : map image_model images ≡ content.images)
    (root : Sibling FileNode) (is_root : root ≡ root_node (root_of blob)) where
  same_root : root ≡ root_node (root_of content.blob)
  same_root = is_root ∙ ap (λ blob. root_node (root_of blob)) is_blob

  -- The image nodes are those of the images, and the bytes hold their digests.
  pub images_there : HaveImageNodes (AreImageNodes changes.hashes images digests) root.children
  images_there = search (rules, same_root, held_images)

  -- One child of the root, and no other, has the name `images`.
  pub images_position_there : (position : ℕ) → IsImagesPosition content.blob position → HaveImagesAfter (Some position) root.children
  images_position_there position at =
      subst (λ root. HaveImagesAfter (Some position) root.children) (sym same_root) (position_there content held position at)

  -- The names of each node's properties are distinct.
  pub names_distinct : EachOwn HasDistinctNames (alone root)
  names_distinct = subst (λ root. EachOwn HasDistinctNames (alone root)) (sym same_root) (held_distinct content held)

  -- The events of the tree.
  abbrev pub tree_events : List Event
  tree_events = events (sorted_root changes form (payloads_of images) digests root)

  same_events : tree_events ≡ events_of (normal_tree form (with_changes changes (tree_of content)))
  same_events = search (rules, same_root, held_events)

  module _ (cpu : ℕ) (is_cpu : cpu ≡ blob.cpu) (names : List (List ℕ))
      (started reserved : Doc) (is_started : started ≡ empty_with_names cpu names)
      (is_reserved : reserved ≡ with_reservations started blob.reservations) where
    same_reserved : reserved ≡ with_reservations (empty_with_names cpu names) blob.reservations
    same_reserved = is_reserved ∙ ap (λ document. with_reservations document blob.reservations) is_started

    -- The tree may be added.
    pub may_add_tree : MayAdd reserved tree_events
    may_add_tree =
        subst (MayAdd reserved) (sym same_events)
        (subst (λ document. MayAdd document (events_of (normal_tree form (with_changes changes (tree_of content))))) (sym same_reserved)
        (held_closed content held changes digests is_digests form).follow)

    -- Then the document is the one of the normal text.
    pub is_document_of : (filled : Doc) → filled ≡ with_events reserved tree_events →
        HaveSameContent filled (document_of form (with_changes changes (tree_of content)))
    is_document_of filled is_filled = search (rules, same_reserved, same_events)

-- The root of the document has ended.
pub document_closed : (content : FitModel) → IsHeld content → (changes : Changes) (form : Form) (digests : List ℕ) →
    digests ≡ new_digests changes (tree_of content) →
    (filled : Doc) → HaveSameContent filled (document_of form (with_changes changes (tree_of content))) →
    stage_of_events filled.events ≡ AfterRoot
document_closed content held changes form digests is_digests filled is =
    subst (λ events. stage_of_events events ≡ AfterRoot) (sym is.2) (held_closed content held changes digests is_digests form).closed
