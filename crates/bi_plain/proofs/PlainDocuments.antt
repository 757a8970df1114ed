use Rattle.std.proofs.Common.{◌≡◌, ℕ, ◌≤◌, List, [], refl, sym, ap, ap₂, subst, ◌∙◌}
use Rattle.std.specs.FinMap.{entries}
use Rattle.bi_blob.specs.Tree.{Nodes, none, node, Root, PropertyMap, as_nodes, with_each}
use Rattle.bi_blob.specs.Blob.{Reservation}
use Rattle.bi_blob.specs.Events.{events, events_of}
use Rattle.bi_blob.specs.Following.{AreClosedEvents, MayFollowInText, most_open_nodes, stage_of_events}
use Rattle.bi_blob.specs.Layout.{in_byte_order}
use Rattle.bi_blob.specs.Stages.{AfterRoot}
use Rattle.bi_blob.proofs.Blobs.BlockEnds.{depth-with_each}
use Rattle.bi_blob.proofs.Blobs.EventTrees.{same_events}
use Rattle.bi_blob.proofs.Texts.NormalEvents.{normal_events_have_one_tree}
use Rattle.bi_blob.proofs.Texts.NormalOrder.{has_one_order}
use Rattle.bi_lay.specs.Contents.{Doc, empty_with_names}
use Rattle.bi_fit.specs.NormalNodes.{MayAdd, with_events, with_reservations}
use Rattle.bi_tree.specs.Properties.{TreePropertyModel}
use Rattle.bi_tree.specs.Trees.{by_name, tree_by_name}
use Rattle.bi_plain.specs.PlainText.{HasPlainText, IsPlainDoc}
use Rattle.bi_plain.specs.Ranked.{alone_named, sorted_models, sorted_own}

-- The document of a tree.

-- A tree that can be laid out has events that may follow one another.
pub plain_events_close : (cpu : ℕ) (reservations : List Reservation) (root : Root PropertyMap) → HasPlainText cpu reservations root →
    AreClosedEvents MayFollowInText (events_of (in_byte_order root))
plain_events_close cpu reservations root has = (normal_events_have_one_tree (events_of (in_byte_order root))).1 (record {
  tree = record {
    root = in_byte_order root;
    same = refl;
    only = λ other also. same_events other (in_byte_order root) also;
    is_tree = has.is_content.is_tree;
    shallow = subst (λ n. n ≤ most_open_nodes) (depth-with_each entries (as_nodes root)) has.shallow;
  };
  is_normal = (has_one_order root).is_normal;
})

-- The nodes that the code has are those of the tree.
twice : (nodes : Nodes (List TreePropertyModel)) → with_each entries (with_each by_name nodes) ≡ sorted_models nodes
twice none = refl
twice (node name own children later) = ap₂ (node name (sorted_own own)) (twice children) (twice later)

pub same_tree_events : (root : Root (List TreePropertyModel)) →
    events_of (in_byte_order (tree_by_name root)) ≡ events (sorted_models (alone_named [] root))
same_tree_events root = ap (λ children. events (node [] (sorted_own root.own) children none)) (twice root.children)

module _ (boot_cpu : ℕ) (reserved : List Reservation) (root : Root PropertyMap) (has : HasPlainText boot_cpu reserved root)
    (inside : Root (List TreePropertyModel)) (is : tree_by_name inside ≡ root) (names : List (List ℕ))
    (started begun : Doc) (is_started : started ≡ empty_with_names boot_cpu names)
    (is_begun : begun ≡ with_reservations started reserved) where
  whole_is : begun ≡ with_reservations (empty_with_names boot_cpu names) reserved
  whole_is = is_begun ∙ ap (λ document. with_reservations document reserved) is_started

  same_all : events (sorted_models (alone_named [] inside)) ≡ events_of (in_byte_order root)
  same_all = sym (same_tree_events inside) ∙ ap (λ root. events_of (in_byte_order root)) is

  pub may_add_plain : MayAdd begun (events (sorted_models (alone_named [] inside)))
  may_add_plain =
      subst (MayAdd begun) (sym same_all)
      (subst (λ document. MayAdd document (events_of (in_byte_order root))) (sym whole_is)
      (plain_events_close boot_cpu reserved root has).follow)

  pub is_plain_doc : (filled : Doc) → filled ≡ with_events begun (events (sorted_models (alone_named [] inside))) →
      IsPlainDoc boot_cpu reserved root filled
  is_plain_doc filled is_filled =
      let all : filled ≡ with_events (with_reservations (empty_with_names boot_cpu names) reserved) (events_of (in_byte_order root)) =
      is_filled ∙ ap₂ with_events whole_is same_all in
      record {
        cpu = ap (λ document. document.boot_cpu) all;
        reservations = ap (λ document. document.reservations) all;
        events = ap (λ document. document.events) all;
        closed = subst (λ events. stage_of_events events ≡ AfterRoot) (sym (ap (λ document. document.events) all))
            (plain_events_close boot_cpu reserved root has).closed;
      }
