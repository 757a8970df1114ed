use Rattle.std.proofs.Common.{◌≡◌, ℕ, Bool, true, false, List, [], ◌∷◌, Option, Some, None, bytes_eq, map, refl, sym, ap, ◌∙◌}
use Rattle.std.specs.FinMap.{get}
use Rattle.bi_blob.specs.Tree.{Nodes, none, node, Root, PropertyMap, with_each}
use Rattle.bi_fit.specs.ImageTree.{children_of, each_own, nodes_or_none, with_children_of}
use Rattle.bi_fit.specs.Names.{data_name, images_name}
use Rattle.bi_tree.specs.Changes.{child_named}
use Rattle.bi_tree.specs.Properties.{TreePropertyModel}
use Rattle.bi_tree.specs.Trees.{by_name, tree_by_name}
use Rattle.bi_plain.specs.Plain.{plain_payloads}
use Rattle.bi_edit.specs.declared.edit.Edit.{Edit}
use Rattle.bi_edit.specs.declared.edit.Edit.TheVariants.{RemoveNode, RemoveProperty, SetProperty}
use Rattle.bi_edit.specs.declared.edit.Edit.TheVariants.{SetField, SetPayload, SetTime, SetDigests}
use Rattle.bi_edit.specs.Edits.{AllFind, edits_of_turn, root_after, with_payload_digests}
use Rattle.bi_edit.proofs.KeptDigests.{own_with_payload_digests}

-- The payloads of a plain tree, and that digests change none.

-- The values of `data` of nodes.
abbrev pub data_values : Nodes PropertyMap → List (Option (List ℕ))
data_values nodes = map (λ own. get own data_name) (each_own nodes)

-- Those of the children of a node, if it is there.
abbrev pub values_below : Option (Root (List TreePropertyModel)) → List (Option (List ℕ))
values_below None = []
values_below (Some images) = data_values (with_each by_name images.children)

values_found : (nodes : Nodes (List TreePropertyModel)) →
    data_values (nodes_or_none (children_of images_name (with_each by_name nodes))) ≡ values_below (child_named nodes images_name)
values_found none = refl
values_found (node name own children later) = by (bytes_eq name images_name) refl (values_found later) where
  by : (b : Bool) → bytes_eq name images_name ≡ b →
      data_values (nodes_or_none (children_of images_name (with_each by_name later))) ≡ values_below (child_named later images_name) →
      data_values (nodes_or_none (children_of images_name (with_each by_name (node name own children later))))
      ≡ values_below (child_named (node name own children later) images_name)
  by true is rest = rw is refl
  by false is rest = rw is rest

-- The payloads of a plain tree are the values below its child `images`.
pub payloads_below : (root : Root (List TreePropertyModel)) (found : Option (Root (List TreePropertyModel))) →
    found ≡ child_named root.children images_name → plain_payloads (tree_by_name root) ≡ values_below found
payloads_below root found is = values_found root.children ∙ ap values_below (sym is)

-- ---- digests

same_values : (nodes : Nodes PropertyMap) →
    data_values (nodes_or_none (children_of images_name (with_children_of images_name with_payload_digests nodes)))
    ≡ data_values (nodes_or_none (children_of images_name nodes))
same_values none = refl
same_values (node name own children later) = by (bytes_eq name images_name) refl (same_values later) where
  by : (b : Bool) → bytes_eq name images_name ≡ b →
      data_values (nodes_or_none (children_of images_name (with_children_of images_name with_payload_digests later)))
      ≡ data_values (nodes_or_none (children_of images_name later)) →
      data_values (nodes_or_none (children_of images_name
      (with_children_of images_name with_payload_digests (node name own children later))))
      ≡ data_values (nodes_or_none (children_of images_name (node name own children later)))
  by true is rest = rw is (rw is (ap (map (λ own. get own data_name)) (own_with_payload_digests children)))
  by false is rest = rw is (rw is rest)

-- The edits that compute digests keep the payloads, and each is made.
pub digests_keep_payloads : (edits : List Edit) (root : Root PropertyMap) →
    plain_payloads (root_after root (edits_of_turn 4 edits)) ≡ plain_payloads root
digests_keep_payloads [] root = refl
digests_keep_payloads (RemoveNode path ∷ later) root = digests_keep_payloads later root
digests_keep_payloads (RemoveProperty place ∷ later) root = digests_keep_payloads later root
digests_keep_payloads (SetProperty place value ∷ later) root = digests_keep_payloads later root
digests_keep_payloads (SetField value ∷ later) root = digests_keep_payloads later root
digests_keep_payloads (SetPayload image payload ∷ later) root = digests_keep_payloads later root
digests_keep_payloads (SetTime time ∷ later) root = digests_keep_payloads later root
digests_keep_payloads (SetDigests ∷ later) root =
    digests_keep_payloads later (record {
      own = root.own;
      children = with_children_of images_name with_payload_digests root.children;
    })
    ∙ same_values root.children

pub digests_find : (edits : List Edit) (root : Root PropertyMap) → AllFind root (edits_of_turn 4 edits)
digests_find [] root = tt
digests_find (RemoveNode path ∷ later) root = digests_find later root
digests_find (RemoveProperty place ∷ later) root = digests_find later root
digests_find (SetProperty place value ∷ later) root = digests_find later root
digests_find (SetField value ∷ later) root = digests_find later root
digests_find (SetPayload image payload ∷ later) root = digests_find later root
digests_find (SetTime time ∷ later) root = digests_find later root
digests_find (SetDigests ∷ later) root = (
  (λ nothing. nothing),
  digests_find later (record {
    own = root.own;
    children = with_children_of images_name with_payload_digests root.children;
  }),
)
