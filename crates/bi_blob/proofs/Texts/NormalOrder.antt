use Rattle.std.proofs.Common.{◌≡◌, ◌≤◌, T, List, length, refl, sym, ap, subst, ◌∙◌, nat_cmp, rules}
use Rattle.std.specs.Cmp.Lexicographic.{slice_cmp}
use Rattle.std.specs.FinMap.{entries, from_entries, is_sorted, entries_sorted, get-entries, get-from_entries, same_map}
use Rattle.std.specs.FinMap.Entries.{same_entries}
use Rattle.std.proofs.lemmas.Cmp.{nat_list_cmp_total}
use Rattle.bi_base.proofs.AlignmentLaws.{IsAlignment-four}
use Rattle.bi_blob.specs.Tree.{Nodes, none, node, Root, Property, PropertyMap, with_each, tree_without_order, EachOwn, IsNormal}
use Rattle.bi_blob.specs.Layout.{in_byte_order, text_of_tree, longest_text}
use Rattle.bi_blob.specs.TextLaws.{EachTreeHasOneOrder, NormalTextTellsContent}
use Rattle.bi_blob.proofs.Texts.PropertyOrder.{order_tells}
use Rattle.bi_blob.proofs.Texts.TextContent.{text_has_one_content}

-- A tree has one normal order, and normal texts are the same if and only if their contents are.

-- Properties by name, put in order and taken by name again, are the same.
pub made_again : (properties : PropertyMap) → from_entries (entries properties) ≡ properties
made_again properties =
    same_map nat_list_cmp_total order_tells (from_entries (entries properties)) properties
    (λ name. get-from_entries nat_list_cmp_total (entries properties) name ∙ sym (get-entries properties name))

-- Properties that are in order, taken by name and put in order again, are the same.
pub ordered_again : (properties : List Property) → T (is_sorted (slice_cmp nat_cmp) properties) →
    entries (from_entries {R = slice_cmp nat_cmp} properties) ≡ properties
ordered_again properties sorted =
    same_entries (slice_cmp nat_cmp) nat_list_cmp_total order_tells (entries (from_entries {R = slice_cmp nat_cmp} properties)) properties
    (entries_sorted (from_entries {R = slice_cmp nat_cmp} properties)) sorted
    (λ name. sym (get-entries (from_entries {R = slice_cmp nat_cmp} properties) name) ∙ get-from_entries nat_list_cmp_total properties name)

-- Nodes whose properties are put in order are normal.
pub normal-nodes : (nodes : Nodes PropertyMap) →
    EachOwn (λ properties. T (is_sorted (slice_cmp nat_cmp) properties)) (with_each entries nodes)
normal-nodes none = tt
normal-nodes (node name properties children later) = (entries_sorted properties, normal-nodes children, normal-nodes later)

-- They have the same properties.
pub same-nodes : (nodes : Nodes PropertyMap) → with_each (from_entries {R = slice_cmp nat_cmp}) (with_each entries nodes) ≡ nodes
same-nodes none = refl
same-nodes (node name properties children later) = search (rules, made_again, same-nodes children, same-nodes later)

-- Nodes that are normal are in the order of their names.
pub ordered-nodes : (nodes : Nodes (List Property)) → EachOwn (λ properties. T (is_sorted (slice_cmp nat_cmp) properties)) nodes →
    with_each entries (with_each (from_entries {R = slice_cmp nat_cmp}) nodes) ≡ nodes
ordered-nodes none normal = refl
ordered-nodes (node name properties children later) normal =
    search (rules, ordered_again, ordered-nodes children normal.1, ordered-nodes later normal.2)

-- A normal tree is the one in byte order of its properties by name.
pub ordered-tree : (root : Root (List Property)) → IsNormal root → in_byte_order (tree_without_order root) ≡ root
ordered-tree root normal = search (rules, ordered_again, ordered-nodes)

-- A tree has one normal order.
pub has_one_order : EachTreeHasOneOrder
has_one_order root = record {
  is_normal = (entries_sorted root.own, normal-nodes root.children, tt);
  is_same = search (rules, made_again, same-nodes);
  only = λ other normal same. sym (ordered-tree other normal) ∙ ap in_byte_order same;
}

-- Normal texts are the same if and only if their contents are.
pub normal_text_tells_content : NormalTextTellsContent
normal_text_tells_content cpu other_cpu reservations other_reservations root other_root text other_text is
    other_is normal other_normal short = (
      (λ same.
          let one = text_has_one_content 4 cpu other_cpu reservations other_reservations root other_root IsAlignment-four is other_is
          (subst (λ text. length text ≤ longest_text) normal.is_text short)
          (sym normal.is_text ∙ same ∙ other_normal.is_text) in
          search rules),
      (λ same.
          normal.is_text
          ∙ ap (λ cpu. text_of_tree 4 cpu reservations root) same.same_cpu
          ∙ ap (λ reservations. text_of_tree 4 other_cpu reservations root) same.same_reservations
          ∙ ap (λ root. text_of_tree 4 other_cpu other_reservations root)
          (sym (ordered-tree root normal.is_normal) ∙ ap in_byte_order same.same_root ∙ ordered-tree other_root other_normal.is_normal)
          ∙ sym other_normal.is_text),
    )
