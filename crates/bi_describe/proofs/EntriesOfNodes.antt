use Rattle.std.proofs.Common.{◌≡◌, ℕ, true, false, List, [], ◌∷◌, ◌++◌, Option, map, bytes_eq, refl, sym, ap, ◌∙◌, rules}
use Rattle.std.proofs.Common.{append_assoc}
use Rattle.std.proofs.Common.{subst}
use Rattle.std.specs.FinMap.{from_entries}
use Rattle.std.proofs.lemmas.List.{map-append}
use Rattle.std.proofs.lemmas.Slice.Eq.{bytes_eq-Decides}
use Rattle.bi_blob.specs.Tree.{Nodes, none, node, PropertyMap, FileNode, with_each, properties_of, names, IsNew}
use Rattle.bi_blob.specs.Lookups.{Sibling}
use Rattle.bi_blob.proofs.Blobs.Lookups.{names-with_each}
use Rattle.bi_fit.specs.ImageTree.{with_children_of, without_payloads}
use Rattle.bi_fit.specs.NormalNodes.{alone, nodes_by_name, properties_by_name}
use Rattle.bi_fit.specs.Names.{images_name}
use Rattle.bi_describe.specs.declared.describe.entries.Entry.{Entry}
use Rattle.bi_describe.specs.declared.describe.entries.Entry.TheVariants as made
use Rattle.bi_describe.specs.ComparedNodes.{ComparedNode, plain_compared, compared_children, compared_images}
use Rattle.bi_describe.specs.ComparedNodes.{nodes_to_compare}
use Rattle.bi_describe.specs.TreeEntries.{EntryModel, NodeEnds, as_entry, node_entries}
use Rattle.bi_describe.specs.MadeEntries.{plain_entries, begin_entries, image_entries}
use Rattle.bi_describe.specs.MadeEntries.{images_entries, root_children_entries}

-- The entries of nodes are those of the first node and then those of the nodes after it, and the entries of a node begin it, are those of
-- its children, and end it.

-- One more entry that the code made.
pub entries-push : (entries : List Entry) (entry : Entry) →
    map as_entry (entries ++ entry ∷ []) ≡ map as_entry entries ++ as_entry entry ∷ []
entries-push entries entry = map-append as_entry entries (entry ∷ [])

-- The entries of a node come before those of the nodes after it.
pub entries-first : (name : List ℕ) (own : ComparedNode) (children later : Nodes ComparedNode) →
    node_entries (node name own children later) ≡ node_entries (node name own children none) ++ node_entries later
entries-first name own children later = search (rules, append_assoc)

-- Entries are left to be appended, and with them there are all.
pub appended_first : (start first later target after : List EntryModel) → start ++ (first ++ later) ≡ target → after ≡ start ++ first →
    after ++ later ≡ target
appended_first start first later target after left is =
    ap (λ l. l ++ later) is ∙ append_assoc start first later ∙ left

-- The same for nodes that are not image nodes.
pub plain-first : (s : Sibling FileNode) →
    plain_entries (node s.name s.own s.children s.later) ≡ plain_entries (alone s) ++ plain_entries s.later
plain-first s = search (rules, entries-first)

-- A node is appended by some entries that begin it, those of its children, and its end.
pub node_appended : (start begin children begun : List EntryModel) (filled ended : List Entry) → begun ≡ start ++ begin →
    map as_entry filled ≡ begun ++ children → ended ≡ filled ++ made.End ∷ [] →
    map as_entry ended ≡ start ++ (begin ++ (children ++ NodeEnds ∷ []))
node_appended start begin children begun filled ended is_begun is_filled is_ended = search (rules, entries-push, append_assoc)

-- The same for image nodes with their payloads.
pub images-first : (s : Sibling FileNode) (payload : Option (List ℕ)) (payloads : List (Option (List ℕ))) →
    images_entries (node s.name s.own s.children s.later) (payload ∷ payloads) ≡ image_entries s payload ++ images_entries s.later payloads
images-first s payload payloads = search (rules, entries-first)

-- Where no payloads are left there are no entries,
compared-none : (nodes : Nodes PropertyMap) → compared_images nodes [] ≡ none
compared-none none = refl
compared-none (node name own children later) = refl

pub images-no_payloads : (nodes : Nodes FileNode) → images_entries nodes [] ≡ []
images-no_payloads nodes = ap node_entries (compared-none (without_payloads (nodes_by_name nodes)))

-- and where no nodes are left neither.
pub images-no_nodes : (payloads : List (Option (List ℕ))) → images_entries none payloads ≡ []
images-no_nodes payloads = refl

-- Where no node has a name, all nodes keep their children.
others_kept : (wanted : List ℕ) (change : Nodes PropertyMap → Nodes PropertyMap) (nodes : Nodes PropertyMap) → IsNew wanted (names nodes) →
    with_children_of wanted change nodes ≡ nodes
others_kept wanted change none new = refl
others_kept wanted change (node name own children later) new = search (rules, bytes_eq-Decides, others_kept wanted change later new.1)

-- The same for children of the root, of which no two have one name: one of the name `images`,
pub root-images : (s : Sibling FileNode) (payloads : List (Option (List ℕ))) → bytes_eq s.name images_name ≡ true →
    IsNew s.name (names s.later) →
    root_children_entries (node s.name s.own s.children s.later) payloads
    ≡ (begin_entries s.name (properties_by_name s.own) ++ (images_entries s.children payloads ++ NodeEnds ∷ []))
    ++ root_children_entries s.later payloads
root-images s payloads is new =
    let own : ComparedNode = plain_compared (properties_by_name s.own) in
    let images : Nodes PropertyMap = without_payloads (nodes_by_name s.children) in
    let nodes : Nodes PropertyMap = nodes_by_name s.later in
    let later : Nodes ComparedNode = nodes_to_compare nodes payloads in
    let here : List EntryModel = begin_entries s.name (properties_by_name s.own) ++ (images_entries s.children payloads ++ NodeEnds ∷ []) in
    let first = entries-first s.name own (compared_images images payloads) later in
    let named : node_entries (node s.name own (compared_children s.name images payloads) later) ≡ here ++ node_entries later =
    rw is first in
    let whole : root_children_entries (node s.name s.own s.children s.later) payloads ≡ here ++ node_entries later = rw is named in
    let same_names : names nodes ≡ names s.later =
    names-with_each from_entries (with_each properties_of s.later) ∙ names-with_each properties_of s.later in
    let is_images = (bytes_eq-Decides s.name images_name).0 is in
    let none_left : IsNew images_name (names nodes) =
    subst (IsNew images_name) (sym same_names) (subst (λ name. IsNew name (names s.later)) is_images new) in
    whole ∙ ap (λ nodes. here ++ node_entries (nodes_to_compare nodes payloads))
    (sym (others_kept images_name without_payloads nodes none_left))

-- any other,
pub root-other : (s : Sibling FileNode) (payloads : List (Option (List ℕ))) → bytes_eq s.name images_name ≡ false →
    root_children_entries (node s.name s.own s.children s.later) payloads
    ≡ plain_entries (alone s) ++ root_children_entries s.later payloads
root-other s payloads is =
    let own : ComparedNode = plain_compared (properties_by_name s.own) in
    let children : Nodes PropertyMap = nodes_by_name s.children in
    let nodes : Nodes PropertyMap = with_children_of images_name without_payloads (nodes_by_name s.later) in
    let later : Nodes ComparedNode = nodes_to_compare nodes payloads in
    let first = entries-first s.name own (with_each plain_compared children) later in
    let named : node_entries (node s.name own (compared_children s.name children payloads) later)
    ≡ plain_entries (alone s) ++ root_children_entries s.later payloads = rw is first in
    rw is named

-- and none.
pub root-none : (payloads : List (Option (List ℕ))) → root_children_entries none payloads ≡ []
root-none payloads = refl
