use Rattle.std.proofs.Common.{◌≡◌, ℕ, ◌-◌, List, [], ◌∷◌, ◌++◌, Option, None, Some, take, length, map, refl, sym, ap, ap₂, ◌∙◌, arith}
use Rattle.std.proofs.Common.{append_assoc}
use Rattle.std.proofs.Common.{append-nil, length-append}
use Rattle.std.specs.FinMap.{entries}
use Rattle.std.proofs.lemmas.Grind.{flat_map-append}
use Rattle.std.proofs.lemmas.List.{take-append-le}
use Rattle.std.proofs.Math.Seq.{take-length}
use Rattle.bi_blob.specs.Blob.{Reservation}
use Rattle.bi_blob.specs.Tree.{Nodes, none, node, Property, Root}
use Rattle.bi_fdt.specs.Content.{Blob}
use Rattle.bi_fit.specs.ImageTree.{ImageTree}
use Rattle.bi_common.specs.CommonLines.{reservation_line}
use Rattle.bi_common.specs.LineTokens.{LineToken, line_tokens, tokens_of_lines}
use Rattle.bi_common.specs.Lines.{Line}
use Rattle.bi_describe.specs.ReadDescription.{read_lines, root_lines}
use Rattle.bi_describe.specs.ComparedNodes.{ComparedNode, ComparedPayload, NoImage, ImageWith, nodes_to_compare, described_node}
use Rattle.bi_describe.specs.ComparedNodes.{described_payload}
use Rattle.bi_describe.specs.Descriptions.{DescribedNode, head_lines, described_nodes, node_line}
use Rattle.bi_describe.specs.Descriptions.{node_lines, own_lines, plain_node}
use Rattle.bi_describe.specs.KeptEntries.{root_entries}
use Rattle.bi_describe.specs.ReducedMeanings.{ReducedTree, compared_root, reduced_root_lines, reduced_tree_lines}
use Rattle.bi_describe.specs.Descriptions.{payload_lines, property_line, tree_lines}
use Rattle.bi_describe.specs.TreeEntries.{EntryModel, NodeEnds, PropertyEntry, ChildrenBegin, entry_lines, node_entries, own_entries}
use Rattle.bi_describe.specs.TreeEntries.{payload_entries, property_entries, tree_entries}
use Rattle.bi_describe.proofs.ComparedTrees.{as_described, nodes_described}

-- The lines of a flattened image tree are those of its entries.

-- The lines of properties and of the entries after them.
properties_before : (names : List (List ℕ)) (properties : List Property) (later : List EntryModel)
    → entry_lines names ((map PropertyEntry properties ++ ChildrenBegin ∷ []) ++ later)
    ≡ map (property_line names) properties ++ entry_lines names later
properties_before names [] later = refl
properties_before names (property ∷ properties) later =
    ap (λ (lines : List Line). property_line names property ∷ lines) (properties_before names properties later)

-- The lines of what a node has itself, and of the entries after it.
own_before : (names : List (List ℕ)) (own : ComparedNode) (later : List EntryModel)
    → entry_lines names (own_entries own ++ later)
    ≡ (payload_lines names (described_payload own.payload) ++ map (property_line names) (entries own.properties)) ++ entry_lines names later
own_before names own later = by own.payload
  where
    by : (payload : ComparedPayload) → entry_lines names ((payload_entries payload ++ property_entries own.properties) ++ later)
        ≡ (payload_lines names (described_payload payload) ++ map (property_line names) (entries own.properties)) ++ entry_lines names later
    by NoImage = properties_before names (entries own.properties) later
    by (ImageWith payload) =
        ap (λ (lines : List Line). payload_lines names (described_payload (ImageWith payload)) ++ lines)
        (properties_before names (entries own.properties) later)

-- After the end of a node, the nodes above it are open.
pub names_above : (above : List (List ℕ)) (name : List ℕ) → take (length (above ++ name ∷ []) - 1) (above ++ name ∷ []) ≡ above
names_above above name =
    let counted : length (above ++ name ∷ []) - 1 ≡ length above = omega (arith, length-append above (name ∷ [])) in
    ap (λ n. take n (above ++ name ∷ [])) counted
    ∙ take-append-le (length above) above (name ∷ []) (omega arith)
    ∙ take-length above

-- The lines of nodes and of the entries after them.
lines_of_nodes : (above : List (List ℕ)) (nodes : Nodes ComparedNode) (rest : List EntryModel)
    → entry_lines above (node_entries nodes ++ rest) ≡ node_lines above (as_described nodes) ++ entry_lines above rest
lines_of_nodes above none rest = refl
lines_of_nodes above (node name own children later) rest =
    let inner : List (List ℕ) = above ++ name ∷ [] in
    let own_ones : List Line = payload_lines inner (described_payload own.payload) ++ map (property_line inner) (entries own.properties) in
    let below : List Line = node_lines inner (as_described children) in
    let after : List Line = node_lines above (as_described later) in
    let left : List Line = entry_lines above rest in
    let after_end : List EntryModel = NodeEnds ∷ (node_entries later ++ rest) in
    ap (λ (lines : List Line). node_line inner ∷ lines)
    (ap (entry_lines inner) (append_assoc (own_entries own) (node_entries children ++ (NodeEnds ∷ node_entries later)) rest
    ∙ ap (λ others. own_entries own ++ others) (append_assoc (node_entries children) (NodeEnds ∷ node_entries later) rest))
    ∙ own_before inner own (node_entries children ++ after_end)
    ∙ ap (λ (lines : List Line). own_ones ++ lines)
    (lines_of_nodes inner children after_end
    ∙ ap (λ (lines : List Line). below ++ lines) (ap (λ names. entry_lines names (node_entries later ++ rest)) (names_above above name)
    ∙ lines_of_nodes above later rest))
    ∙ sym (append_assoc own_ones (below ++ after) left ∙ ap (λ (lines : List Line). own_ones ++ lines) (append_assoc below after left)))

-- The lines of a root are those of its entries.
pub lines_of_root : (root : Root ComparedNode) →
    root_lines (own_entries root.own ++ node_entries root.children)
    ≡ own_lines [] (described_node root.own) ++ node_lines [] (as_described root.children)
lines_of_root root =
    let nodes = root.children in
    let own : List Line = payload_lines [] (described_payload root.own.payload) ++ map (property_line []) (entries root.own.properties) in
    ap (λ (lines : List Line). node_line [] ∷ lines)
    (own_before [] root.own (node_entries nodes)
    ∙ ap (λ (lines : List Line). own ++ lines) (ap (entry_lines []) (sym (append-nil (node_entries nodes))) ∙ lines_of_nodes [] nodes []
    ∙ append-nil (node_lines [] (as_described nodes))))

-- The lines of a tree are those of its entries.
pub lines_of_tree : (tree : ImageTree) → root_lines (tree_entries tree) ≡ tree_lines tree
lines_of_tree tree =
    lines_of_root (compared_root tree.root tree.payloads)
    ∙ ap (λ nodes. own_lines [] (plain_node tree.root.own) ++ node_lines [] nodes) (nodes_described tree.root.children tree.payloads)

-- The lines of a flattened image tree are put in three parts.
pub lines_in_parts : (blob : Blob) (entries : List EntryModel) → tokens_of_lines (read_lines blob entries)
    ≡ tokens_of_lines (head_lines blob.cpu)
    ++ (tokens_of_lines (map reservation_line blob.reservations) ++ tokens_of_lines (root_lines entries))
lines_in_parts blob entries =
    let reservations : List Line = map reservation_line blob.reservations in
    flat_map-append line_tokens (head_lines blob.cpu) (reservations ++ root_lines entries)
    ∙ ap (λ (tokens : List LineToken). tokens_of_lines (head_lines blob.cpu) ++ tokens)
    (flat_map-append line_tokens reservations (root_lines entries))

-- What stays of a tree has the lines of what reading would return.
pub reduced_lines_are : (tree : ReducedTree) (blob : Blob) (entries : List EntryModel) → blob.cpu ≡ tree.cpu →
    blob.reservations ≡ tree.reservations → Some entries ≡ root_entries tree.root → read_lines blob entries ≡ reduced_tree_lines tree
reduced_lines_are tree blob entries cpu reservations is =
    ap₂ (λ (cpu : ℕ) (reservations : List Reservation). head_lines cpu ++ (map reservation_line reservations ++ root_lines entries))
    cpu reservations
    ∙ ap (λ (lines : List Line). head_lines tree.cpu ++ (map reservation_line tree.reservations ++ lines)) (by tree.root is)
  where
    by : (root : Option (Root ComparedNode)) → Some entries ≡ root_entries root → root_lines entries ≡ reduced_root_lines root
    by None same = absurd cc
    by (Some root) same =
        let entries_are : entries ≡ own_entries root.own ++ node_entries root.children = cc in
        ap root_lines entries_are ∙ lines_of_root root
