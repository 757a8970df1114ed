use Rattle.std.proofs.Common.{◌≡◌, ℕ, List, [], ◌∷◌, ◌++◌, Option, None, Some, append-nil, append_assoc, codes, map, refl, ap, sym, ◌∙◌}
use Rattle.std.proofs.lemmas.Grind.{flat_map-append}
use Rattle.bi_blob.specs.Blob.{Reservation}
use Rattle.bi_blob.specs.Tree.{Root, with_each_node}
use Rattle.bi_fdt.specs.Content.{Blob}
use Rattle.bi_common.specs.JsonTokens.{BeginObject, EndObject, JsonToken, MemberName, member_tokens, one}
use Rattle.bi_common.specs.LineTokens.{line_tokens, tokens_of_lines}
use Rattle.bi_common.specs.Lines.{Line}
use Rattle.bi_describe.specs.ComparedNodes.{ComparedNode, plain_compared}
use Rattle.bi_describe.specs.DeepDescriptions.{inside_cpu_line, inside_lines, inside_reservation_line, line_inside}
use Rattle.bi_describe.specs.DeepJson.{inside_members}
use Rattle.bi_describe.specs.Devicetrees.{Devicetree}
use Rattle.bi_describe.specs.EntryTokens.{root_tokens}
use Rattle.bi_describe.specs.KeptEntries.{root_entries}
use Rattle.bi_describe.specs.ReadDescription.{blob_members, root_lines}
use Rattle.bi_describe.specs.ReducedMeanings.{ReducedTree, reduced_root_lines}
use Rattle.bi_describe.specs.TreeEntries.{EntryModel, node_entries, own_entries}
use Rattle.bi_describe.proofs.EntryTokens.{devicetree_tokens}
use Rattle.bi_describe.proofs.TreeLines.{lines_of_root}

-- The lines and the tokens of a devicetree inside a payload, in parts.

root_lines_are : (root : Option (Root ComparedNode)) (entries : List EntryModel) → Some entries ≡ root_entries root →
    root_lines entries ≡ reduced_root_lines root
root_lines_are None entries same = absurd cc
root_lines_are (Some root) entries same =
    let entries_are : entries ≡ own_entries root.own ++ node_entries root.children = cc in
    ap root_lines entries_are ∙ lines_of_root root

pub lines_with_nodes : (payload : List ℕ) (tree : ReducedTree) (cpu : ℕ) (reservations : List Reservation) (entries : List EntryModel) →
    cpu ≡ tree.cpu → reservations ≡ tree.reservations → Some entries ≡ root_entries tree.root →
    tokens_of_lines (inside_cpu_line payload cpu ∷ map (inside_reservation_line payload) reservations)
    ++ tokens_of_lines (map (line_inside payload) (root_lines entries))
    ≡ tokens_of_lines (inside_lines payload tree)
lines_with_nodes payload tree cpu reservations entries is also has =
    sym (flat_map-append line_tokens (inside_cpu_line payload cpu ∷ map (inside_reservation_line payload) reservations)
    (map (line_inside payload) (root_lines entries)))
    ∙ (λ i. tokens_of_lines ((inside_cpu_line payload (is i) ∷ map (inside_reservation_line payload) (also i))
    ++ map (line_inside payload) (root_lines_are tree.root entries has i)))

pub lines_without_nodes : (payload : List ℕ) (tree : ReducedTree) (cpu : ℕ) (reservations : List Reservation) →
    cpu ≡ tree.cpu → reservations ≡ tree.reservations → None ≡ root_entries tree.root →
    tokens_of_lines (inside_cpu_line payload cpu ∷ map (inside_reservation_line payload) reservations)
    ≡ tokens_of_lines (inside_lines payload tree)
lines_without_nodes payload tree cpu reservations is also none = by tree.root none
  where
    by : (root : Option (Root ComparedNode)) → None ≡ root_entries root →
        tokens_of_lines (inside_cpu_line payload cpu ∷ map (inside_reservation_line payload) reservations)
        ≡ tokens_of_lines (inside_cpu_line payload tree.cpu ∷ (map (inside_reservation_line payload) tree.reservations
        ++ map (line_inside payload) (reduced_root_lines root)))
    by None none =
        (λ i. tokens_of_lines (inside_cpu_line payload (is i) ∷ map (inside_reservation_line payload) (also i)))
        ∙ ap (λ (lines : List Line). tokens_of_lines (inside_cpu_line payload tree.cpu ∷ lines))
        (sym (append-nil (map (inside_reservation_line payload) tree.reservations)))
    by (Some root) none = absurd cc

-- ---- JSON

pub member_in_parts : (tree : Devicetree) (blob : Blob) (entries : List EntryModel) → blob.cpu ≡ tree.cpu →
    blob.reservations ≡ tree.reservations → Some entries ≡ root_entries (Some (with_each_node plain_compared tree.root)) →
    one (MemberName (codes "devicetree"))
    ++ (one BeginObject ++ (member_tokens (blob_members blob) ++ (root_tokens entries ++ one EndObject)))
    ≡ member_tokens (inside_members (Some tree))
member_in_parts tree blob entries is also has =
    let are : entries ≡ own_entries (plain_compared tree.root.own) ++ node_entries (with_each_node plain_compared tree.root).children =
    cc in
    (λ i. one (MemberName (codes "devicetree"))
    ++ (one BeginObject ++ (member_tokens (blob_members (record blob { cpu = is i; reservations = also i }))
    ++ (root_tokens (are i) ++ one EndObject))))
    ∙ ap (λ (root : List JsonToken). one (MemberName (codes "devicetree"))
    ++ (one BeginObject ++ (member_tokens (blob_members (record blob { cpu = tree.cpu; reservations = tree.reservations }))
    ++ ((one (MemberName (codes "root")) ++ (one BeginObject ++ root)) ++ one EndObject))))
    (devicetree_tokens tree.root.own tree.root.children)
    ∙ simp (append_assoc, append-nil) refl
