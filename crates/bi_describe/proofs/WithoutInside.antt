use Rattle.std.proofs.Common.{◌≡◌, ℕ, ◌+◌, Bool, true, false, not, List, [], ◌∷◌, ◌++◌, Option, None, Some, filter, map}
use Rattle.std.proofs.Common.{refl, ap, ap₂, ◌∙◌}
use Rattle.std.specs.FinMap.{entries}
use Rattle.std.specs.List.{AllByRecursion}
use Rattle.std.specs.Option.{option_map}
use Rattle.std.proofs.lemmas.List.{map-append}
use Rattle.std.proofs.lemmas.List.Elements.{filter-append}
use Rattle.bi_base.proofs.ListMembers.{each-append}
use Rattle.bi_base.specs.Limits.{Limits}
use Rattle.bi_blob.specs.Blob.{Reservation}
use Rattle.bi_blob.specs.Tree.{Nodes, none, node, Property, PropertyMap, with_each}
use Rattle.bi_norm.specs.Meaning.{Means, Meaning, OfFit, OfLegacy}
use Rattle.bi_common.specs.CommonLines.{header_lines, reservation_line}
use Rattle.bi_common.specs.Lines.{Line}
use Rattle.bi_values.specs.ValueNames.{IsChildNameOfBytes}
use Rattle.bi_values.proofs.Steps.{path_begins}
use Rattle.bi_describe.specs.ComparedNodes.{described_node, plain_compared}
use Rattle.bi_describe.specs.DeepDescriptions.{inside_lines, inside_reservation_line, insides_shown, line_at, line_inside}
use Rattle.bi_describe.specs.DeepDescriptions.{lines_at, lines_with_inside, place_of_line, whole_devicetree}
use Rattle.bi_describe.specs.DeepLaws.{WithoutInsideIsDescription, is_line_inside}
use Rattle.bi_describe.specs.Descriptions.{DescribedNode, NodePayload, NotAnImage, OfImage, PayloadDigest, description_lines}
use Rattle.bi_describe.specs.Descriptions.{digest_of_payload, head_lines, node_line}
use Rattle.bi_describe.specs.Descriptions.{described_nodes, node_lines, own_lines, part_lines, payload_lines, plain_node, property_line}
use Rattle.bi_describe.specs.Devicetrees.{Devicetree, Insides}
use Rattle.bi_describe.specs.IgnoredWords.{inside_path, payload_path}
use Rattle.bi_describe.specs.Ignoring.{PayloadPlace}
use Rattle.bi_describe.specs.WordParts.{has_two_slashes}
use Rattle.bi_describe.proofs.ShownNodes.{AreShown, all_shown}
use Rattle.bi_describe.proofs.WordTexts.{names_no_two, two_there}

-- Without the lines about what is inside payloads, a deep description is the description.

abbrev stays : Line → Bool
stays line = not (is_line_inside line)

-- ---- lines about what is inside

-- A path inside a payload has two slashes.
inner_path : (payload : List ℕ) (names : List (List ℕ)) → has_two_slashes (inside_path payload names) ≡ true
inner_path payload names =
    let begins = path_begins names in
    ap (λ later. has_two_slashes (payload ++ (47 ∷ later))) begins.1 ∙ two_there payload begins.0

nodes_out : (payload : List ℕ) (names : List (List ℕ)) → filter stays (map (line_inside payload) (node_line names ∷ [])) ≡ []
nodes_out payload names = rw (inner_path payload names) refl

properties_out : (payload : List ℕ) (names : List (List ℕ)) (properties : List Property) →
    filter stays (map (line_inside payload) (map (property_line names) properties)) ≡ []
properties_out payload names [] = refl
properties_out payload names (property ∷ later) = rw (inner_path payload names) (properties_out payload names later)

-- Two lists of lines of which none stays.
both_out : (payload : List ℕ) (xs ys : List Line) → filter stays (map (line_inside payload) xs) ≡ [] →
    filter stays (map (line_inside payload) ys) ≡ [] → filter stays (map (line_inside payload) (xs ++ ys)) ≡ []
both_out payload xs ys first later =
    ap (filter stays) (map-append (line_inside payload) xs ys)
    ∙ filter-append stays (map (line_inside payload) xs) (map (line_inside payload) ys)
    ∙ ap₂ (λ (first later : List Line). first ++ later) first later

own_out : (payload : List ℕ) (names : List (List ℕ)) (properties : PropertyMap) →
    filter stays (map (line_inside payload) (own_lines names (described_node (plain_compared properties)))) ≡ []
own_out payload names properties =
    both_out payload (node_line names ∷ []) (map (property_line names) (entries properties)) (nodes_out payload names)
    (properties_out payload names (entries properties))

tree_out : (payload : List ℕ) (above : List (List ℕ)) (nodes : Nodes PropertyMap) →
    filter stays (map (line_inside payload) (node_lines above (with_each described_node (with_each plain_compared nodes)))) ≡ []
tree_out payload above none = refl
tree_out payload above (node name own children later) =
    let inner : List (List ℕ) = above ++ name ∷ [] in
    let below : List Line = node_lines inner (with_each described_node (with_each plain_compared children)) in
    let after : List Line = node_lines above (with_each described_node (with_each plain_compared later)) in
    both_out payload (own_lines inner (described_node (plain_compared own))) (below ++ after) (own_out payload inner own)
    (both_out payload below after (tree_out payload inner children) (tree_out payload above later))

reservations_out : (payload : List ℕ) (reservations : List Reservation) →
    filter stays (map (inside_reservation_line payload) reservations) ≡ []
reservations_out payload [] = refl
reservations_out payload (reservation ∷ later) = reservations_out payload later

devicetree_out : (payload : List ℕ) (tree : Devicetree) → filter stays (inside_lines payload (whole_devicetree tree)) ≡ []
devicetree_out payload tree =
    let nodes : List Line = node_lines [] (with_each described_node (with_each plain_compared tree.root.children)) in
    let own : List Line = own_lines [] (described_node (plain_compared tree.root.own)) in
    filter-append stays (map (inside_reservation_line payload) tree.reservations) (map (line_inside payload) (own ++ nodes))
    ∙ ap₂ (λ (first later : List Line). first ++ later) (reservations_out payload tree.reservations)
    (both_out payload own nodes (own_out payload [] tree.root.own) (tree_out payload [] tree.root.children))

all_out : (place : PayloadPlace) (found : Option Devicetree) → filter stays (lines_at place (option_map whole_devicetree found)) ≡ []
all_out place None = refl
all_out place (Some tree) = devicetree_out (payload_path place) tree

-- ---- lines of the description

abbrev IsPlain : Line → Type 0
IsPlain line = is_line_inside line ≡ false

line_stays : (insides : Insides) (line : Line) → IsPlain line →
    filter stays (line_at (insides_shown insides) (place_of_line line) line) ≡ line ∷ []
line_stays insides line plain = by (place_of_line line)
  where
    by : (place : Option PayloadPlace) → filter stays (line_at (insides_shown insides) place line) ≡ line ∷ []
    by None = rw plain refl
    by (Some place) = rw plain (ap (λ (lines : List Line). line ∷ lines) (all_out place (insides place)))

lines_stay : (insides : Insides) (lines : List Line) → AllByRecursion IsPlain lines →
    filter stays (lines_with_inside (insides_shown insides) lines) ≡ lines
lines_stay insides [] plain = refl
lines_stay insides (line ∷ later) plain =
    filter-append stays (line_at (insides_shown insides) (place_of_line line) line) (lines_with_inside (insides_shown insides) later)
    ∙ ap₂ (λ (first later : List Line). first ++ later) (line_stays insides line plain.0) (lines_stay insides later plain.1)

parts_plain : (index : ℕ) (parts : List PayloadDigest) → AllByRecursion IsPlain (part_lines index parts)
parts_plain index [] = tt
parts_plain index (part ∷ later) = (refl, parts_plain (index + 1) later)

reservations_plain : (reservations : List Reservation) → AllByRecursion IsPlain (map reservation_line reservations)
reservations_plain [] = tt
reservations_plain (reservation ∷ later) = (refl, reservations_plain later)

properties_plain : (names : List (List ℕ)) → AllByRecursion IsChildNameOfBytes names → (properties : List Property) →
    AllByRecursion IsPlain (map (property_line names) properties)
properties_plain names are [] = tt
properties_plain names are (property ∷ later) = (rw (names_no_two names are) refl, properties_plain names are later)

own_plain : (names : List (List ℕ)) → AllByRecursion IsChildNameOfBytes names → (own : DescribedNode) →
    AllByRecursion IsPlain (own_lines names own)
own_plain names are own =
    let properties : List Property = entries own.properties in (
      rw (names_no_two names are) refl,
      each-append IsPlain (payload_lines names own.payload) (map (property_line names) properties)
          (payload_plain own.payload) (properties_plain names are properties),
    )
  where
    payload_plain : (payload : NodePayload) → AllByRecursion IsPlain (payload_lines names payload)
    payload_plain NotAnImage = tt
    payload_plain (OfImage payload) = (refl, tt)

nodes_plain : (above : List (List ℕ)) → AllByRecursion IsChildNameOfBytes above → (nodes : Nodes DescribedNode) → AreShown nodes →
    AllByRecursion IsPlain (node_lines above nodes)
nodes_plain above are none shown = tt
nodes_plain above are (node name own children later) shown =
    let inner : List (List ℕ) = above ++ name ∷ [] in
    let down : AllByRecursion IsChildNameOfBytes inner = each-append IsChildNameOfBytes above (name ∷ []) are
    (record { is_name = shown.0.is_name; bytes = shown.0.name_bytes }, tt) in
    each-append IsPlain (own_lines inner own) (node_lines inner children ++ node_lines above later) (own_plain inner down own)
    (each-append IsPlain (node_lines inner children) (node_lines above later) (nodes_plain inner down children shown.1)
    (nodes_plain above are later shown.2))

lines_plain : (limits : Limits) (file : List ℕ) (meaning : Meaning) → Means limits file meaning →
    AllByRecursion IsPlain (description_lines meaning)
lines_plain limits file (OfLegacy image) means =
    each-append IsPlain (header_lines image) (part_lines 0 (map digest_of_payload image.parts))
    (refl, (refl, (refl, (refl, (refl, (refl, (refl, (refl, (refl, tt)))))))))
    (parts_plain 0 (map digest_of_payload image.parts))
lines_plain limits file (OfFit tree) means =
    let nodes : Nodes DescribedNode = described_nodes tree.root.children tree.payloads in
    let own : List Line = own_lines [] (plain_node tree.root.own) in
    each-append IsPlain (head_lines tree.cpu) (map reservation_line tree.reservations ++ (own ++ node_lines [] nodes)) (refl, (refl, tt))
    (each-append IsPlain (map reservation_line tree.reservations) (own ++ node_lines [] nodes) (reservations_plain tree.reservations)
    (each-append IsPlain own (node_lines [] nodes) (own_plain [] tt (plain_node tree.root.own))
    (nodes_plain [] tt nodes (all_shown file tree means.is_file))))

-- ---- the law

pub without_inside_is_description : WithoutInsideIsDescription
without_inside_is_description limits file deep means =
    lines_stay deep.insides (description_lines deep.meaning) (lines_plain limits file deep.meaning means.means.means)
