use Rattle.std.proofs.Common.{◌≡◌, ℕ, suc, ◌+◌, ◌-◌, ◌<◌, ◌≤◌, List, [], ◌∷◌, ◌++◌, length, map, refl, sym, ap, subst, arith, rules}
use Rattle.std.proofs.lemmas.List.{append-nil}
use Rattle.bi_base.specs.Cells.{slice, u32_at}
use Rattle.bi_base.specs.Checks.{HasNoFault}
use Rattle.bi_blob.specs.Tokens.{Token, BeginNode, EndNode, Prop, Nop, End, width, IsTokenAt, IsNameAt, name_from, begin_node_number}
use Rattle.bi_blob.specs.Tokens.{end_node_number, prop_number, nop_number}
use Rattle.bi_blob.specs.Tree.{FileProperty, names, depth, AreProperties}
use Rattle.bi_blob.specs.Events.{FileNodeStart, FileNodeProperty, FileNodeEnd}
use Rattle.bi_blob.specs.Stages.{Stage, BeforeRoot, Inside}
use Rattle.bi_blob.specs.Blob.{TreeBlocks, IsReadable}
use Rattle.bi_blob.specs.BlobFaults.{TokenPasses, token_checks}
use Rattle.bi_blob.specs.OpenNodes.{OpenFileNode, TreeSoFar, NoTree, OpenTree, WholeTree, new_node, with_one_property, with_one_child}
use Rattle.bi_blob.specs.OpenNodes.{with_last, own_of, outer_nodes_of, stage_of, events_so_far, IsOpenNode, AreOpenNodes, MayBeChild}
use Rattle.bi_blob.specs.OpenNodes.{IsOpenAt}
use Rattle.bi_blob.proofs.Blobs.BytesBeforeZero.{HasName-IsNameAt}
use Rattle.bi_blob.proofs.Blobs.Tokens.{BeginNode-is_at, EndNode-is_at, Prop-is_at, Nop-is_at}
use Rattle.bi_blob.proofs.Blobs.OpenNodes.{ended_root, with_each-with_last, depth-with_last, AreNodes-with_last, AreProperties-push}
use Rattle.bi_blob.proofs.Blobs.OpenNodes.{open_node_of-property, open_node_of-child, events_of_open_nodes-property}
use Rattle.bi_blob.proofs.Blobs.OpenNodes.{events_of_open_nodes-child, events_of_open_nodes-root}
use Rattle.bi_blob.proofs.Blobs.PassedTokens.{after_token}
use Rattle.bi_blob.proofs.Blobs.Lookups.{names-with_each}

-- A token that passes its checks begins a node, adds a property to the innermost open node, ends that node, or, if it is FDT_NOP, changes
-- nothing.

-- A token with this number that passes its checks is next.
pub record IsNext (blocks : TreeBlocks) (depth_limit place : ℕ) (stage : Stage) (number : ℕ) : Type 0 where
  pub is_number : u32_at blocks.file place ≡ number
  pub passes : HasNoFault (TokenPasses blocks depth_limit place stage) (token_checks number)

passes_there : (blocks : TreeBlocks) (depth_limit place number : ℕ) (stage : Stage) → IsNext blocks depth_limit place stage number →
    HasNoFault (TokenPasses blocks depth_limit place stage) (token_checks (u32_at blocks.file place))
passes_there blocks depth_limit place number stage next = search rules

-- The token's number is within the file.
pub number_within : (blocks : TreeBlocks) (depth_limit place number : ℕ) (stage : Stage) → IsReadable blocks →
    IsNext blocks depth_limit place stage number → place + 4 ≤ length blocks.file
number_within blocks depth_limit place number stage readable next = search rules

pub length-outer_nodes_of : (name : List ℕ) (outer : List OpenFileNode) → length (outer_nodes_of name outer) ≡ length outer
length-outer_nodes_of name [] = refl
length-outer_nodes_of name (parent ∷ outer) = ap suc (length-outer_nodes_of parent.name outer)

-- After FDT_NOP all is as it was.
pub next_nop : (blocks : TreeBlocks) (depth_limit place : ℕ) (so_far : TreeSoFar) → IsOpenAt blocks depth_limit place so_far →
    IsNext blocks depth_limit place (stage_of so_far) nop_number → IsOpenAt blocks depth_limit (place + width Nop) so_far
next_nop blocks depth_limit place so_far position next =
    after_token blocks depth_limit place so_far so_far Nop [] position
    (λ (e : Nop ≡ End). absurd cc)
    (search (rules, Nop-is_at, number_within))
    (passes_there blocks depth_limit place nop_number (stage_of so_far) next)
    tt
    (sym (append-nil (events_so_far so_far)))
    refl
    position.is_tree_so_far

-- FDT_BEGIN_NODE that passes its checks is there with its name.
start_is_there : (blocks : TreeBlocks) (depth_limit place : ℕ) (stage : Stage) → IsReadable blocks →
    IsNext blocks depth_limit place stage begin_node_number → IsTokenAt blocks.file place (BeginNode (name_from blocks.file (place + 4)))
start_is_there blocks depth_limit place stage readable next = search (rules, BeginNode-is_at, number_within, HasName-IsNameAt)

-- FDT_BEGIN_NODE before the root begins the root.
pub next_root : (blocks : TreeBlocks) (depth_limit place : ℕ) → IsOpenAt blocks depth_limit place NoTree →
    IsNext blocks depth_limit place BeforeRoot begin_node_number →
    IsOpenAt blocks depth_limit (place + width (BeginNode (name_from blocks.file (place + 4))))
    (OpenTree (new_node (name_from blocks.file (place + 4)) place) [])
next_root blocks depth_limit place position next =
    let name : List ℕ = name_from blocks.file (place + 4) in
    let few : 0 < depth_limit = next.passes.1.1.0 in
    let unnamed : name ≡ [] = next.passes.1.1.1.1.0 in
    after_token blocks depth_limit place NoTree (OpenTree (new_node name place) []) (BeginNode name)
    (FileNodeStart place name ∷ []) position
    (λ (e : BeginNode name ≡ End). absurd cc)
    (start_is_there blocks depth_limit place BeforeRoot position.readable next)
    (passes_there blocks depth_limit place begin_node_number BeforeRoot next)
    (record { same_name = refl; same_place = refl }, tt)
    refl
    refl
    (record { properties = record { named = tt; distinct = tt }; children = tt; shallow = omega arith }, unnamed)

-- FDT_BEGIN_NODE inside a node begins a child of it.
pub next_child : (blocks : TreeBlocks) (depth_limit place : ℕ) (parent : OpenFileNode) (outer : List OpenFileNode) →
    IsOpenAt blocks depth_limit place (OpenTree parent outer) →
    IsNext blocks depth_limit place (stage_of (OpenTree parent outer)) begin_node_number →
    IsOpenAt blocks depth_limit (place + width (BeginNode (name_from blocks.file (place + 4))))
    (OpenTree (new_node (name_from blocks.file (place + 4)) place) (parent ∷ outer))
next_child blocks depth_limit place parent outer position next =
    let name : List ℕ = name_from blocks.file (place + 4) in
    let stage : Stage = stage_of (OpenTree parent outer) in
    let few : suc (length (outer_nodes_of parent.name outer)) < depth_limit = next.passes.1.1.0 in
    let open_here : length (outer_nodes_of parent.name outer) ≡ length outer = length-outer_nodes_of parent.name outer in
    after_token blocks depth_limit place (OpenTree parent outer) (OpenTree (new_node name place) (parent ∷ outer)) (BeginNode name)
    (FileNodeStart place name ∷ []) position
    (λ (e : BeginNode name ≡ End). absurd cc)
    (start_is_there blocks depth_limit place stage position.readable next)
    (passes_there blocks depth_limit place begin_node_number stage next)
    (record { same_name = refl; same_place = refl }, tt)
    refl
    refl (
      record { properties = record { named = tt; distinct = tt }; children = tt; shallow = omega arith },
      record { is_name = next.passes.1.1.1.1.0; is_new = next.passes.1.1.1.1.1.0 },
      position.is_tree_so_far,
    )

-- Good open nodes stay so with one more property of the innermost.
pub AreOpenNodes-property : (depth_limit : ℕ) (o : OpenFileNode) (outer : List OpenFileNode) (p : FileProperty) →
    AreOpenNodes depth_limit o outer → AreProperties (map (λ (q : FileProperty). (q.name, q.value)) (o.properties ++ p ∷ [])) →
    AreOpenNodes depth_limit (with_one_property o p) outer
AreOpenNodes-property depth_limit o [] p are good =
    (record { properties = good; children = are.0.children; shallow = are.0.shallow }, are.1)
AreOpenNodes-property depth_limit o (parent ∷ outer) p are good = search rules

-- The properties of the innermost open node.
pub innermost_properties : (depth_limit : ℕ) (o : OpenFileNode) (outer : List OpenFileNode) → AreOpenNodes depth_limit o outer →
    AreProperties (map (λ (q : FileProperty). (q.name, q.value)) o.properties)
innermost_properties depth_limit o [] are = are.0.properties
innermost_properties depth_limit o (parent ∷ outer) are = are.0.properties

-- The property that a token at this offset encodes.
abbrev pub property_at : TreeBlocks → ℕ → FileProperty
property_at blocks place = record {
  name = name_from blocks.strings (u32_at blocks.file (place + 8));
  value = slice blocks.file (place + 12) (u32_at blocks.file (place + 4));
  place = place;
}

-- The token that encodes it.
abbrev pub property_token : TreeBlocks → ℕ → Token
property_token blocks place = Prop (u32_at blocks.file (place + 8)) (slice blocks.file (place + 12) (u32_at blocks.file (place + 4)))

-- FDT_PROP adds a property to the innermost node.
pub next_property : (blocks : TreeBlocks) (depth_limit place : ℕ) (o : OpenFileNode) (outer : List OpenFileNode) →
    IsOpenAt blocks depth_limit place (OpenTree o outer) → IsNext blocks depth_limit place (stage_of (OpenTree o outer)) prop_number →
    IsOpenAt blocks depth_limit (place + width (property_token blocks place))
    (OpenTree (with_one_property o (property_at blocks place)) outer)
next_property blocks depth_limit place o outer position next =
    let p : FileProperty = property_at blocks place in
    let offset : ℕ = u32_at blocks.file (place + 8) in
    let stage : Stage = stage_of (OpenTree o outer) in
    let within : place + 12 + u32_at blocks.file (place + 4) ≤ blocks.end = next.passes.1.1.1.0 in
    let inside : blocks.end ≤ length blocks.file = position.readable.within in
    let childless : names o.children ≡ [] = next.passes.1.1.0 in
    let named : IsNameAt blocks.strings offset p.name =
    HasName-IsNameAt blocks.strings offset (length blocks.strings) (omega arith) next.passes.1.1.1.1.0 in
    after_token blocks depth_limit place (OpenTree o outer) (OpenTree (with_one_property o p) outer) (Prop offset p.value)
    (FileNodeProperty p ∷ []) position
    (λ (e : Prop offset p.value ≡ End). absurd cc)
    (Prop-is_at blocks.file place position.readable.bytes (omega arith) next.is_number)
    (passes_there blocks depth_limit place prop_number stage next)
    (record { name = named; value = refl; place = refl }, tt)
    (events_of_open_nodes-property o outer p childless)
    (ap (λ open_node. Inside open_node (outer_nodes_of o.name outer)) (sym (open_node_of-property o p)))
    (AreOpenNodes-property depth_limit o outer p position.is_tree_so_far
    (AreProperties-push o.properties p (innermost_properties depth_limit o outer position.is_tree_so_far)
    next.passes.1.1.1.1.1.0 next.passes.1.1.1.1.1.1.0))

-- An open node and one more child.
IsOpenNode-child : (depth_limit above : ℕ) (parent child : OpenFileNode) → IsOpenNode depth_limit above parent →
    IsOpenNode depth_limit (above + 1) child → MayBeChild parent child → IsOpenNode depth_limit above (with_one_child parent child)
IsOpenNode-child depth_limit above parent child is is_child may =
    let deep : depth parent.children + above + 1 ≤ depth_limit = is.shallow in
    let child_deep : depth child.children + (above + 1) + 1 ≤ depth_limit = is_child.shallow in
    let both : depth (with_last parent.children child.name (own_of child) child.children) ≤ depth_limit - (above + 1) =
    search (rules, depth-with_last) in
    search (rules, with_each-with_last, AreNodes-with_last, names-with_each)

pub AreOpenNodes-child : (depth_limit : ℕ) (child parent : OpenFileNode) (outer : List OpenFileNode) →
    AreOpenNodes depth_limit child (parent ∷ outer) → AreOpenNodes depth_limit (with_one_child parent child) outer
AreOpenNodes-child depth_limit child parent [] are =
    (IsOpenNode-child depth_limit 0 parent child are.2.0 are.0 are.1, are.2.1)
AreOpenNodes-child depth_limit child parent (grandparent ∷ outer) are = (
  IsOpenNode-child depth_limit (length outer + 1) parent child are.2.0
      (subst (λ n. IsOpenNode depth_limit n child) (omega arith) are.0) are.1,
  record { is_name = are.2.1.is_name; is_new = are.2.1.is_new },
  are.2.2,
)

-- FDT_END_NODE in a node with a parent ends a child of the parent.
pub next_end_of_child : (blocks : TreeBlocks) (depth_limit place : ℕ) (child parent : OpenFileNode) (outer : List OpenFileNode) →
    IsOpenAt blocks depth_limit place (OpenTree child (parent ∷ outer)) →
    IsNext blocks depth_limit place (stage_of (OpenTree child (parent ∷ outer))) end_node_number →
    IsOpenAt blocks depth_limit (place + width EndNode) (OpenTree (with_one_child parent child) outer)
next_end_of_child blocks depth_limit place child parent outer position next =
    let stage : Stage = stage_of (OpenTree child (parent ∷ outer)) in
    after_token blocks depth_limit place (OpenTree child (parent ∷ outer))
    (OpenTree (with_one_child parent child) outer) EndNode (FileNodeEnd ∷ []) position
    (λ (e : EndNode ≡ End). absurd cc)
    (search (rules, EndNode-is_at, number_within))
    (passes_there blocks depth_limit place end_node_number stage next)
    tt
    (events_of_open_nodes-child parent child outer)
    (search (rules, open_node_of-child))
    (AreOpenNodes-child depth_limit child parent outer position.is_tree_so_far)

-- FDT_END_NODE in the root ends the tree.
pub next_last : (blocks : TreeBlocks) (depth_limit place : ℕ) (outermost : OpenFileNode) →
    IsOpenAt blocks depth_limit place (OpenTree outermost []) →
    IsNext blocks depth_limit place (stage_of (OpenTree outermost [])) end_node_number →
    IsOpenAt blocks depth_limit (place + width EndNode) (WholeTree (ended_root outermost))
next_last blocks depth_limit place outermost position next =
    let stage : Stage = stage_of (OpenTree outermost []) in
    let good : IsOpenNode depth_limit 0 outermost = position.is_tree_so_far.0 in
    let shallow : depth outermost.children + 0 + 1 ≤ depth_limit = good.shallow in
    after_token blocks depth_limit place (OpenTree outermost []) (WholeTree (ended_root outermost)) EndNode (FileNodeEnd ∷ []) position
    (λ (e : EndNode ≡ End). absurd cc)
    (EndNode-is_at blocks.file place position.readable.bytes
    (number_within blocks depth_limit place end_node_number stage position.readable next) next.is_number)
    (passes_there blocks depth_limit place end_node_number stage next)
    tt
    (events_of_open_nodes-root outermost position.is_tree_so_far.1)
    refl
    (record { is_tree = record { is_own = good.properties; children = good.children }; shallow = omega arith })
