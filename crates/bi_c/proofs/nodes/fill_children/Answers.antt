use Rattle.std.proofs.Common.{◌≡◌, ◌+◌, ℕ, suc, List, length, map, sym, ap, subst, ◌∙◌, arith}
use Rattle.std.proofs.Math.ListN.{set}
use Rattle.std.proofs.lemmas.List.{length-map}
use Rattle.std.specs.Option.{option_map}
use Rattle.bi_blob.specs.Lookups.{Sibling, siblings_from}
use Rattle.bi_blob.specs.Tree.{FileNode}
use Rattle.bi_blob.proofs.Blobs.Lookups.{siblings_from-next}
use Rattle.bi_fdt.specs.Views.{node_of}
use Rattle.bi_c.specs.Answers.{answer_of}
use Rattle.bi_c.specs.TreeRegions.{children_of_found, name_region_of}
use Rattle.bi_c.specs.declared.region.Region.{Region}
use Rattle.bi_c.proofs.ArrayFilling.{IsFilling, filling_goes_on, array_is_short, array_is_filled}
use Rattle.bi_c.proofs.nodes.fill_children.Goals as goal

pub returns-then-names-count : goal.returns-then-names-count
returns-then-names-count c =
    let nodes = children_of_found (option_map node_of c.args.parent) in
    let count : c.child_count-count.result ≡ length (map name_region_of nodes) =
    c.child_count-count.ensures ∙ sym (length-map nodes name_region_of) in
    array_is_short _ (map name_region_of nodes) c.args.value c.args.names.now _
    (c.answer_with.ensures ∙ ap (λ (n : ℕ). answer_of n c.args.value) count) (omega (arith, count, c.if-names-count.true))

pub loop-next-smaller : goal.loop-next-smaller
loop-next-smaller c =
    let e : length (siblings_from (option_map node_of c.loop-next.next))
    ≡ suc (length (siblings_from (option_map node_of c.next_sibling-next.result))) =
    ap length (siblings_from-next (option_map node_of c.loop-next.next) (option_map node_of c.next_sibling-next.result)
    (node_of c.in-Some.node) (ap (option_map node_of) c.in-Some.is) c.next_sibling-next.ensures.sibling) in
    omega arith

pub loop-next-preserved : goal.loop-next-preserved
loop-next-preserved c =
    let all = map name_region_of (children_of_found (option_map node_of c.args.parent)) in
    let first = node_of c.in-Some.node in
    let later = siblings_from (option_map node_of c.next_sibling-next.result) in
    let is_first = siblings_from-next (option_map node_of c.loop-next.next) (option_map node_of c.next_sibling-next.result) first
    (ap (option_map node_of) c.in-Some.is) c.next_sibling-next.ensures.sibling in
    subst (λ (region : Region). IsFilling all (map name_region_of later) (c.loop-next.index + 1) c.args.names.now
    (set c.loop-next.names c.loop-next.index region)) (sym c.name_region.ensures)
    (filling_goes_on all (map name_region_of later) (name_region_of first) c.loop-next.index c.args.names.now c.loop-next.names
    (subst (λ (left : List (Sibling FileNode)).
    IsFilling all (map name_region_of left) c.loop-next.index c.args.names.now c.loop-next.names) is_first c.loop-next.invariant))

pub returns : goal.returns
returns c =
    let nodes = children_of_found (option_map node_of c.args.parent) in
    let count : c.child_count-count.result ≡ length (map name_region_of nodes) =
    c.child_count-count.ensures ∙ sym (length-map nodes name_region_of) in
    array_is_filled _ (map name_region_of nodes) c.args.value c.loop-next.index c.args.names.now c.loop-next.names _
    (c.answer_with.ensures ∙ ap (λ (n : ℕ). answer_of n c.args.value) count)
    (subst (λ next. IsFilling (map name_region_of nodes) (map name_region_of (siblings_from (option_map node_of next))) c.loop-next.index
    c.args.names.now c.loop-next.names) c.in_default.is c.loop-next.invariant)
