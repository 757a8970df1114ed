use Rattle.std.proofs.Common.{◌≡◌, true, false, Some, None, [], ◌∷◌, bytes_eq, sym, ap, subst, ◌∙◌, arith}
use Rattle.std.specs.Prelude.{option_copied}
use Rattle.bi_fdt.specs.Content.{Blob, root_of}
use Rattle.bi_coverage.specs.ChildNumbers.{child_number}
use Rattle.bi_coverage.specs.NodeIndices.{path_end}
use Rattle.bi_coverage.proofs.FoundNodes.{IsAtNode, at_root, at_child, at_no_child, at_no_path, within_children, within_ends, got_at}
use Rattle.bi_coverage.proofs.FoundNodes.{no_node_at_path, some_path, lost_end, empty_end, root_end, found_end}
use Rattle.bi_coverage.proofs.node_index.NodeIndex.end_at.Goals as goal

pub returns-then-eq : goal.returns-then-eq
returns-then-eq c =
    let path = c.args.path.now in
    let same : bytes_eq path (47 ∷ []) ≡ true = ap (bytes_eq path) (sym c.as_slice.ensures) ∙ sym c.eq.ensures ∙ c.if-eq.true in
    root_end c.self.inside.blob.now.file (root_of c.self.inside.blob.now) c.self.inside.children.items c.self.inside.ends.items path
    c.self.invariant.is_index c.self.invariant.is_tree same c.index.result.now c.index.ensures
    ∙ ap (λ (blob : Blob). path_end blob.file (root_of blob) path) c.self.view_is

pub returns-then-is_empty : goal.returns-then-is_empty
returns-then-is_empty c =
    let path = c.args.path.now in
    let other : bytes_eq path (47 ∷ []) ≡ false = ap (bytes_eq path) (sym c.as_slice.ensures) ∙ sym c.eq.ensures ∙ c.if-eq.false in
    empty_end _ _ path other (no_node_at_path path (sym c.is_empty.ensures ∙ c.if-is_empty.true))

pub loop-name-init : goal.loop-name-init
loop-name-init c =
    let path = c.args.path.now in
    subst
    (λ (blob : Blob). IsAtNode blob.file (root_of blob) c.self.inside.children.items c.self.inside.ends.items path 0 path)
    c.self.view_is
    (at_root c.self.inside.blob.now.file (root_of c.self.inside.blob.now) c.self.inside.children.items c.self.inside.ends.items path
    c.self.invariant.is_index c.self.invariant.is_tree (some_path path (sym c.is_empty.ensures ∙ c.if-is_empty.false)))

pub index-requires-in-Some : goal.index-requires-in-Some
index-requires-in-Some c =
    let within = within_children _ _ _ _ _ _ _ c.loop-name.invariant in
    omega (arith, within)

pub returns-in_default-get : goal.returns-in_default-get
returns-in_default-get c =
    let path = c.args.path.now in
    let other : bytes_eq path (47 ∷ []) ≡ false = ap (bytes_eq path) (sym c.as_slice.ensures) ∙ sym c.eq.ensures ∙ c.if-eq.false in
    let none_there : child_number c.index-in-Some.result.now c.in-Some.name.now ≡ None =
    sym c.get.ensures.value ∙ ap option_copied c.in_default-get.is in
    lost_end _ _ path other
    (at_no_child _ _ _ _ _ _ _ c.loop-name.invariant c.index-in-Some.result.now c.in-Some.name.now c.in-Some.later.now
    (got_at _ _ _ (within_children _ _ _ _ _ _ _ c.loop-name.invariant) c.index-in-Some.ensures) c.in-Some.ensures none_there)

pub loop-name-preserved : goal.loop-name-preserved
loop-name-preserved c =
    let found : child_number c.index-in-Some.result.now c.in-Some.name.now ≡ Some c.in-Some-get.child.now =
    sym c.get.ensures.value ∙ ap option_copied c.in-Some-get.is in
    at_child _ _ _ _ _ _ _ c.loop-name.invariant c.index-in-Some.result.now c.in-Some.name.now c.in-Some.later.now
    c.in-Some-get.child.now
    (got_at _ _ _ (within_children _ _ _ _ _ _ _ c.loop-name.invariant) c.index-in-Some.ensures) c.in-Some.ensures found

pub index-requires-then-is_empty-2 : goal.index-requires-then-is_empty-2
index-requires-then-is_empty-2 c =
    let within = within_ends _ _ _ _ _ _ _ c.loop-name.invariant in
    omega (arith, within)

pub returns-then-is_empty-2 : goal.returns-then-is_empty-2
returns-then-is_empty-2 c =
    let path = c.args.path.now in
    let other : bytes_eq path (47 ∷ []) ≡ false = ap (bytes_eq path) (sym c.as_slice.ensures) ∙ sym c.eq.ensures ∙ c.if-eq.false in
    found_end _ _ _ _ path _ c.loop-name.rest.now c.loop-name.invariant
    (no_node_at_path c.loop-name.rest.now (sym c.is_empty-2.ensures ∙ c.if-is_empty-2.true)) other
    c.index-then-is_empty-2.result.now c.index-then-is_empty-2.ensures

pub returns-else-is_empty-2 : goal.returns-else-is_empty-2
returns-else-is_empty-2 c =
    let path = c.args.path.now in
    let other : bytes_eq path (47 ∷ []) ≡ false = ap (bytes_eq path) (sym c.as_slice.ensures) ∙ sym c.eq.ensures ∙ c.if-eq.false in
    lost_end _ _ path other
    (at_no_path _ _ _ _ _ _ _ c.loop-name.invariant c.in_default.ensures
    (some_path c.loop-name.rest.now (sym c.is_empty-2.ensures ∙ c.if-is_empty-2.false)))
