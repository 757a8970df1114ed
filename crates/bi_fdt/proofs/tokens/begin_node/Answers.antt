use Rattle.std.proofs.Common.{◌≡◌, ◌+◌, ◌<◌, ◌≤◌, ◌∷◌, length, sym, ap, subst, ◌∙◌, arith}
use Rattle.bi_base.specs.Cells.{up4}
use Rattle.bi_base.proofs.Refusals.{refused_by, refusal_passed_on}
use Rattle.bi_blob.specs.Tokens.{name_from}
use Rattle.bi_blob.specs.OpenNodes.{IsOpenAt, OpenTree, open_node_of, outer_nodes_of, new_node}
use Rattle.bi_fdt.specs.Blocks.{blocks_of}
use Rattle.bi_fdt.proofs.GrowingTables.{outer_count}
use Rattle.bi_fdt.proofs.NameEnds.{name_there}
use Rattle.bi_fdt.proofs.TokenSteps.{up4-within, begin_fault, duplicate_node, after_begin}
use Rattle.bi_blob.proofs.Blobs.ReaderSteps.{length-outer_nodes_of}
use Rattle.bi_fdt.proofs.tokens.begin_node.Goals as goal

pub begin_node-requires-clause-room : goal.begin_node-requires-clause-room
begin_node-requires-clause-room c =
    let r = c.requires.reading in
    let deep : length (outer_nodes_of r.innermost.name r.outer) ≡ length r.outer = length-outer_nodes_of r.innermost.name r.outer in
    let depth : c.depth.result ≡ length r.outer + 1 = c.depth.ensures c.args.blocks.file.now r.innermost r.outer r.growing in
    let passes = c.in_ok-name.ensures.ok (open_node_of r.innermost) (outer_nodes_of r.innermost.name r.outer) (omega arith) in
    omega (
      arith,
      passes.0,
      deep,
      c.requires.depth,
      outer_count c.args.blocks.file.now c.args.reading.now.growing r.innermost r.outer r.growing,
    )

pub returns-in_err-name-clause-failed : goal.returns-in_err-name-clause-failed
returns-in_err-name-clause-failed c =
    let r = c.requires.reading in
    let blocks = blocks_of c.args.blocks in
    let deep : length (outer_nodes_of r.innermost.name r.outer) ≡ length r.outer = length-outer_nodes_of r.innermost.name r.outer in
    let depth : c.depth.result ≡ length r.outer + 1 = c.depth.ensures c.args.blocks.file.now r.innermost r.outer r.growing in
    refused_by _ c.in_err-name.field-0.0 _ c.from_residual.ensures.1
    (begin_fault blocks c.args.depth_limit c.args.reading.now.place r.innermost r.outer r.position _ c.requires.number
    (c.in_err-name.ensures.fault (open_node_of r.innermost) (outer_nodes_of r.innermost.name r.outer) (omega arith)))

pub returns-in_err-begin_node-clause-failed : goal.returns-in_err-begin_node-clause-failed
returns-in_err-begin_node-clause-failed c =
    let r = c.requires.reading in
    let blocks = blocks_of c.args.blocks in
    let deep : length (outer_nodes_of r.innermost.name r.outer) ≡ length r.outer = length-outer_nodes_of r.innermost.name r.outer in
    let depth : c.depth.result ≡ length r.outer + 1 = c.depth.ensures c.args.blocks.file.now r.innermost r.outer r.growing in
    refusal_passed_on _ c.in_err-begin_node.field-0.0 _ _ _ c.from_residual-in_err-begin_node.ensures.1 c.in_err-begin_node.ensures.failed
    c.in_err-begin_node.ensures.failed
    (λ fault is _.
    duplicate_node blocks c.args.depth_limit c.args.reading.now.place r.innermost r.outer r.position c.in_ok-name.name.now fault
    c.requires.number c.in_ok-name.ensures.name
    (c.in_ok-name.ensures.ok (open_node_of r.innermost) (outer_nodes_of r.innermost.name r.outer) (omega arith))
    is.is_fault (is.taken c.args.blocks.file.now r.innermost r.outer r.growing))

pub returns-clause-ok : goal.returns-clause-ok
returns-clause-ok c =
    let r = c.requires.reading in
    let blocks = blocks_of c.args.blocks in
    let place = c.args.reading.now.place in
    let name = c.in_ok-name.name.now in
    let begun = c.in_ok-begin_node.ensures.ok in
    let deep : length (outer_nodes_of r.innermost.name r.outer) ≡ length r.outer = length-outer_nodes_of r.innermost.name r.outer in
    let depth : c.depth.result ≡ length r.outer + 1 = c.depth.ensures c.args.blocks.file.now r.innermost r.outer r.growing in
    let passes = c.in_ok-name.ensures.ok (open_node_of r.innermost) (outer_nodes_of r.innermost.name r.outer) (omega arith) in
    let ends : place + 4 + length (name_from c.args.blocks.file.now (place + 4)) < c.args.blocks.end = passes.1.0 in
    let long : length name ≡ length (name_from c.args.blocks.file.now (place + 4)) = ap length c.in_ok-name.ensures.name in
    let wide : c.up4.result ≡ up4 (length name + 5) = c.up4.ensures in
    let least : length name + 5 ≤ up4 (length name + 5) = (up4-within (length name + 5)).0 in
    let most : up4 (length name + 5) ≤ length name + 5 + 3 = (up4-within (length name + 5)).1 in (
      record {
        innermost = new_node name place;
        outer = r.innermost ∷ r.outer;
        position = subst (λ w. IsOpenAt blocks c.args.depth_limit (place + w)
            (OpenTree (new_node name place) (r.innermost ∷ r.outer))) (sym wide)
            (after_begin blocks c.args.depth_limit place r.innermost r.outer r.position name c.requires.number
            c.in_ok-name.ensures.name passes
            (begun.is_new c.args.blocks.file.now r.innermost r.outer r.growing));
        growing = begun.grown c.args.blocks.file.now r.innermost r.outer r.growing
            (name_there c.args.blocks.file.now name (place + 4) c.in_ok-name.ensures.name);
        strings = begun.strings ∙ r.strings;
        few = omega (arith, r.few, begun.count);
        within = omega arith;
      },
      omega arith,
    )
