use Rattle.std.proofs.Common.{◌+◌, ap, ◌∙◌, sym}
use Rattle.bi_lay.proofs.ChildSearch.{knows-begun, depth-begun}
use Rattle.bi_lay.proofs.siblings.scan_after.Goals as goal

pub returns-in-Begin : goal.returns-in-Begin
returns-in-Begin c stage scan =
    rw c.in-Begin.is
    (record {
      is_depth = ap (λ n. n + 1) scan.is_depth ∙ sym (depth-begun stage c.in-Begin.child.now);
      children = knows-begun c.args.name.now c.in-Begin.child.now c.args.depth c.args.scan.depth c.args.scan.is_new c.is_new_after.result
          stage scan.is_depth scan.children c.is_new_after.ensures.child c.is_new_after.ensures.node c.is_new_after.ensures.other;
    })
