use Rattle.std.proofs.Common.{refl, sym, ap, ◌∙◌}
use Rattle.std.specs.Option.{option_map}
use Rattle.bi_fdt.specs.Views.{node_of}
use Rattle.bi_c.specs.declared.failure.Failure.TheVariants.{WrongArgument, NotFound}
use Rattle.bi_c.specs.Answers.{FilledNothing}
use Rattle.bi_c.proofs.CallAnswers.{not_so, is_so, fills_as}
use Rattle.bi_c.proofs.CheckFacts.{limits_are_wrong}
use Rattle.bi_c.proofs.NodeFiles.{has_node, node_bytes, node_read_failed, no_node}
use Rattle.bi_c.proofs.TreeRegions.{each_name}
use Rattle.bi_c.proofs.nodes.bootimg_children.Goals as goal

pub returns-in_default : goal.returns-in_default
returns-in_default c = FilledNothing (WrongArgument c.wrong_limit.result 0)
    (limits_are_wrong c.args.limit c.args.depth _ c.wrong_limit.ensures (not_so _ c.in_default.ensures.in_range))
    refl c.fail.ensures.answer c.fail.ensures.status

pub returns-in-Err : goal.returns-in-Err
returns-in-Err c =
    FilledNothing c.failure_of.result
    (node_read_failed c.args.limit c.args.depth c.args.file.now _ c.in-Some.limits c.in-Err.error c.failure_of.result
    (is_so _ c.in-Some.ensures.in_range) c.in-Some.ensures.value c.failure_of.ensures c.in-Err.ensures.failed)
    refl c.fail-in-Err.ensures.answer c.fail-in-Err.ensures.status

pub returns-in-Some-node_at : goal.returns-in-Some-node_at
returns-in-Some-node_at c =
    let file = c.args.file.now in
    let path = c.args.path.now in
    let read = c.in-Ok.ensures.read in
    let found = node_of c.in-Some-node_at.node in
    let is_found = sym c.node_at.ensures ∙ ap (option_map node_of) c.in-Some-node_at.is in
    fills_as _ _ _ _ _ _ _ _
    (λ regions value just. record {
      limits = is_so _ c.in-Some.ensures.in_range;
      found = found;
      is_found = has_node c.args.limit c.args.depth file path c.in-Some.limits c.in-Ok.fit found c.in-Some.ensures.value read is_found;
      are_regions = just.is_text;
      have_bytes = each_name file found.children (node_bytes file path c.in-Some.limits c.in-Ok.fit found read is_found).1;
      no_value = just.is_number;
    })
    (λ failure none. absurd none) c.fill_children.ensures

pub returns : goal.returns
returns c =
    FilledNothing (NotFound 10 0)
    (no_node c.args.limit c.args.depth c.args.file.now c.args.path.now c.in-Some.limits c.in-Ok.fit (is_so _ c.in-Some.ensures.in_range)
    c.in-Some.ensures.value c.in-Ok.ensures.read (sym c.node_at.ensures ∙ ap (option_map node_of) c.in-None.is))
    refl c.fail-in-None.ensures.answer c.fail-in-None.ensures.status
