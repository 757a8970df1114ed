use Rattle.std.proofs.Common.{◌+◌, inl, inr, length, refl, sym, ap, ◌∙◌}
use Rattle.std.specs.Option.{option_map}
use Rattle.bi_fdt.specs.Properties.{file_property_of}
use Rattle.bi_fdt.specs.Views.{node_of}
use Rattle.bi_c.specs.declared.failure.Failure.TheVariants.{WrongArgument, NotFound}
use Rattle.bi_c.specs.Answers.{Returned, Failed}
use Rattle.bi_c.proofs.CallAnswers.{not_so, is_so}
use Rattle.bi_c.proofs.CheckFacts.{limits_are_wrong}
use Rattle.bi_c.proofs.NodeFiles.{has_node, named_property, no_node, node_bytes, node_read_failed}
use Rattle.bi_c.proofs.properties.bootimg_property_value.Goals as goal

pub returns-in_default : goal.returns-in_default
returns-in_default c = Failed (WrongArgument c.wrong_limit.result 0)
    (limits_are_wrong c.args.limit c.args.depth _ c.wrong_limit.ensures (not_so _ c.in_default.ensures.in_range))
    c.fail.ensures.answer c.fail.ensures.status

pub returns-in-Err : goal.returns-in-Err
returns-in-Err c =
    Failed c.failure_of.result
    (node_read_failed c.args.limit c.args.depth c.args.file.now _ c.in-Some.limits c.in-Err.error c.failure_of.result
    (is_so _ c.in-Some.ensures.in_range) c.in-Some.ensures.value c.failure_of.ensures c.in-Err.ensures.failed)
    c.fail-in-Err.ensures.answer c.fail-in-Err.ensures.status

pub returns-in_default-node_at : goal.returns-in_default-node_at
returns-in_default-node_at c =
    let failed = no_node c.args.limit c.args.depth c.args.file.now c.args.path.now c.in-Some.limits c.in-Ok.fit
    (is_so _ c.in-Some.ensures.in_range) c.in-Some.ensures.value c.in-Ok.ensures.read
    (sym c.node_at.ensures ∙ ap (option_map node_of) c.in_default-node_at.is) in
    Failed (NotFound 10 0) (failed.0, inl failed.1) c.fail-in_default-node_at.ensures.answer c.fail-in_default-node_at.ensures.status

pub returns-in-Some-find_property : goal.returns-in-Some-find_property
returns-in-Some-find_property c =
    let file = c.args.file.now in
    let path = c.args.path.now in
    let read = c.in-Ok.ensures.read in
    let found = node_of c.in-Some-node_at.node in
    let is_found = sym c.node_at.ensures ∙ ap (option_map node_of) c.in-Some-node_at.is in
    let property = file_property_of c.in-Some-find_property.property in
    let is_named = sym c.find_property.ensures ∙ ap (option_map file_property_of) c.in-Some-find_property.is in
    let bytes = node_bytes file path c.in-Some.limits c.in-Ok.fit found read is_found in
    Returned (length property.value) (property.place + 12)
    (record {
      limits = is_so _ c.in-Some.ensures.in_range;
      found = found;
      is_found = has_node c.args.limit c.args.depth file path c.in-Some.limits c.in-Ok.fit found c.in-Some.ensures.value read is_found;
      property = property;
      is_named = is_named;
      is_size = refl;
      is_offset = refl;
      is_there = (named_property file c.args.name.now found.own.properties property is_named bytes.0).value.is_there;
    })
    c.succeed.ensures.answer c.succeed.ensures.status

pub returns : goal.returns
returns c =
    let file = c.args.file.now in
    let path = c.args.path.now in
    let found = node_of c.in-Some-node_at.node in
    let is_found = sym c.node_at.ensures ∙ ap (option_map node_of) c.in-Some-node_at.is in
    Failed (NotFound 11 0) (
      is_so _ c.in-Some.ensures.in_range,
      inr (
        refl,
        refl,
        record {
          found = found;
          is_found = has_node c.args.limit c.args.depth file path c.in-Some.limits c.in-Ok.fit found c.in-Some.ensures.value
              c.in-Ok.ensures.read is_found;
          is_lacking = sym c.find_property.ensures ∙ ap (option_map file_property_of) c.in-None.is;
        },
      ),
    )
    c.fail-in-None.ensures.answer c.fail-in-None.ensures.status
