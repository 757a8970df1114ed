use Rattle.std.proofs.Common.{◌<◌, ◌^◌, ap, refl, sym, subst, ◌∙◌}
use Rattle.bi_base.specs.declared.fault.Error.TheVariants as error
use Rattle.bi_base.specs.Limits.{Limits}
use Rattle.bi_c.specs.declared.failure.Failure.TheVariants as failure
use Rattle.bi_blob.specs.Lookups.{Sibling, root_node}
use Rattle.bi_blob.specs.Tree.{FileNode, depth}
use Rattle.bi_fdt.specs.Content.{Blob, root_of}
use Rattle.bi_fit.specs.NormalNodes.{alone}
use Rattle.bi_fit.specs.Reading.{IsFitReadError}
use Rattle.bi_c.specs.Answers.{FilledNothing}
use Rattle.bi_c.proofs.CallAnswers.{not_so, is_so, buffer_is_filled, failed_of_one}
use Rattle.bi_c.proofs.CheckFacts.{limits_are_wrong}
use Rattle.bi_c.proofs.FitFiles.{read_needs_memory}
use Rattle.bi_c.specs.TreeElements.{tree_elements}
use Rattle.bi_c.specs.TreeRegions.{HaveNodeBytes}
use Rattle.bi_c.proofs.TreeElements.{are_tree_elements, few_levels, read_bytes}
use Rattle.bi_c.proofs.all_nodes.bootimg_nodes.Goals as goal

pub returns-in_default : goal.returns-in_default
returns-in_default c =
    FilledNothing (failure.WrongArgument c.wrong_limit.result 0)
    (limits_are_wrong c.args.limit c.args.depth _ c.wrong_limit.ensures (not_so _ c.in_default.ensures.in_range))
    refl c.fail.ensures.answer c.fail.ensures.status

pub returns-in-Err : goal.returns-in-Err
returns-in-Err c =
    FilledNothing c.failure_of.result
    (failed_of_one c.args.limit c.args.depth (λ limits. IsFitReadError limits c.args.file.now) c.in-Some.limits c.in-Err.error
    c.failure_of.result (is_so _ c.in-Some.ensures.in_range) c.in-Some.ensures.value c.failure_of.ensures (λ l is. is) (λ l is. is)
    c.in-Err.ensures.failed)
    refl c.fail-in-Err.ensures.answer c.fail-in-Err.ensures.status

pub tree_elements-requires-clause-bytes : goal.tree_elements-requires-clause-bytes
tree_elements-requires-clause-bytes c =
    let is_root = c.root.ensures.root ∙ ap (λ (blob : Blob). root_node (root_of blob)) c.blob.ensures in
    subst (λ (found : Sibling FileNode). HaveNodeBytes c.args.file.now (alone found)) (sym is_root)
    (read_bytes c.args.limit c.args.depth c.args.file.now c.in-Some.limits c.in-Ok.fit c.in-Some.ensures.value c.in-Ok.ensures.read)

pub tree_elements-requires-clause-few : goal.tree_elements-requires-clause-few
tree_elements-requires-clause-few c =
    let is_root = c.root.ensures.root ∙ ap (λ (blob : Blob). root_node (root_of blob)) c.blob.ensures in
    subst (λ (found : Sibling FileNode). depth (alone found) < 2 ^ 32) (sym is_root)
    (few_levels c.args.limit c.args.depth c.args.file.now c.in-Some.limits c.in-Ok.fit c.in-Some.ensures.value c.in-Ok.ensures.read
    (is_so _ c.in-Some.ensures.in_range))

pub returns-in-Ok-tree_elements : goal.returns-in-Ok-tree_elements
returns-in-Ok-tree_elements c =
    buffer_is_filled _ _ c.deref.result.now _ _ 0 _ _
    (are_tree_elements c.args.limit c.args.depth c.args.file.now c.in-Some.limits c.in-Ok.fit c.in-Some.ensures.value c.in-Ok.ensures.read
    c.deref.result.now (is_so _ c.in-Some.ensures.in_range)
    (c.deref.ensures.value ∙ c.in-Ok-tree_elements.ensures
    ∙ ap (λ (found : Sibling FileNode). tree_elements c.args.file.now 0 (alone found))
    (c.root.ensures.root ∙ ap (λ (blob : Blob). root_node (root_of blob)) c.blob.ensures)))
    c.fill.ensures.answer c.fill.ensures.filled

pub returns : goal.returns
returns c =
    let file = c.args.file.now in
    FilledNothing failure.OutOfMemory (
      is_so _ c.in-Some.ensures.in_range,
      subst (λ (l : Limits). IsFitReadError l file error.OutOfMemory) c.in-Some.ensures.value
          (read_needs_memory c.in-Some.limits file c.in-Ok.fit c.in-Ok.ensures.read),
    ) refl c.fail-in-Err-tree_elements.ensures.answer c.fail-in-Err-tree_elements.ensures.status
