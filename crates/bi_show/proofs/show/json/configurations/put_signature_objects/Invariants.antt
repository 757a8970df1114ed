use Rattle.std.proofs.Common.{◌≡◌, filter, map}
use Rattle.bi_coverage.specs.Coverage.{signature_coverage}
use Rattle.bi_coverage.specs.Signatures.{is_signed}
use Rattle.bi_coverage.specs.Values.{meaning_of_sibling, meaning_of_node, signature_value}
use Rattle.bi_fdt.specs.Content.{root_of}
use Rattle.bi_fdt.specs.Views.{node_of}
use Rattle.bi_fit.specs.Content.{tree_of}
use Rattle.bi_fit.specs.Siblings.{siblings_left}
use Rattle.bi_common.specs.JsonTokens.{value_tokens}
use Rattle.bi_report.proofs.PutInTurn.{IsPutBefore}
use Rattle.bi_show.specs.ReadObjects.{read_signature_objects}
use Rattle.bi_show.specs.ShownObjects.{is_signed_node, signed_node_object}
use Rattle.bi_show.proofs.show.json.configurations.put_signature_objects.Given as goal

-- The signed nodes that are left follow those that were put, and the coverage that is left is theirs.
abbrev pub invariant-loop-child : goal.invariant-loop-child
invariant-loop-child g l =
    let entry = node_of l.fn.node in
    let content = l.fn.fit in record {
      are_put : IsPutBefore g.J.JsonPen.puts l.initial.json l.json
          (value_tokens (map (signed_node_object content.blob.file (root_of content.blob) (tree_of content) entry)
          (filter is_signed_node (siblings_left l.child-iterator))))
          (value_tokens (read_signature_objects content entry));
      covered : map signature_value l.left
          ≡ map (signature_coverage content (meaning_of_node l.fn.node))
          (filter is_signed (map meaning_of_sibling (siblings_left l.child-iterator)));
    }
