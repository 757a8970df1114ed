use Rattle.std.proofs.Common.{◌≡◌, ◌++◌, List, true, false, ap, filter, map, subst, sym, ◌∙◌}
use Rattle.bi_blob.specs.Lookups.{Sibling, siblings}
use Rattle.bi_blob.specs.Tree.{FileNode}
use Rattle.bi_coverage.specs.Coverage.{signature_coverage}
use Rattle.bi_coverage.specs.Signatures.{is_signed}
use Rattle.bi_coverage.specs.Values.{meaning_of_node, meaning_of_sibling, signature_concern}
use Rattle.bi_coverage.specs.declared.concern.SignatureConcern.{SignatureConcern}
use Rattle.bi_fdt.specs.Content.{root_of}
use Rattle.bi_fdt.specs.Views.{node_of}
use Rattle.bi_fit.specs.Content.{tree_of}
use Rattle.bi_fit.specs.Siblings.{siblings_left}
use Rattle.bi_common.specs.Json.{Json}
use Rattle.bi_common.specs.JsonTokens.{json_tokens, value_tokens}
use Rattle.bi_report.proofs.PutInTurn.{put_begins, put_goes_on}
use Rattle.bi_show.specs.ShownObjects.{has_no_concern, is_signed_node, signature_object, signed_node_object}
use Rattle.bi_show.proofs.ShownSignatures.{coverage_of_children, first_and_others}
use Rattle.bi_show.proofs.SignedObjects.{coverage_after_signed, coverage_after_unsigned, coverage_is_left, object_of_first}
use Rattle.bi_show.proofs.SignedObjects.{objects_after, objects_from_first}
use Rattle.bi_show.proofs.show.json.configurations.put_signature_objects.Goals as goal

pub loop-child-init : goal.loop-child-init
loop-child-init g c =
    let content = c.args.fit.now in
    let entry = node_of c.args.node in
    let object = signed_node_object content.blob.file (root_of content.blob) (tree_of content) entry in
    let start : siblings_left c.into_iter-child-iterator.result ≡ siblings entry.children =
    ap siblings_left c.into_iter-child-iterator.ensures.into_iter_gives ∙ c.children-child-items.ensures in
    record {
      are_put = put_begins g.J.JsonPen.puts g.met.J.JsonPen.puts_nothing c.args.json.now _ _
          (ap (λ l. value_tokens (map object (filter is_signed_node l))) start);
      covered = c.requires.covered ∙ coverage_of_children content entry
          ∙ ap (λ l. map (signature_coverage content (meaning_of_node c.args.node)) (filter is_signed (map meaning_of_sibling l)))
          (sym start);
    }

pub unreachable-requires : goal.unreachable-requires
unreachable-requires g c =
    coverage_is_left c.args.fit.now (node_of c.args.node) (node_of c.in-Some.child) _ (siblings_left c.next.new.self) c.loop-child.left.now
    c.in-Some.ensures.steps c.loop-child.invariant.covered (sym c.is_signed.ensures ∙ c.if-is_signed.true) c.in_default.len_below

pub loop-child-preserved-then-is_signed : goal.loop-child-preserved-then-is_signed
loop-child-preserved-then-is_signed g c =
    let content = c.args.fit.now in
    let entry = node_of c.args.node in
    let child = node_of c.in-Some.child in
    let later = siblings_left c.next.new.self in
    let left = c.loop-child.left.now in
    let first = c.covered-item.result in
    let object = signed_node_object content.blob.file (root_of content.blob) (tree_of content) entry in
    let signed : is_signed_node child ≡ true = sym c.is_signed.ensures ∙ c.if-is_signed.true in
    let parts = first_and_others left first c.in-len1-up.len_at_least c.covered-item.is in
    let covers : signature_object child c.is_covering.result ≡ object child =
    ap (signature_object child)
    (c.is_covering.ensures ∙ ap (λ (l : List SignatureConcern). has_no_concern (map signature_concern l)) c.deref.ensures.value)
    ∙ object_of_first content entry child _ later left c.in-Some.ensures.steps c.loop-child.invariant.covered first _ signed parts in
    record {
      are_put =
          put_goes_on g.J.JsonPen.puts g.met.J.JsonPen.puts_in_turn c.args.json.now c.loop-child.json c.put_signature_object.new.json
          (json_tokens (object child)) (value_tokens (map object (filter is_signed_node later))) _ _ c.loop-child.invariant.are_put
          (objects_from_first object child _ later c.in-Some.ensures.steps signed)
          (subst (λ (value : Json). g.J.JsonPen.puts c.loop-child.json (json_tokens value) c.put_signature_object.new.json) covers
          c.put_signature_object.ensures);
      covered = coverage_after_signed content entry child _ later left c.in-Some.ensures.steps c.loop-child.invariant.covered first _
          signed parts;
    }

pub loop-child-preserved : goal.loop-child-preserved
loop-child-preserved g c =
    let content = c.args.fit.now in
    let entry = node_of c.args.node in
    let child = node_of c.in-Some.child in
    let later = siblings_left c.next.new.self in
    let before = c.loop-child.invariant.are_put in
    let object = signed_node_object content.blob.file (root_of content.blob) (tree_of content) entry in
    let unsigned : is_signed_node child ≡ false = sym c.is_signed.ensures ∙ c.if-is_signed.false in
    record {
      are_put = record {
        done = before.done;
        are_put = before.are_put;
        parts = ap (λ rest. before.done ++ rest) (sym (objects_after object child _ later c.in-Some.ensures.steps unsigned)) ∙ before.parts;
      };
      covered =
          coverage_after_unsigned content entry child _ later c.loop-child.left.now c.in-Some.ensures.steps c.loop-child.invariant.covered
          unsigned;
    }
