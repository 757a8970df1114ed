use Rattle.std.proofs.Common.{subst, rules}
use Rattle.bi_norm.specs.declared.kind.Kind.{Kind}
use Rattle.bi_norm.specs.Kinds.{BeginsAs}
use Rattle.bi_common.specs.Offsets.{input_from}
use Rattle.bi_report.specs.ImageStarts.{ImageStartsModel}
use Rattle.bi_report.proofs.ImageStarts.{begins_at_first}
use Rattle.bi_report.proofs.scan.image_starts.ImageStartsIterator.next.Goals as goal

pub returns-clause-steps : goal.returns-clause-steps
returns-clause-steps c = record {
  is_left = search rules;
  within = search rules;
  no_start = search rules;
  begins = subst (λ (left : ImageStartsModel). (found : Kind) × BeginsAs (input_from c.min-offset.result left.input) found) c.self.view_is
      (begins_at_first _ c.self.inside.legacy c.self.inside.blob c.min-offset.result c.self.invariant c.min-offset.ensures
      c.if-offset-self.false);
  is_after = search rules;
}
