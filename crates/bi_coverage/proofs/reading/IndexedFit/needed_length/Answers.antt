use Rattle.std.proofs.Common.{◌≡◌, ◌<◌, ◌≤◌, ℕ, ap, subst}
use Rattle.std.specs.Prelude.{IfErr}
use Rattle.bi_base.specs.Reading.{too_large}
use Rattle.bi_base.specs.Slices.{bytes_of}
use Rattle.bi_base.proofs.Refusals.{fault_passed_on}
use Rattle.bi_fit.specs.Content.{tree_of}
use Rattle.bi_coverage.specs.IndexedFits.{IndexedFit}
use Rattle.bi_coverage.specs.Signatures.{parts_for, paths_of_parts, total_length}
use Rattle.bi_coverage.proofs.NeededLengths.{reference_added, reference_too_long}
use Rattle.bi_coverage.proofs.reading.IndexedFit.needed_length.Goals as goal

pub returns-in_err-length-3-clause-fault : goal.returns-in_err-length-3-clause-fault
returns-in_err-length-3-clause-fault c =
    let all = total_length (paths_of_parts
    (parts_for (tree_of c.args.self.now.content) c.args.name.now (bytes_of c.args.references.now))) in
    subst (λ (limit : ℕ). IfErr c.from_residual-in_err-length-3.result (λ fault. (fault ≡ too_large limit) × (limit < all)))
    (ap (λ (indexed : IndexedFit). indexed.limit) c.self.view_is)
    (fault_passed_on _ _ _ c.from_residual-in_err-length-3.ensures.1 (
      c.in_err-length-3.ensures.fault.0,
      reference_too_long (tree_of c.args.self.now.content) _ _ _ c.loop-image-test.true _ _ c.loop-image.invariant.is_length _
          c.covered_names.ensures _ c.in_err-length-3.ensures.fault.1,
    ))

pub loop-image-preserved : goal.loop-image-preserved
loop-image-preserved c = record {
  is_length = reference_added (tree_of c.args.self.now.content) _ _ _ c.loop-image-test.true _ _ c.loop-image.invariant.is_length _
      c.covered_names.ensures _ c.in_ok-length-3.ensures.sum;
  within = subst (λ (limit : ℕ). c.in_ok-length-3.length ≤ limit) (ap (λ (indexed : IndexedFit). indexed.limit) c.self.view_is)
      c.in_ok-length-3.ensures.within;
}
