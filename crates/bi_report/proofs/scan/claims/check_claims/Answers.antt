use Rattle.std.proofs.Common.{◌≡◌, ◌+◌, ap, ◌∙◌, arith}
use Rattle.bi_base.specs.Reading.{too_large}
use Rattle.bi_report.proofs.ScanClaims.{before_claims, all_claims_counted, counted_next, over_claims}
use Rattle.bi_report.proofs.scan.claims.check_claims.Goals as goal
use Rattle.bi_report.proofs.scan.claims.check_claims.Goals.{then-claim-gt0, else-claim-gt0}

pub returns-then-total-file-clause-fault : goal.returns-then-total-file-clause-fault
returns-then-total-file-clause-fault c =
    let is : c.file-then-total-file.result ≡ c.args.limits.file = c.file-then-total-file.ensures.value in
    let next = counted_next c.args.file.now c.image_at.result.now c.loop-offset.offset-iterator c.next.new.self c.loop-offset.total
    c.loop-offset.end c.in-Some.offset c.claim_of-claim.result c.if-claim-gt0.end c.loop-offset.invariant.counted c.in-Some.ensures.steps
    c.image_at.ensures c.claim_of-claim.ensures.claim (λ claims. elim c.if-claim-gt0.branch
    [ then-claim-gt0 w ↦ w.end-is | else-claim-gt0 w ↦ absurd (omega (arith, claims, w.if-claim-gt0)) ])
    (λ nothing. elim c.if-claim-gt0.branch
    [ then-claim-gt0 w ↦ absurd (omega (arith, nothing, w.if-claim-gt0)) | else-claim-gt0 w ↦ w.end-is ]) in
    rw c.refuse.ensures (
      ap too_large is,
      over_claims c.args.limits c.args.file.now c.next.new.self.from (c.loop-offset.total + c.claim_of-claim.result)
          (omega (arith, next.are_left, next.is_end)) next.counted (omega arith),
    )

pub loop-offset-init : goal.loop-offset-init
loop-offset-init c = record {
  counted = before_claims c.args.file.now _ (c.into_iter-offset-iterator.ensures.into_iter_gives ∙ c.new-offset-items.ensures);
  within = omega arith;
}

pub loop-offset-preserved : goal.loop-offset-preserved
loop-offset-preserved c = record {
  counted = counted_next c.args.file.now c.image_at.result.now c.loop-offset.offset-iterator c.next.new.self c.loop-offset.total
      c.loop-offset.end c.in-Some.offset c.claim_of-claim.result c.if-claim-gt0.end c.loop-offset.invariant.counted c.in-Some.ensures.steps
      c.image_at.ensures c.claim_of-claim.ensures.claim (λ claims. elim c.if-claim-gt0.branch
      [ then-claim-gt0 w ↦ w.end-is | else-claim-gt0 w ↦ absurd (omega (arith, claims, w.if-claim-gt0)) ])
      (λ nothing. elim c.if-claim-gt0.branch
      [ then-claim-gt0 w ↦ absurd (omega (arith, nothing, w.if-claim-gt0)) | else-claim-gt0 w ↦ w.end-is ]);
  within = omega arith;
}

pub returns-clause-ok : goal.returns-clause-ok
returns-clause-ok c =
    (all_claims_counted c.args.limits c.args.file.now c.loop-offset.offset-iterator c.loop-offset.total c.loop-offset.end
    c.loop-offset.invariant.counted c.in-None.ensures.steps c.loop-offset.invariant.within).0

pub returns-clause-within : goal.returns-clause-within
returns-clause-within c = let counted = c.loop-offset.invariant.counted in omega (arith, counted.passed, counted.are_left, counted.is_end)

pub returns-clause-nothing : goal.returns-clause-nothing
returns-clause-nothing c =
    (all_claims_counted c.args.limits c.args.file.now c.loop-offset.offset-iterator c.loop-offset.total c.loop-offset.end
    c.loop-offset.invariant.counted c.in-None.ensures.steps c.loop-offset.invariant.within).1

pub returns-clause-last : goal.returns-clause-last
returns-clause-last c = c.loop-offset.invariant.counted.last
