use Rattle.std.proofs.Common.{inl, refl, sym, ◌∙◌, ap, subst, true≢false, map}
use Rattle.std.specs.List.{AllZip}
use Rattle.bi_blob.specs.Tree.{AreDistinct}
use Rattle.bi_edit.specs.declared.words.PayloadWord.{PayloadWord}
use Rattle.bootimg.specs.CommandLine.{IsBadValue, texts_of}
use Rattle.bootimg.specs.EditOptions.{ArePayloadWords, IsNewPayload}
use Rattle.bootimg.proofs.CommandLines.{outcome_weaker}
use Rattle.bootimg.proofs.PayloadPlans.{same_payload_images}
use Rattle.bootimg.proofs.command_line.edits.parse_payloads.Goals as goal

pub returns-in_err-payloads-clause-failure : goal.returns-in_err-payloads-clause-failure
returns-in_err-payloads-clause-failure c =
    let words = texts_of c.args.words.now in
    outcome_weaker (IsBadValue (AllZip IsNewPayload words)) (IsBadValue (ArePayloadWords words)) c.from_residual.result
    c.in_err-payloads.field-0.0 c.from_residual.ensures.1 c.in_err-payloads.ensures.failure
    (λ failure bad. (bad.0, λ payloads are. bad.1 payloads are.each))

pub returns-then-not-branch-clause-failure : goal.returns-then-not-branch-clause-failure
returns-then-not-branch-clause-failure c =
    let words = texts_of c.args.words.now in
    let parsed = c.in_ok-payloads.payloads.items in
    inl (
      refl,
      λ payloads are.
          let same = same_payload_images words payloads parsed are.each c.in_ok-payloads.ensures.payloads
          ∙ ap (map (λ (payload : PayloadWord). payload.image)) (sym c.deref.ensures.value) in
          true≢false (sym (c.in_ok-are_of_distinct_images.ensures.1 (subst AreDistinct same are.distinct)) ∙ c.if-not-branch.true),
    )
