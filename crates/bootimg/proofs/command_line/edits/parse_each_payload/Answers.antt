use Rattle.std.proofs.Common.{Bor, List, ℕ, [], get_or, subst, take_all}
use Rattle.std.specs.List.{AllZip}
use Rattle.bi_edit.specs.declared.words.PayloadWord.{PayloadWord}
use Rattle.bi_edit.specs.EditWords.{IsPayloadWord}
use Rattle.bootimg.specs.EditOptions.{IsNewPayload}
use Rattle.bootimg.specs.CommandLine.{IsBadValue, texts_of}
use Rattle.bootimg.specs.declared.failure.Failure.TheVariants.{BadValue}
use Rattle.bootimg.proofs.CommandLines.{fails_with, none_given, ok_or_failed, ok_or_is}
use Rattle.bootimg.proofs.EditPlans.{none_of_words, memory_failure, words_next}
use Rattle.bootimg.proofs.command_line.edits.parse_each_payload.Goals as goal

-- What a list of words gives past its end.
abbrev no_word : Bor (List ℕ)
no_word = record { ref_ptr = (0, 0); now = [] }

pub loop-word-init : goal.loop-word-init
loop-word-init c = rw (c.in_ok-payloads.ensures.items) tt

pub returns-in_err-found-clause-failure : goal.returns-in_err-found-clause-failure
returns-in_err-found-clause-failure c =
    memory_failure (IsBadValue (AllZip IsNewPayload (texts_of c.args.words.now))) c.from_residual-in_err-found.result
    c.in_err-found.field-0.0 c.from_residual-in_err-found.ensures.1 c.in_err-found.ensures.failed

pub returns-in_err-payload-clause-failure : goal.returns-in_err-payload-clause-failure
returns-in_err-payload-clause-failure c =
    let words = c.args.words.now in
    let index = c.loop-word.word-index in
    let word = (get_or words index no_word).now in
    let failed = ok_or_failed c.in_ok-found.found BadValue c.in_err-payload.field-0.0 c.ok_or.result c.ok_or.ensures.value
    c.in_err-payload.was in
    let none = none_given c.in_ok-found.found ((image file : List ℕ) → IsPayloadWord word image file → ⊥) c.in_ok-found.ensures.none
    failed.0 in
    fails_with (IsBadValue (AllZip IsNewPayload (texts_of words))) c.from_residual-in_err-payload.result c.in_err-payload.field-0.0
    c.from_residual-in_err-payload.ensures.1 (
      failed.1,
      none_of_words IsNewPayload words index no_word c.loop-word-test.true
          (λ (payload : PayloadWord) is. none payload.image payload.file.now is),
    )

pub loop-word-preserved : goal.loop-word-preserved
loop-word-preserved c =
    let words = c.args.words.now in
    let index = c.loop-word.word-index in
    words_next IsNewPayload words index no_word c.loop-word.payloads.items c.push.new.self.items c.in_ok-payload.payload
    c.loop-word-test.true c.loop-word.invariant c.in_ok-push.ensures.items
    (ok_or_is (IsNewPayload (get_or words index no_word).now) c.in_ok-found.found BadValue c.ok_or.result c.in_ok-payload.payload
    c.ok_or.ensures.value c.in_ok-payload.was c.in_ok-found.ensures.some)

pub returns-clause-payloads : goal.returns-clause-payloads
returns-clause-payloads c =
    subst (λ words. AllZip IsNewPayload (texts_of words) c.loop-word.payloads.items)
    (take_all c.loop-word.word-index c.args.words.now c.loop-word-test.false) c.loop-word.invariant
