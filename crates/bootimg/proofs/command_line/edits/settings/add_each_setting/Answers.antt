use Rattle.std.proofs.Common.{◌∙◌, Bor, List, ℕ, [], ◌∷◌, ◌++◌, ap, get_or, inl, refl, subst, take_all}
use Rattle.std.proofs.lemmas.List.{append_assoc}
use Rattle.std.specs.List.{AllZip}
use Rattle.bi_common.proofs.UnshownNames.{some_holds}
use Rattle.bootimg.specs.EditOptions.{IsSetWord}
use Rattle.bootimg.specs.CommandLine.{IsBadValue, NoneIs, texts_of}
use Rattle.bootimg.proofs.CommandLines.{none_given}
use Rattle.bootimg.proofs.EditPlans.{none_of_words, memory_failure, words_next}
use Rattle.bootimg.proofs.command_line.edits.settings.add_each_setting.Goals as goal

-- What a list of words gives past its end.
abbrev no_word : Bor (List ℕ)
no_word = record { ref_ptr = (0, 0); now = [] }

pub returns-in_err-edit-clause-failure : goal.returns-in_err-edit-clause-failure
returns-in_err-edit-clause-failure c =
    memory_failure (IsBadValue (AllZip IsSetWord (texts_of c.args.words.now))) c.from_residual.result c.in_err-edit.field-0.0
    c.from_residual.ensures.1 c.in_err-edit.ensures.failed

pub returns-in_default-clause-failure : goal.returns-in_default-clause-failure
returns-in_default-clause-failure c =
    let words = c.args.words.now in
    let index = c.loop-word.word-index in
    inl (
      refl,
      none_of_words IsSetWord words index no_word c.loop-word-test.true
          (none_given c.in_ok-edit.field-0 (NoneIs (IsSetWord (get_or words index no_word).now)) c.in_ok-edit.ensures.none c.in_default.is),
    )

pub loop-word-preserved : goal.loop-word-preserved
loop-word-preserved c =
    let words = c.args.words.now in
    let index = c.loop-word.word-index in
    let edit = c.in-Some.edit in
    let so_far = c.loop-word.invariant in
    let is = some_holds (IsSetWord (get_or words index no_word).now) c.in_ok-edit.field-0 edit c.in-Some.is c.in_ok-edit.ensures.some in (
      so_far.0 ++ edit ∷ [],
      c.in_ok-push.ensures.items ∙ ap (λ l. l ++ edit ∷ []) so_far.1 ∙ append_assoc c.args.edits.now.items so_far.0 (edit ∷ []),
      words_next IsSetWord words index no_word so_far.0 (so_far.0 ++ edit ∷ []) edit c.loop-word-test.true so_far.2 refl is,
    )

pub returns-clause-added : goal.returns-clause-added
returns-clause-added c =
    let so_far = c.loop-word.invariant in (
      so_far.0,
      so_far.1,
      subst (λ words. AllZip IsSetWord (texts_of words) so_far.0)
          (take_all c.loop-word.word-index c.args.words.now c.loop-word-test.false) so_far.2,
    )
