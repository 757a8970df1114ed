use Rattle.std.proofs.Common.{◌≡◌, Bor, List, ℕ, [], get_or, take_all, ap, subst, sym, ◌∙◌, inl, refl, true, true≢false}
use Rattle.bi_blob.specs.Layout.{is_among}
use Rattle.bootimg.specs.CommandLine.{texts_of, IsBadValue, NoneIs}
use Rattle.bootimg.specs.ConfigurationWords.{name_of_word}
use Rattle.bootimg.specs.OwnTexts.{AreNamedTexts, IsNamedText}
use Rattle.bootimg.specs.declared.failure.Failure.TheVariants.{BadValue}
use Rattle.bootimg.proofs.CommandLines.{fails_with, none_given, ok_or_failed, ok_or_is}
use Rattle.bootimg.proofs.NamedTexts.{each_word, no_texts, named_texts_push}
use Rattle.bootimg.proofs.command_line.texts.parse_texts.Goals as goal

-- What a list of words gives past its end.
abbrev no_word : Bor (List ℕ)
no_word = record { ref_ptr = (0, 0); now = [] }

pub returns-in_err-named-clause-failure : goal.returns-in_err-named-clause-failure
returns-in_err-named-clause-failure c = λ held holds.
    let words = c.args.words.now in
    let index = c.loop-word.word-index in
    let failed = ok_or_failed c.parse_text.result BadValue c.in_err-named.field-0.0 c.ok_or.result
    c.ok_or.ensures.value c.in_err-named.was in
    fails_with (IsBadValue (AreNamedTexts held (texts_of words))) c.from_residual-in_err-named.result c.in_err-named.field-0.0
    c.from_residual-in_err-named.ensures.1 (
      failed.1,
      no_texts held words index no_word c.loop-word-test.true
          (none_given c.parse_text.result (NoneIs (IsNamedText (get_or words index no_word).now)) c.parse_text.ensures.none failed.0),
    )

pub returns-then-not-contains-clause-failure : goal.returns-then-not-contains-clause-failure
returns-then-not-contains-clause-failure c = λ held holds.
    let words = c.args.words.now in
    let index = c.loop-word.word-index in
    let word = (get_or words index no_word).now in
    let is = ok_or_is (IsNamedText word) c.parse_text.result BadValue c.ok_or.result c.in_ok-named.named c.ok_or.ensures.value
    c.in_ok-named.was c.parse_text.ensures.some in
    inl (
      refl,
      λ texts are.
          let known = each_word (λ word. is_among (name_of_word word) held ≡ true) words index no_word c.loop-word-test.true are.known in
          true≢false (sym known ∙ ap (λ name. is_among name held) (sym is.name) ∙ sym (holds.each c.in_ok-named.named.name)
          ∙ sym c.contains.ensures ∙ c.if-not-contains.true),
    )

pub loop-word-preserved : goal.loop-word-preserved
loop-word-preserved c = λ held holds.
    let words = c.args.words.now in
    let index = c.loop-word.word-index in
    let word = (get_or words index no_word).now in
    let is = ok_or_is (IsNamedText word) c.parse_text.result BadValue c.ok_or.result c.in_ok-named.named c.ok_or.ensures.value
    c.in_ok-named.was c.parse_text.ensures.some in
    named_texts_push held words index no_word c.loop-word.texts.items c.push.new.self.items c.in_ok-named.named c.loop-word-test.true
    (c.loop-word.invariant held holds) c.in_ok-push.ensures.items is
    (ap (λ name. is_among name held) (sym is.name) ∙ sym (holds.each c.in_ok-named.named.name) ∙ sym c.contains.ensures
    ∙ c.if-not-contains.false)

pub returns-clause-texts : goal.returns-clause-texts
returns-clause-texts c = λ held holds.
    subst (λ words. AreNamedTexts held (texts_of words) c.loop-word.texts.items)
    (take_all c.loop-word.word-index c.args.words.now c.loop-word-test.false) (c.loop-word.invariant held holds)
