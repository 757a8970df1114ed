use Rattle.std.proofs.Common.{◌≡◌, ◌==◌, ◌∙◌, ℕ, List, [], ◌∷◌, ◌++◌, map, length, ap, subst, sym, rules, tests}
use Rattle.std.specs.List.{AllZip, slice_split}
use Rattle.std.specs.Slice.Iter.{split_rest, split_done, split_callee}
use Rattle.std.proofs.lemmas.List.{map-append}
use Rattle.std.proofs.lemmas.Iterator.{YieldsList}
use Rattle.std.proofs.lemmas.Iterator.Consumers.{YieldsList-end, YieldsList-turn}
use Rattle.std.proofs.lemmas.Iterator.Splits.{YieldsList-from_slice_split}
use Rattle.bi_describe.specs.IgnoredWords.{IsPlainWord}
use Rattle.bi_describe.specs.Ignoring.{Ignored}
use Rattle.bi_describe.specs.MadeWords.{ignored_word, ignored_words}
use Rattle.bi_describe.proofs.ValueWords.{no_plain_among, one_more_plain}
use Rattle.bi_describe.proofs.ignored.plain_words.Given as given
use Rattle.bi_describe.proofs.ignored.plain_words.Goals as goal

pub loop-text-preserved : goal.loop-text-preserved
loop-text-preserved c =
    let texts : List (List ℕ) = map (λ it. it.now) c.loop-text.yielded in
    let text = c.in-Some.text.now in
    let word : Ignored = ignored_word c.in-Some-plain_word.word in
    subst (λ (all : List (List ℕ)). AllZip IsPlainWord all (ignored_words c.push.new.self.items))
    (sym (map-append (λ it. it.now) c.loop-text.yielded (c.in-Some.text ∷ [])))
    (subst (AllZip IsPlainWord (texts ++ text ∷ []))
    (sym (ap ignored_words c.in_ok-push.ensures.items ∙ map-append ignored_word c.loop-text.words.items (c.in-Some-plain_word.word ∷ [])))
    (one_more_plain texts (ignored_words c.loop-text.words.items) text word c.loop-text.invariant c.in-Some-plain_word.ensures.some))

pub returns-in_default-clause-none : goal.returns-in_default-clause-none
returns-in_default-clause-none c =
    let split = c.split-text-items.ensures in
    let gives = c.into_iter-text-iterator.ensures.into_iter_gives in
    let road : YieldsList (given.iterator-loop-text).next_gives (λ it. it.now) c.into_iter-text-iterator.result
    (slice_split (λ byte. byte == 44) c.args.value.now) =
    YieldsList-from_slice_split _ (λ (byte : ℕ). byte == 44) c.args.value.now (ap split_rest gives ∙ split.rest)
    (ap split_done gives ∙ split.done) (ap split_callee gives ∙ split.closure) (λ x r q k. search (rules, tests)) in
    let turn = YieldsList-turn road c.loop-text.yielded _ c.loop-text.yielded_by _ _ c.in-Some.text c.in-Some.is c.next.ensures.steps in
    no_plain_among (slice_split (λ byte. byte == 44) c.args.value.now) c.in-Some.text.now (length c.loop-text.yielded, turn.0, sym turn.1)
    c.in_default.ensures.none

pub returns-clause-some : goal.returns-clause-some
returns-clause-some c =
    let split = c.split-text-items.ensures in
    let gives = c.into_iter-text-iterator.ensures.into_iter_gives in
    let road : YieldsList (given.iterator-loop-text).next_gives (λ it. it.now) c.into_iter-text-iterator.result
    (slice_split (λ byte. byte == 44) c.args.value.now) =
    YieldsList-from_slice_split _ (λ (byte : ℕ). byte == 44) c.args.value.now (ap split_rest gives ∙ split.rest)
    (ap split_done gives ∙ split.done) (ap split_callee gives ∙ split.closure) (λ x r q k. search (rules, tests)) in
    let end = YieldsList-end road c.loop-text.yielded _ c.loop-text.yielded_by _ _ c.in-None.is c.next.ensures.steps in
    subst (λ (texts : List (List ℕ)). AllZip IsPlainWord texts (ignored_words c.loop-text.words.items)) end.0 c.loop-text.invariant
