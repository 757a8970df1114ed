use Rattle.std.proofs.Common.{List, [], ℕ, get_or, arith, subst, sym}
use Rattle.std.specs.Borrow.{Bor}
use Rattle.bi_common.specs.MadeFields.{bytes_of_names}
use Rattle.bi_common.proofs.UnshownNames.{some_holds}
use Rattle.bi_values.proofs.ValueWords.{none_holds}
use Rattle.bi_describe.specs.IgnoredWords.{AreWordsOfValue, IsFirstBadIgnored}
use Rattle.bi_describe.specs.MadeWords.{ignored_words}
use Rattle.bi_describe.proofs.ValueWords.{first_bad_value, values_next}
use Rattle.bi_describe.proofs.ignored.Ignored.parse_all.Goals as goal

pub loop-value-preserved : goal.loop-value-preserved
loop-value-preserved c =
    let d : Bor (List ℕ) = record { ref_ptr = (0, 0); now = [] } in
    let values = c.args.values.now in
    let index = c.loop-value.value-index in
    record {
      counted = omega (arith, c.loop-value.invariant.counted);
      words = values_next values index d (ignored_words c.loop-value.all.items) _ _ c.loop-value-test.true c.loop-value.invariant.words
          (some_holds (λ words. AreWordsOfValue (get_or values index d).now (ignored_words words.items)) _ c.in-Some.words c.in-Some.is
          c.in_ok-words.ensures.some)
          c.in_ok-append_words.ensures;
    }

pub returns-in_default-clause-failed : goal.returns-in_default-clause-failed
returns-in_default-clause-failed c =
    let d : Bor (List ℕ) = record { ref_ptr = (0, 0); now = [] } in
    let values = c.args.values.now in
    let index = c.loop-value.value-index in
    subst (IsFirstBadIgnored (bytes_of_names values)) (sym c.loop-value.invariant.counted)
    (first_bad_value values index d (ignored_words c.loop-value.all.items) c.loop-value-test.true c.loop-value.invariant.words
    (none_holds _ _ c.in_default.is c.in_ok-words.ensures.none))
