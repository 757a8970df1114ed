use Rattle.std.proofs.lemmas.Result.{err_from_is_err_and}
use Rattle.bi_norm.specs.Reading.{meaning_of}
use Rattle.bi_describe.specs.MadeInsides.{is_one_of_places}
use Rattle.bi_describe.specs.MadeWords.{ignored_words}
use Rattle.bi_describe.specs.OpenedPayloads.{tree_at_without}
use Rattle.bi_describe.specs.ReducedMeanings.{meaning_without}
use Rattle.bi_describe.proofs.DeepComparisons.{deep_error_of_one, deep_error_of_other, described_deep}
use Rattle.bi_describe.proofs.compare.deep.compare_deep_without.Goals as goal

pub returns-in_err-deep-clause-failed : goal.returns-in_err-deep-clause-failed
returns-in_err-deep-clause-failed c =
    let p = err_from_is_err_and c.from_residual.result c.from_residual.ensures.1 in
    rw (p.1, p.2) (deep_error_of_one c.args.limits (meaning_of c.args.image.now) (meaning_of c.args.other.now) _
    c.in_err-deep.ensures.failed)

pub returns-in_err-other_deep-clause-failed : goal.returns-in_err-other_deep-clause-failed
returns-in_err-other_deep-clause-failed c =
    let p = err_from_is_err_and c.from_residual-in_err-other_deep.result c.from_residual-in_err-other_deep.ensures.1 in
    rw (p.1, p.2) (deep_error_of_other c.args.limits (meaning_of c.args.image.now) (meaning_of c.args.other.now) _
    (described_deep c.args.limits (meaning_of c.args.image.now) _ c.in_ok-deep.ensures.described)
    c.in_err-other_deep.ensures.failed)

pub compare_kept-requires-clause-ascii : goal.compare_kept-requires-clause-ascii
compare_kept-requires-clause-ascii c =
    let first = c.in_ok-deep.ensures.described in
    let words = ignored_words c.args.options.words.now in
    let kept = c.in_ok-kept.ensures _ first.holds in
    record {
      meaning = meaning_without words (meaning_of c.args.image.now);
      trees = tree_at_without words first.insides;
      is_kept = kept.is_kept;
      are_held = kept.are_held;
      ascii = c.kept_deep_is_ascii.ensures words first.insides (is_one_of_places c.deref.result.now) first.are_inside;
    }

pub compare_kept-requires-clause-other_ascii : goal.compare_kept-requires-clause-other_ascii
compare_kept-requires-clause-other_ascii c =
    let second = c.in_ok-other_deep.ensures.described in
    let words = ignored_words c.args.options.words.now in
    let kept = c.in_ok-other_kept.ensures _ second.holds in
    record {
      meaning = meaning_without words (meaning_of c.args.other.now);
      trees = tree_at_without words second.insides;
      is_kept = kept.is_kept;
      are_held = kept.are_held;
      ascii = c.kept_deep_is_ascii-2.ensures words second.insides (is_one_of_places c.deref.result.now) second.are_inside;
    }

pub returns-clause-compared : goal.returns-clause-compared
returns-clause-compared c =
    let first = c.in_ok-deep.ensures.described in
    let second = c.in_ok-other_deep.ensures.described in
    record {
      are = record {
        first = described_deep c.args.limits (meaning_of c.args.image.now) _ first;
        second = described_deep c.args.limits (meaning_of c.args.other.now) _ second;
      };
      differs = c.in_ok-compare_kept.ensures _ _ (c.in_ok-kept.ensures _ first.holds) (c.in_ok-other_kept.ensures _ second.holds)
          (rw c.deref.ensures.value
          (c.in_ok-opened.ensures first.insides second.insides first.holds.are_held second.holds.are_held));
    }
