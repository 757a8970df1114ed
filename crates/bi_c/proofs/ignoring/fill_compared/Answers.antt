use Rattle.std.proofs.Common.{false, refl, string_bytes, subst, sym}
use Rattle.bi_describe.specs.IgnoredWords.{AreWordsOfValues}
use Rattle.bi_describe.specs.MadeWords.{ignored_words}
use Rattle.bi_c.specs.declared.failure.Failure.TheVariants.{WrongArgument}
use Rattle.bi_c.specs.Answers.{FilledNothing}
use Rattle.bi_c.specs.Calls.{failure_of_compare_error, flag}
use Rattle.bi_c.specs.IgnoringCalls.{AreComparedAs, IsErrorAs, IsIgnoringFailure, IsWithoutWords, pieces_in}
use Rattle.bi_c.proofs.CallAnswers.{not_so, is_so, made_fills}
use Rattle.bi_c.proofs.IgnoringFiles.{words_failed, not_without_words, without_words}
use Rattle.bi_c.specs.declared.argument.Argument.TheVariants.{Words}
use Rattle.bi_c.specs.Checks.{LimitsCheck}
use Rattle.bi_c.specs.PieceBuilding.{IsPieceInside}
use Rattle.bi_c.proofs.CheckFacts.{before_array_is_wrong, limits_are_wrong}
use Rattle.bi_c.proofs.ignoring.fill_compared.Goals as goal

pub returns-in_default : goal.returns-in_default
returns-in_default c =
    let files = c.args.files in
    FilledNothing (WrongArgument c.wrong_limit.result 0)
    (before_array_is_wrong (LimitsCheck files.limit files.depth) Words (IsPieceInside files.input.now) files.words.now _ 0
    (limits_are_wrong files.limit files.depth _ c.wrong_limit.ensures (not_so _ c.in_default.ensures.in_range)))
    refl c.fail.ensures.answer c.fail.ensures.status

pub returns-in-Err : goal.returns-in-Err
returns-in-Err c =
    let files = c.args.files in
    FilledNothing c.in-Err.failure
    (words_failed (AreComparedAs c.args.deep) (IsErrorAs c.args.deep) files.limit files.depth files.input.now files.words.now
    files.one.now files.other.now (is_so _ c.in-Some.ensures.in_range) c.in-Err.failure c.in-Err.ensures.failed)
    refl c.fail-in-Err.ensures.answer c.fail-in-Err.ensures.status

pub returns : goal.returns
returns c =
    let files = c.args.files in
    let one = files.one.now in
    let other = files.other.now in
    let input = files.input.now in
    let regions = files.words.now in
    let limits = c.in-Some.limits in
    let words = ignored_words c.deref.result.now in
    let in_range = is_so _ c.in-Some.ensures.in_range in
    let AreCompared = AreComparedAs c.args.deep in
    let HasError = IsErrorAs c.args.deep in
    let are : AreWordsOfValues (pieces_in input regions) words =
    subst (λ items. AreWordsOfValues (pieces_in input regions) (ignored_words items)) (sym c.deref.ensures.value) c.in-Ok.ensures.words in
    made_fills
    (λ compared. AreCompared (record { words = words; quiet = false; format = c.args.format }) limits one other compared.same
    (string_bytes compared.differences))
    (HasError limits one other) (λ compared. string_bytes compared.differences) (λ compared. flag compared.same)
    failure_of_compare_error (IsWithoutWords AreCompared c.args.format files.limit files.depth input regions one other)
    (IsIgnoringFailure HasError files.limit files.depth input regions one other) _ _ _ _ _
    (λ compared is. without_words AreCompared HasError files.limit files.depth input regions one other in_range limits words
    c.in-Ok.ensures.inside c.in-Some.ensures.value are c.args.format compared.same (string_bytes compared.differences) is)
    (λ error is. not_without_words AreCompared HasError files.limit files.depth input regions one other in_range limits words
    c.in-Ok.ensures.inside c.in-Some.ensures.value are error is)
    c.compare_files-compared.ensures.compared c.compare_files-compared.ensures.failed c.fill_comparison.ensures
