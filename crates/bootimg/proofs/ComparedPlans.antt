use Rattle.std.proofs.Common.{◌≡◌, ◌==◌, ℕ, Bool, true, false, true≢false, List, [], ◌∷◌, Option, None, Some, Result, IfErr, codes}
use Rattle.std.proofs.Common.{length, arith, refl, subst, subst₂}
use Rattle.std.specs.Prelude.{IfOk, string_bytes}
use Rattle.std.proofs.lemmas.Bool.{eqb-true}
use Rattle.bi_base.specs.Limits.{Limits}
use Rattle.bi_common.specs.declared.format.Format.{Format}
use Rattle.bi_describe.specs.MadeWords.{ignored_words}
use Rattle.bi_describe.specs.declared.compare.CompareError.{CompareError}
use Rattle.bi_describe.specs.declared.compare.Comparison.{Comparison}
use Rattle.bi_describe.specs.declared.ignored.Ignored.{Ignored}
use Rattle.clap.specs.declared.parser.matches.ArgMatches.{ArgMatches}
use Rattle.bootimg.specs.CommandLine.{IsComparePlan, IsImageSource, NamesAFile, NoneIs, option_of}
use Rattle.bootimg.specs.ComparedFiles.{IsCompareFailure, IsCompareOutput, IsFailureWithout, IsOutputWithout}
use Rattle.bootimg.specs.declared.command_line.source.ImageSource.{ImageSource}
use Rattle.bootimg.specs.declared.command_line.source.ImageSource.TheVariants.{File, Standard}

-- The plan of `compare`, and what is written by it.

-- What names standard input names no file.
only_input : (argument : Option (List ℕ)) (source : ImageSource) → IsImageSource argument Standard → IsImageSource argument source →
    source ≡ Standard
only_input None Standard is also = refl
only_input None (File name) is also = absurd also
only_input (Some argument) Standard is also = refl
only_input (Some argument) (File name) is also = absurd (also.1 is)

-- Options that name standard input twice are no plan.
pub no_two_inputs : (options : ArgMatches) (one other : ImageSource) → IsImageSource (option_of options (codes "one")) one →
    IsImageSource (option_of options (codes "other")) other → one ≡ Standard → other ≡ Standard → NoneIs (IsComparePlan options)
no_two_inputs options one other of_one of_other is_one is_other plan is =
    subst₂ NamesAFile
    (only_input (option_of options (codes "one")) plan.one
    (subst (λ (s : ImageSource). IsImageSource (option_of options (codes "one")) s) is_one of_one) is.one)
    (only_input (option_of options (codes "other")) plan.other
    (subst (λ (s : ImageSource). IsImageSource (option_of options (codes "other")) s) is_other of_other) is.other)
    is.names_a_file

module _ (quiet deep : Bool) (format : Format) (limits : Limits) (one other : List ℕ) (result : Result Comparison CompareError) where
  -- If nothing is left out, all is compared.
  pub output_of_all : (words : List Ignored) → (length words == 0) ≡ true →
      IfOk result (λ comparison. IsCompareOutput [] quiet deep format limits one other comparison.same
      (string_bytes comparison.differences)) →
      IfOk result (λ comparison. IsCompareOutput (ignored_words words) quiet deep format limits one other comparison.same
      (string_bytes comparison.differences))
  output_of_all [] none holds = holds
  output_of_all (word ∷ words) none holds = absurd (let e = eqb-true (length (word ∷ words)) 0 none in omega (arith, e))

  pub failure_of_all : (words : List Ignored) → (length words == 0) ≡ true →
      IfErr result (IsCompareFailure [] quiet deep limits one other) →
      IfErr result (IsCompareFailure (ignored_words words) quiet deep limits one other)
  failure_of_all [] none holds = holds
  failure_of_all (word ∷ words) none holds = absurd (let e = eqb-true (length (word ∷ words)) 0 none in omega (arith, e))

  -- If something is left out, what stays is compared.
  pub output_without : (words given : List Ignored) → (length words == 0) ≡ false → given ≡ words →
      IfOk result (λ comparison.
      IsOutputWithout deep (record { words = ignored_words given; quiet = quiet; format = format }) limits one other comparison.same
      (string_bytes comparison.differences)) →
      IfOk result (λ comparison. IsCompareOutput (ignored_words words) quiet deep format limits one other comparison.same
      (string_bytes comparison.differences))
  output_without [] given some same holds = absurd (true≢false some)
  output_without (word ∷ words) given some same holds =
      subst (λ (w : List Ignored). IfOk result (λ comparison.
      IsOutputWithout deep (record { words = ignored_words w; quiet = quiet; format = format }) limits one other comparison.same
      (string_bytes comparison.differences))) same holds

  pub failure_without : (words : List Ignored) → (length words == 0) ≡ false → IfErr result (IsFailureWithout deep limits one other) →
      IfErr result (IsCompareFailure (ignored_words words) quiet deep limits one other)
  failure_without [] some holds = absurd (true≢false some)
  failure_without (word ∷ words) some holds = holds
