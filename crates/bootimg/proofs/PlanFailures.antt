use Rattle.std.proofs.Common.{◌≡◌, ℕ, List, Option, codes, subst, sym, inl, inr}
use Rattle.bi_norm.specs.FitBuilding.{names_of_specs}
use Rattle.bi_norm.specs.declared.fit_building.ImageSpec.{ImageSpec}
use Rattle.bi_norm.specs.declared.fit_building.ImageTexts.{ImageTexts}
use Rattle.bootimg.specs.CommandLine.{option_of, value_of, values_of, AreImages, HasFitValues, IsBadConfiguration, IsBadImage, IsBadValue}
use Rattle.bootimg.specs.CommandLine.{AreOwnTexts, IsFormFailure}
use Rattle.bootimg.specs.CommandLine.{IsFirstBad, IsFitPlanFailure}
use Rattle.bootimg.specs.ConfigurationWords.{AreHashes, IsDefault, IsFirstBadConfiguration}
use Rattle.bootimg.specs.Numbers.{IsNumber}
use Rattle.bootimg.specs.declared.command_line.part.PartSource.{PartSource}
use Rattle.bootimg.specs.declared.failure.Failure.{Failure}
use Rattle.bootimg.specs.declared.failure.Failure.TheVariants as failed
use Rattle.clap.specs.declared.parser.matches.ArgMatches.{ArgMatches}

-- What each failure of a part of the options of `build-fit` is of the whole.

module _ (options : ArgMatches) where
  -- A bad value.
  pub bad_time : (failure : Failure) → IsBadValue (IsNumber (value_of options (codes "time") (codes "0"))) failure →
      IsFitPlanFailure options failure
  bad_time failure bad = subst (IsFitPlanFailure options) (sym bad.0) (inl (λ (has : HasFitValues options). bad.1 has.time has.is_time))

  pub bad_default : (words : List (List ℕ)) (failure : Failure) → words ≡ values_of options (codes "config") →
      IsBadValue (IsDefault words (option_of options (codes "default"))) failure → IsFitPlanFailure options failure
  bad_default words failure same bad =
      subst (IsFitPlanFailure options) (sym bad.0) (inl (λ (has : HasFitValues options).
      bad.1 has.default (subst (λ w. IsDefault w (option_of options (codes "default")) has.default) (sym same) has.is_default)))

  pub bad_form : (failure : Failure) → IsFormFailure options failure → IsFitPlanFailure options failure
  bad_form failure bad = subst (IsFitPlanFailure options) (sym bad.0) (inr bad.1)

  pub bad_hashes : (failure : Failure) → IsBadValue (AreHashes (option_of options (codes "hash"))) failure →
      IsFitPlanFailure options failure
  bad_hashes failure bad =
      subst (IsFitPlanFailure options) (sym bad.0) (inl (λ (has : HasFitValues options). bad.1 has.algorithms has.are_algorithms))

  pub bad_own_texts : (failure : Failure) → IsBadValue (AreOwnTexts options) failure → IsFitPlanFailure options failure
  bad_own_texts failure bad =
      subst (IsFitPlanFailure options) (sym bad.0) (inl (λ (has : HasFitValues options). bad.1 has.own_texts has.are_own_texts))

  -- A bad image.
  pub bad_image : (words : List (List ℕ)) (failure : Failure) → HasFitValues options → words ≡ values_of options (codes "images") →
      IsBadImage words failure → IsFitPlanFailure options failure
  bad_image words (failed.BadImage index) has same bad = (has, subst (λ w. IsFirstBad w index) same bad)
  bad_image words other has same bad = absurd bad

  -- A bad configuration.
  module _ (images : List ImageSpec) (texts : List (Option ImageTexts)) (payloads : List PartSource) (words : List (List ℕ)) where
    pub bad_configuration : (failure : Failure) → HasFitValues options →
        AreImages (values_of options (codes "images")) images texts payloads → words ≡ values_of options (codes "config") →
        IsBadConfiguration (names_of_specs images) words failure → IsFitPlanFailure options failure
    bad_configuration (failed.BadConfiguration index) has are same bad = (
      has,
      record {
        images = images;
        texts = texts;
        payloads = payloads;
        are_images = are;
        first_bad = subst (λ w. IsFirstBadConfiguration (names_of_specs images) w index) same bad;
      },
    )
    bad_configuration other has are same bad = absurd bad
