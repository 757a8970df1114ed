use Rattle.std.proofs.Common.{◌≡◌, ◌≢◌, ◌∙◌, ◌<◌, ℕ, suc, zero, false, true, List, [], ◌∷◌, Option, None, Some}
use Rattle.std.proofs.Common.{codes, length, map, lit<, lit≤, ◌⊎◌, inl, inr, ap, refl, sym, subst, subst₂, arith, slice_get, true≢false}
use Rattle.std.specs.Global.{Vec}
use Rattle.std.specs.List.{AllZip}
use Rattle.std.specs.Ptr.{null_ptr}
use Rattle.bi_base.specs.Limits.{Limits, widest}
use Rattle.bi_base.proofs.EqualBytes.{other_bytes}
use Rattle.bi_commands.specs.KnownChoices.{lent}
use Rattle.bi_fit.specs.declared.form.Form.TheVariants.{Embedded}
use Rattle.bi_hash.specs.declared.algo.Algo.TheVariants.{Sha256}
use Rattle.bi_norm.specs.FitBuilding.{names_of_specs}
use Rattle.clap.specs.declared.parser.matches.ArgMatches.{ArgMatches}
use Rattle.clap.specs.Simple.{subcommand_of}
use Rattle.clap.specs.Walk.{first_of, one_of}
use Rattle.clap.proofs.OnLiterals.{clap_on_literals}
use Rattle.bootimg.specs.CommandLine.{AreOwnTexts, HasFitValues, HasNoForm, IsBadPlan, IsEditPlanFailure, NoForm}
use Rattle.bootimg.specs.CommandLine.{IsFirstBad, IsFitPlanFailure, IsForm, IsFormWith, IsImageText, IsLimits}
use Rattle.bootimg.specs.CommandLine.{IsTaskFailure, NoneIs, NotAllowed, NotCompared, NotExplained, NotFit, NotFormed}
use Rattle.bootimg.specs.CommandLine.{NotLegacy, NotLimited, NotNamed, NotPlaced, NotSelected, NotShown, align_option}
use Rattle.bootimg.specs.CommandLine.{AsksForEdits, AsksForHashes, AsksForNoEdit, AsksForPayloads, AsksForTime, AsksToKeepForm}
use Rattle.bootimg.specs.CommandLine.{AsksToRemove, AsksToSet}
use Rattle.bootimg.specs.CommandLine.{Gives, IsFlag, NotEdited, external_flag, keep_form_flag}
use Rattle.bootimg.specs.CommandLine.{hashes_flag, limit_of, option_of, value_of, values_of}
use Rattle.bootimg.specs.ConfigurationWords.{AreHashes, IsDefault, IsFirstBadConfiguration, name_of_word}
use Rattle.bootimg.specs.KnownBuildRequests.{FirstFailuresAreKnown, IsTheOne, text_for_name}
use Rattle.bootimg.specs.Numbers.{IsNumber}
use Rattle.bootimg.specs.OwnTexts.{AreDescriptions, AreNamedTexts}
use Rattle.bootimg.specs.KnownWords.{words_of_line}
use Rattle.bootimg.specs.Program.{program_app}
use Rattle.bootimg.specs.Words.{parts_of}
use Rattle.bootimg.specs.declared.codes.CodeField.TheVariants.{Os, Arch, ImageType, Compression}
use Rattle.bootimg.specs.declared.command_line.image.ImageWord.{ImageWord}
use Rattle.bootimg.specs.declared.command_line.part.PartSource.TheVariants as part
use Rattle.bootimg.specs.declared.command_line.texts.NamedText.{NamedText}
use Rattle.bootimg.specs.declared.command_line.texts.OwnTexts.{OwnTexts}
use Rattle.bootimg.specs.declared.failure.Failure.{Failure}
use Rattle.bootimg.specs.declared.failure.Failure.TheVariants.{BadConfiguration, BadImage, BadValue, NoChange}
use Rattle.bootimg.proofs.ArgumentFacts.{code_with_name, decimal_digits, is_no_number}
use Rattle.bootimg.proofs.BuildRequestFacts.{first_is_bad, no_first_word, unknown_md4, vec_of, without_list}
use Rattle.bootimg.proofs.OptionFacts.{found_values, values_in}
use Rattle.bootimg.proofs.RequestFacts.{flag_is, not_given_and_missing, option_is, rows_given}
use Rattle.bootimg.proofs.RequestFacts.{value_is}
use Rattle.bootimg.proofs.TaskNames.{no_task_updates, not_a_task}

-- Which of two failures small command lines have is known.

-- ---- words of images

-- A word with fewer than eight fields is not an image.
few_fields : (text : List ℕ) → length (parts_of text) ≡ 1 → NoneIs (IsImageText text)
few_fields text one image is = omega (arith, one, ap (λ fields. length fields) is.1)

-- The image `k`, a kernel for Linux on ARM with 5 bytes of the input.
abbrev kernel_text : List ℕ
kernel_text = codes "k:kernel:arm:linux:none:-:-:5"

abbrev kernel_image : ImageWord
kernel_image = record {
  image = record {
    name = lent (codes "k");
    image_type = 2;
    arch = 2;
    os = 5;
    compression = 0;
    load = None;
    entry = None;
    payload = lent [];
  };
  texts = Some (record {
    image_type = lent (codes "kernel");
    arch = lent (codes "arm");
    os = lent (codes "linux");
    compression = lent (codes "none");
  });
  payload = part.Input 5;
}

kernel_is_image : IsImageText kernel_text kernel_image
kernel_is_image = (
  record {
    name = lent (codes "k");
    image_type = lent (codes "kernel");
    arch = lent (codes "arm");
    os = lent (codes "linux");
    compression = lent (codes "none");
    load = lent (codes "-");
    entry = lent (codes "-");
    length = lent (codes "5");
  },
  refl,
  record {
    name = refl;
    image_type = (code_with_name ImageType (codes "kernel") 2 refl).0;
    arch = (code_with_name Arch (codes "arm") 2 refl).0;
    os = (code_with_name Os (codes "linux") 5 refl).0;
    compression = (code_with_name Compression (codes "none") 0 refl).0;
    texts = refl;
    load = refl;
    entry = refl;
    payload = refl;
    source = (decimal_digits (codes "5") refl refl).0;
  },
)

-- If the first word is bad, it is the first bad one.
first_image_is_bad : (word : List ℕ) (later : List (List ℕ)) → NoneIs (IsImageText word) → IsTheOne (IsFirstBad (word ∷ later)) 0
first_image_is_bad word later none = (
  record { argument = word; is = refl; bad = none; before = λ other text below. absurd (omega (arith, below)) },
  only,
) where
  only : (index : ℕ) → IsFirstBad (word ∷ later) index → index ≡ 0
  only zero is = refl
  only (suc index) is = let good = is.before 0 word (omega arith) refl in absurd (none good.0 good.1)

-- If the first one is good and the second one is bad, that is the first bad one.
second_image_is_bad : (word other : List ℕ) (later : List (List ℕ)) (image : ImageWord) → IsImageText word image →
    NoneIs (IsImageText other) → IsTheOne (IsFirstBad (word ∷ other ∷ later)) 1
second_image_is_bad word other later image good none =
    (record { argument = other; is = refl; bad = none; before = before }, only) where
      before : (index : ℕ) (text : List ℕ) → index < 1 → slice_get (word ∷ other ∷ later) index ≡ Some text →
          (image : ImageWord) × IsImageText text image
      before zero text below is = let same : word ≡ text = cc in (image, subst (λ t. IsImageText t image) same good)
      before (suc index) text below is = absurd (omega (arith, below))

      only : (index : ℕ) → IsFirstBad (word ∷ other ∷ later) index → index ≡ 1
      only zero is =
          let given : slice_get (word ∷ other ∷ later) 0 ≡ Some is.argument = is.is in
          let same : word ≡ is.argument = cc in absurd (is.bad image (subst (λ t. IsImageText t image) same good))
      only (suc zero) is = refl
      only (suc (suc index)) is = let also = is.before 1 other (omega arith) refl in absurd (none also.0 also.1)

-- One good word is not bad.
none_is_bad : (word : List ℕ) (image : ImageWord) → IsImageText word image → NoneIs (IsFirstBad (word ∷ []))
none_is_bad word image good zero is =
    let given : slice_get (word ∷ []) 0 ≡ Some is.argument = is.is in
    let same : word ≡ is.argument = cc in
    is.bad image (subst (λ t. IsImageText t image) same good)
none_is_bad word image good (suc index) is =
    let given : None ≡ Some is.argument = is.is in cc

-- ---- options

-- Without `--external` and `--align` the form is known.
embedded_form : (options : ArgMatches) → external_flag options ≡ Some (codes "false") → align_option options ≡ None →
    IsForm options Embedded
embedded_form options flag align = record {
  external = false;
  is_external = record {
    given = λ yes. absurd (other_flag flag yes);
    not_given = λ no. refl;
    unknown = λ none. refl;
  };
  is_form = subst (λ a. IsFormWith false a Embedded) (sym align) refl;
} where
  other_flag : external_flag options ≡ Some (codes "false") → external_flag options ≡ Some (codes "true") → ⊥
  other_flag is also = let same : codes "true" ≡ codes "false" = cc in other_bytes (codes "true") (codes "false") refl same

some_form : (options : ArgMatches) → external_flag options ≡ Some (codes "false") → align_option options ≡ None → ¬ HasNoForm options
some_form options flag align none =
    none.no_form Embedded
    (subst₂ (λ e a. IsFormWith e a Embedded) (sym (none.is_external.not_given flag)) (sym align) refl)

-- No texts of one image or one configuration.
abbrev no_texts : Vec NamedText
no_texts = record {
  ptr = null_ptr;
  len = 0;
  cap = 0;
  alloc = record { memory = record { seal = tt } };
  items = [];
  ok = (refl, lit≤ tt);
  small = lit< tt;
}

without_texts : (options : ArgMatches) → values_of options (codes "compatible") ≡ [] →
    values_of options (codes "describe-config") ≡ [] → values_of options (codes "describe-image") ≡ [] →
    AreOwnTexts options (record { compatibles = no_texts; configurations = no_texts; images = no_texts })
without_texts options compatible configurations images = record {
  compatibles = subst (λ words. AreNamedTexts (map name_of_word (values_of options (codes "config"))) words []) (sym compatible)
      (record { each = tt; known = tt });
  configurations = subst (λ words. AreDescriptions (map name_of_word (values_of options (codes "config"))) words [])
      (sym configurations) (record { texts = record { each = tt; known = tt }; distinct = tt });
  images = subst (λ words. AreDescriptions (map name_of_word (values_of options (codes "images"))) words []) (sym images)
      (record { texts = record { each = tt; known = tt }; distinct = tt });
}

-- A description of the image `a` alone.
abbrev description_of_a : Vec NamedText
description_of_a = vec_of (text_for_name (codes "a") (codes "x") ∷ []) refl

with_description : (options : ArgMatches) → values_of options (codes "compatible") ≡ [] →
    values_of options (codes "describe-config") ≡ [] → values_of options (codes "describe-image") ≡ codes "a:x" ∷ [] →
    values_of options (codes "images") ≡ codes "a" ∷ [] →
    AreOwnTexts options (record { compatibles = no_texts; configurations = no_texts; images = description_of_a })
with_description options compatible configurations described images = record {
  compatibles = subst (λ words. AreNamedTexts (map name_of_word (values_of options (codes "config"))) words []) (sym compatible)
      (record { each = tt; known = tt });
  configurations = subst (λ words. AreDescriptions (map name_of_word (values_of options (codes "config"))) words [])
      (sym configurations) (record { texts = record { each = tt; known = tt }; distinct = tt });
  images = subst₂ (λ images words. AreDescriptions (map name_of_word images) words (text_for_name (codes "a") (codes "x") ∷ []))
      (sym images) (sym described) (record {
        texts = record { each = (record { name = refl; is = refl; some = λ e. absurd cc }, tt); known = (refl, tt) };
        distinct = (tt, tt);
      });
}

-- Without these options the values are good.
module _ (options : ArgMatches) (time : value_of options (codes "time") (codes "0") ≡ codes "0")
    (flag : external_flag options ≡ Some (codes "false")) (align : align_option options ≡ None)
    (default : option_of options (codes "default") ≡ None) (hash : option_of options (codes "hash") ≡ None)
    (own : OwnTexts) (are_own : AreOwnTexts options own) where
  good_values : HasFitValues options
  good_values = record {
    time = 0;
    is_time = subst (λ a. IsNumber a 0) (sym time) (decimal_digits (codes "0") refl refl).0;
    form = Embedded;
    is_form = embedded_form options flag align;
    default = None;
    is_default = subst (λ o. IsDefault (values_of options (codes "config")) o None) (sym default) refl;
    algorithms = Sha256 ∷ [];
    are_algorithms = subst (λ o. AreHashes o (Sha256 ∷ [])) (sym hash) refl;
    own_texts = own;
    are_own_texts = are_own;
  }

  no_bad_value : ¬ (IsFitPlanFailure options BadValue)
  no_bad_value (inl none) = none good_values
  no_bad_value (inr none) = some_form options flag align none

  -- A bad image is the failure then, and else a bad configuration.
  image_fails : (words : List (List ℕ)) (index : ℕ) → values_of options (codes "images") ≡ words → IsTheOne (IsFirstBad words) index →
      ((images : List ImageWord) → AllZip IsImageText words images → ⊥) → IsTheOne (IsFitPlanFailure options) (BadImage index)
  image_fails words index given one none = ((good_values, subst (λ w. IsFirstBad w index) (sym given) one.0), only) where
    only : (failure : Failure) → IsFitPlanFailure options failure → failure ≡ BadImage index
    only BadValue is = absurd (no_bad_value is)
    only (BadImage other) is = ap BadImage (one.1 other (subst (λ w. IsFirstBad w other) given is.1))
    only (BadConfiguration other) is =
        let images = is.1.are_images in
        absurd (none images.words (subst (λ w. AllZip IsImageText w images.words) given images.each))
    only other is = absurd is

  configuration_fails : (word : List ℕ) (image : ImageWord) → IsImageText word image → (configurations : List (List ℕ)) (index : ℕ) →
      values_of options (codes "images") ≡ word ∷ [] → values_of options (codes "config") ≡ configurations →
      ((names : List (List ℕ)) → IsTheOne (IsFirstBadConfiguration names configurations) index) →
      IsTheOne (IsFitPlanFailure options) (BadConfiguration index)
  configuration_fails word image good configurations index given configured one = ((good_values, bad_plan), only) where
    bad_plan : IsBadPlan options index
    bad_plan = record {
      images = image.image ∷ [];
      texts = image.texts ∷ [];
      payloads = image.payload ∷ [];
      are_images = record {
        words = image ∷ [];
        each = subst (λ w. AllZip IsImageText w (image ∷ [])) (sym given) (good, tt);
        images_are = refl;
        texts_are = refl;
        payloads_are = refl;
      };
      first_bad = subst (λ w. IsFirstBadConfiguration (names_of_specs (image.image ∷ [])) w index) (sym configured)
          (one (names_of_specs (image.image ∷ []))).0;
    }

    only : (failure : Failure) → IsFitPlanFailure options failure → failure ≡ BadConfiguration index
    only BadValue is = absurd (no_bad_value is)
    only (BadImage other) is = absurd (none_is_bad word image good other (subst (λ w. IsFirstBad w other) given is.1))
    only (BadConfiguration other) is =
        let names = names_of_specs is.1.images in
        ap BadConfiguration
        ((one names).1 other (subst (λ w. IsFirstBadConfiguration names w other) configured is.1.first_bad))
    only other is = absurd is

-- A bad value is the failure.
value_fails : (options : ArgMatches) → ¬ HasFitValues options → IsTheOne (IsFitPlanFailure options) BadValue
value_fails options none = (inl none, only) where
  only : (failure : Failure) → IsFitPlanFailure options failure → failure ≡ BadValue
  only BadValue is = refl
  only (BadImage index) is = absurd (none is.0)
  only (BadConfiguration index) is = absurd (none is.0)
  only other is = absurd is

-- Words with one that is not an image are not images.
no_first : (word : List ℕ) (later : List (List ℕ)) (images : List ImageWord) → NoneIs (IsImageText word) →
    AllZip IsImageText (word ∷ later) images → ⊥
no_first word later [] none are = are
no_first word later (image ∷ images) none are = none image are.0

second_of : (word other : List ℕ) (later : List (List ℕ)) (images : List ImageWord) → NoneIs (IsImageText other) →
    AllZip IsImageText (word ∷ other ∷ later) images → ⊥
second_of word other later [] none are = are
second_of word other later (image ∷ images) none are = no_first other later images none are.1

-- ---- tasks

-- The failures of `build-fit` are those of its limit and of its plan.
abbrev IsFitTaskFailure : ArgMatches → Failure → Type 0
IsFitTaskFailure options failure =
    ((failure ≡ BadValue) × NoneIs (IsLimits (limit_of options)))
    ⊎ ((limits : Limits) × IsLimits (limit_of options) limits × IsFitPlanFailure options failure)

fit_failure : (options : ArgMatches) (failure : Failure) → IsTaskFailure (codes "build-fit") options failure →
    IsFitTaskFailure options failure
fit_failure options failure (NotFormed name fails) = absurd (other_bytes (codes "build-fit") (codes "normalise") refl name)
fit_failure options failure (NotShown name fails) = absurd (other_bytes (codes "build-fit") (codes "show") refl name)
fit_failure options failure (NotAllowed name fails) = absurd (other_bytes (codes "build-fit") (codes "check") refl name)
fit_failure options failure (NotEdited name fails) = absurd (other_bytes (codes "build-fit") (codes "update") refl name)
fit_failure options failure (NotNamed name fails) = absurd (other_bytes (codes "build-fit") (codes "get") refl name)
fit_failure options failure (NotSelected name all fails) = absurd (other_bytes (codes "build-fit") (codes "extract") refl name)
fit_failure options failure (NotPlaced given is fails) = absurd (not_a_task given is.0)
fit_failure options failure (NotLegacy name fails) = absurd (other_bytes (codes "build-fit") (codes "build-legacy") refl name)
fit_failure options failure (NotLimited name fails) = inl fails
fit_failure options failure (NotFit name limits are fails) = inr (limits, are, fails)
fit_failure options failure (NotCompared name fails) = absurd (other_bytes (codes "build-fit") (codes "compare") refl name)
fit_failure options failure (NotExplained name fails) = absurd (other_bytes (codes "build-fit") (codes "explain") refl name)

limit_fails : (options : ArgMatches) → NoneIs (IsLimits (limit_of options)) →
    IsTheOne (IsTaskFailure (codes "build-fit") options) BadValue
limit_fails options none = (NotLimited refl (refl, none), λ failure is. only failure (fit_failure options failure is)) where
  only : (failure : Failure) → IsFitTaskFailure options failure → failure ≡ BadValue
  only failure (inl fails) = fails.0
  only failure (inr fails) = absurd (none fails.0 fails.1)

plan_fails : (options : ArgMatches) (limits : Limits) (wanted : Failure) → IsLimits (limit_of options) limits →
    IsTheOne (IsFitPlanFailure options) wanted → IsTheOne (IsTaskFailure (codes "build-fit") options) wanted
plan_fails options limits wanted are one =
    (NotFit refl limits are one.0, λ failure is. only failure (fit_failure options failure is)) where
      only : (failure : Failure) → IsFitTaskFailure options failure → failure ≡ wanted
      only failure (inl fails) = absurd (fails.1 limits are)
      only failure (inr fails) = one.1 failure fails.2

-- The failures of `update` are those of its plan.
update_failure : (options : ArgMatches) (failure : Failure) → IsTaskFailure (codes "update") options failure →
    IsEditPlanFailure options failure
update_failure options failure (NotFormed name fails) = absurd (other_bytes (codes "update") (codes "normalise") refl name)
update_failure options failure (NotShown name fails) = absurd (other_bytes (codes "update") (codes "show") refl name)
update_failure options failure (NotAllowed name fails) = absurd (other_bytes (codes "update") (codes "check") refl name)
update_failure options failure (NotEdited name fails) = fails
update_failure options failure (NotNamed name fails) = absurd (other_bytes (codes "update") (codes "get") refl name)
update_failure options failure (NotSelected name all fails) = absurd (other_bytes (codes "update") (codes "extract") refl name)
update_failure options failure (NotPlaced given is fails) = absurd (no_task_updates given is.0)
update_failure options failure (NotLegacy name fails) = absurd (other_bytes (codes "update") (codes "build-legacy") refl name)
update_failure options failure (NotLimited name fails) = absurd (other_bytes (codes "update") (codes "build-fit") refl name)
update_failure options failure (NotFit name limits are fails) = absurd (other_bytes (codes "update") (codes "build-fit") refl name)
update_failure options failure (NotCompared name fails) = absurd (other_bytes (codes "update") (codes "compare") refl name)
update_failure options failure (NotExplained name fails) = absurd (other_bytes (codes "update") (codes "explain") refl name)

-- A flag that is not given is off.
flag_is_off : (text : Option (List ℕ)) → text ≡ Some (codes "false") → IsFlag text false
flag_is_off text flag = record {
  given = λ yes. absurd (other flag yes);
  not_given = λ no. refl;
  unknown = λ none. refl;
} where
  other : text ≡ Some (codes "false") → text ≡ Some (codes "true") → ⊥
  other is also = let same : codes "true" ≡ codes "false" = cc in other_bytes (codes "true") (codes "false") refl same

-- A flag that is given is on.
pub flag_is_on : (text : Option (List ℕ)) → text ≡ Some (codes "true") → IsFlag text true
flag_is_on text flag = record {
  given = λ is. refl;
  not_given = λ is. absurd (other flag is);
  unknown = λ none. absurd (let e : None ≡ Some (codes "true") = sym none ∙ flag in cc);
} where
  other : text ≡ Some (codes "true") → text ≡ Some (codes "false") → ⊥
  other is also = let same : codes "true" ≡ codes "false" = cc in other_bytes (codes "true") (codes "false") refl same

-- Options that request nothing of `update`.
pub record NothingAsked (options : ArgMatches) : Type 0 where
  pub none : AsksForNoEdit options
  pub no_hashes : hashes_flag options ≡ Some (codes "false")
  pub no_form : keep_form_flag options ≡ Some (codes "false")

pub nothing_asked : (options : ArgMatches) → NothingAsked options → ¬ (AsksForEdits options)
nothing_asked options asked (AsksToRemove some) = some asked.none.no_removal
nothing_asked options asked (AsksToSet some) = some asked.none.no_setting
nothing_asked options asked (AsksForPayloads some) = some asked.none.no_payload
nothing_asked options asked (AsksForTime some) = some asked.none.no_time
nothing_asked options asked (AsksForHashes is) = true≢false (is.not_given asked.no_hashes)
nothing_asked options asked (AsksToKeepForm is) = true≢false (is.not_given asked.no_form)

-- A command line of `update` that requests nothing.
pub no_edits : (line : List ℕ) (options : ArgMatches) → Gives (words_of_line line) (codes "update") options →
    values_in (codes "remove") (subcommand_of program_app (words_of_line line)) ≡ [] →
    values_in (codes "set") (subcommand_of program_app (words_of_line line)) ≡ [] →
    values_in (codes "payload") (subcommand_of program_app (words_of_line line)) ≡ [] →
    first_of (codes "time") (rows_given line) ≡ None →
    one_of (codes "hashes") (rows_given line) ≡ Some (codes "false") →
    one_of (codes "keep-form") (rows_given line) ≡ Some (codes "false") → NothingAsked options
no_edits line options is remove set payload time hashes keep =
    let no_hashes = flag_is line (codes "update") options is (codes "hashes") ∙ hashes in
    let no_form = flag_is line (codes "update") options is (codes "keep-form") ∙ keep in
    record {
      none = record {
        no_removal = found_values line (codes "update") options is (codes "remove") ∙ remove;
        no_setting = found_values line (codes "update") options is (codes "set") ∙ set;
        no_payload = found_values line (codes "update") options is (codes "payload") ∙ payload;
        no_time = option_is line (codes "update") options is (codes "time") ∙ time;
        no_hashes = flag_is_off (hashes_flag options) no_hashes;
        no_form = flag_is_off (keep_form_flag options) no_form;
      };
      no_hashes = no_hashes;
      no_form = no_form;
    }

pub change_fails : (options : ArgMatches) → NothingAsked options → IsTheOne (IsTaskFailure (codes "update") options) NoChange
change_fails options asked = (NotEdited refl asked.none, λ failure is. only failure (update_failure options failure is)) where
  only : (failure : Failure) → IsEditPlanFailure options failure → failure ≡ NoChange
  only NoChange is = refl
  only BadValue is = absurd (nothing_asked options asked is.0)
  only other is = absurd is

form_of_update_fails : (options : ArgMatches) → option_of options (codes "time") ≢ None → HasNoForm options →
    IsTheOne (IsTaskFailure (codes "update") options) BadValue
form_of_update_fails options time none =
    (NotEdited refl (AsksForTime time, inr (NoForm none)), λ failure is. only failure (update_failure options failure is)) where
      only : (failure : Failure) → IsEditPlanFailure options failure → failure ≡ BadValue
      only NoChange is = absurd (time is.no_time)
      only BadValue is = refl
      only other is = absurd is

-- An alignment without `--external` gives no form.
no_form_without_external : (options : ArgMatches) (argument : List ℕ) → external_flag options ≡ Some (codes "false") →
    align_option options ≡ Some argument → HasNoForm options
no_form_without_external options argument flag align = record {
  external = false;
  is_external = record {
    given = λ yes. absurd (other flag yes);
    not_given = λ no. refl;
    unknown = λ none. refl;
  };
  no_form = λ form is. subst (λ a. IsFormWith false a form) align is;
} where
  other : external_flag options ≡ Some (codes "false") → external_flag options ≡ Some (codes "true") → ⊥
  other is also = let same : codes "true" ≡ codes "false" = cc in other_bytes (codes "true") (codes "false") refl same

-- ---- command lines

widest_is_limit : (options : ArgMatches) → limit_of options ≡ codes "2147483647" → IsLimits (limit_of options) widest
widest_is_limit options limit = record {
  file = subst (λ a. IsNumber a 2147483647) (sym limit) (decimal_digits (codes "2147483647") refl refl).0;
  least = lit≤ tt;
  most = lit≤ tt;
  depth = refl;
}

pub first_failures_are_known : FirstFailuresAreKnown
unfolding program_app clap_on_literals
first_failures_are_known = record {
  time_before_image = λ options is.
      let line = codes "build-fit --time x a" in
      value_fails options
      (λ has.
      is_no_number (codes "x") refl refl has.time
      (subst (λ a. IsNumber a has.time) (value_is line (codes "build-fit") options is (codes "time") (codes "0") ∙ refl) has.is_time));
  hash_before_image = λ options is.
      let line = codes "build-fit --hash md4 a" in
      value_fails options
      (λ has.
      unknown_md4 has.algorithms
      (subst (λ o. AreHashes o has.algorithms) (option_is line (codes "build-fit") options is (codes "hash") ∙ refl)
      has.are_algorithms));
  default_before_image = λ options is.
      let line = codes "build-fit --default c a" in
      let words : values_of options (codes "config") ≡ [] = found_values line (codes "build-fit") options is (codes "config") ∙ refl in
      let value : option_of options (codes "default") ≡ Some (codes "c") =
      option_is line (codes "build-fit") options is (codes "default") ∙ refl in
      value_fails options
      (λ has.
      let bad = subst₂ (λ w v. IsDefault w v has.default) words value has.is_default in
      true≢false (sym bad.1));
  form_before_image = λ options is.
      let line = codes "build-fit --align 4 a" in
      let flag : external_flag options ≡ Some (codes "false") =
      flag_is line (codes "build-fit") options is (codes "external") ∙ refl in
      let align : align_option options ≡ Some (codes "4") = option_is line (codes "build-fit") options is (codes "align") ∙ refl in
      value_fails options
      (λ has.
      subst₂ (λ e a. IsFormWith e a has.form) (has.is_form.is_external.not_given flag) align has.is_form.is_form);
  compatible_before_image = λ options is.
      let line = codes "build-fit --config c --compatible d:x a" in
      let words : values_of options (codes "compatible") ≡ codes "d:x" ∷ [] =
      found_values line (codes "build-fit") options is (codes "compatible") ∙ refl in
      let configurations : values_of options (codes "config") ≡ codes "c" ∷ [] =
      found_values line (codes "build-fit") options is (codes "config") ∙ refl in
      value_fails options
      (λ has.
      let bad = subst₂ (λ configurations words. AreNamedTexts (map name_of_word configurations) words has.own_texts.compatibles.items)
      configurations words has.are_own_texts.compatibles in
      true≢false (sym bad.known.0));
  description_before_image = λ options is.
      let line = codes "build-fit --describe-image b:x a" in
      let words : values_of options (codes "describe-image") ≡ codes "b:x" ∷ [] =
      found_values line (codes "build-fit") options is (codes "describe-image") ∙ refl in
      let images : values_of options (codes "images") ≡ codes "a" ∷ [] =
      found_values line (codes "build-fit") options is (codes "images") ∙ refl in
      value_fails options
      (λ has.
      let bad = subst₂ (λ images words. AreDescriptions (map name_of_word images) words has.own_texts.images.items) images words
      has.are_own_texts.images in
      true≢false (sym bad.texts.known.0));
  image_after_description = λ options is.
      let line = codes "build-fit --describe-image a:x a" in
      let name = codes "build-fit" in
      image_fails options (value_is line name options is (codes "time") (codes "0") ∙ refl)
      (flag_is line name options is (codes "external") ∙ refl) (option_is line name options is (codes "align") ∙ refl)
      (option_is line name options is (codes "default") ∙ refl) (option_is line name options is (codes "hash") ∙ refl)
      _ (with_description options (found_values line name options is (codes "compatible") ∙ refl)
      (found_values line name options is (codes "describe-config") ∙ refl)
      (found_values line name options is (codes "describe-image") ∙ refl)
      (found_values line name options is (codes "images") ∙ refl))
      (codes "a" ∷ []) 0 (found_values line name options is (codes "images") ∙ refl)
      (first_image_is_bad (codes "a") [] (few_fields (codes "a") refl))
      (λ images. no_first (codes "a") [] images (few_fields (codes "a") refl));
  image_before_configuration = λ options is.
      let line = codes "build-fit --config c a" in
      let name = codes "build-fit" in
      image_fails options (value_is line name options is (codes "time") (codes "0") ∙ refl)
      (flag_is line name options is (codes "external") ∙ refl) (option_is line name options is (codes "align") ∙ refl)
      (option_is line name options is (codes "default") ∙ refl) (option_is line name options is (codes "hash") ∙ refl)
      _ (without_texts options (found_values line name options is (codes "compatible") ∙ refl)
      (found_values line name options is (codes "describe-config") ∙ refl)
      (found_values line name options is (codes "describe-image") ∙ refl))
      (codes "a" ∷ []) 0 (found_values line name options is (codes "images") ∙ refl)
      (first_image_is_bad (codes "a") [] (few_fields (codes "a") refl))
      (λ images. no_first (codes "a") [] images (few_fields (codes "a") refl));
  first_image = λ options is.
      let line = codes "build-fit a b" in
      let name = codes "build-fit" in
      image_fails options (value_is line name options is (codes "time") (codes "0") ∙ refl)
      (flag_is line name options is (codes "external") ∙ refl) (option_is line name options is (codes "align") ∙ refl)
      (option_is line name options is (codes "default") ∙ refl) (option_is line name options is (codes "hash") ∙ refl)
      _ (without_texts options (found_values line name options is (codes "compatible") ∙ refl)
      (found_values line name options is (codes "describe-config") ∙ refl)
      (found_values line name options is (codes "describe-image") ∙ refl))
      (codes "a" ∷ codes "b" ∷ []) 0 (found_values line name options is (codes "images") ∙ refl)
      (first_image_is_bad (codes "a") (codes "b" ∷ []) (few_fields (codes "a") refl))
      (λ images. no_first (codes "a") (codes "b" ∷ []) images (few_fields (codes "a") refl));
  second_image = λ options is.
      let line = codes "build-fit k:kernel:arm:linux:none:-:-:5 b a" in
      let name = codes "build-fit" in
      image_fails options (value_is line name options is (codes "time") (codes "0") ∙ refl)
      (flag_is line name options is (codes "external") ∙ refl) (option_is line name options is (codes "align") ∙ refl)
      (option_is line name options is (codes "default") ∙ refl) (option_is line name options is (codes "hash") ∙ refl)
      _ (without_texts options (found_values line name options is (codes "compatible") ∙ refl)
      (found_values line name options is (codes "describe-config") ∙ refl)
      (found_values line name options is (codes "describe-image") ∙ refl))
      (kernel_text ∷ codes "b" ∷ codes "a" ∷ []) 1 (found_values line name options is (codes "images") ∙ refl)
      (second_image_is_bad kernel_text (codes "b") (codes "a" ∷ []) kernel_image kernel_is_image (few_fields (codes "b") refl))
      (λ images. second_of kernel_text (codes "b") (codes "a" ∷ []) images (few_fields (codes "b") refl));
  configuration = λ options is.
      let line = codes "build-fit --config c k:kernel:arm:linux:none:-:-:5" in
      let name = codes "build-fit" in
      configuration_fails options (value_is line name options is (codes "time") (codes "0") ∙ refl)
      (flag_is line name options is (codes "external") ∙ refl) (option_is line name options is (codes "align") ∙ refl)
      (option_is line name options is (codes "default") ∙ refl) (option_is line name options is (codes "hash") ∙ refl)
      _ (without_texts options (found_values line name options is (codes "compatible") ∙ refl)
      (found_values line name options is (codes "describe-config") ∙ refl)
      (found_values line name options is (codes "describe-image") ∙ refl))
      kernel_text kernel_image kernel_is_image (codes "c" ∷ []) 0
      (found_values line name options is (codes "images") ∙ refl) (found_values line name options is (codes "config") ∙ refl)
      (λ names.
      first_is_bad names (codes "c") [] (no_first_word names (codes "c") [] (without_list (codes "c") refl)));
  limit_before_image = λ options is.
      let limit : limit_of options ≡ codes "1" =
      value_is (codes "build-fit --limit 1 a") (codes "build-fit") options is (codes "limit") (codes "2147483647") ∙ refl in
      limit_fails options
      (λ limits are.
      omega (
        arith,
        are.least,
        (decimal_digits (codes "1") refl refl).1 limits.file (subst (λ a. IsNumber a limits.file) limit are.file),
      ));
  image_of_task = λ options is.
      let line = codes "build-fit a" in
      let name = codes "build-fit" in
      plan_fails options widest (BadImage 0)
      (widest_is_limit options (value_is line name options is (codes "limit") (codes "2147483647") ∙ refl))
      (image_fails options (value_is line name options is (codes "time") (codes "0") ∙ refl)
      (flag_is line name options is (codes "external") ∙ refl) (option_is line name options is (codes "align") ∙ refl)
      (option_is line name options is (codes "default") ∙ refl) (option_is line name options is (codes "hash") ∙ refl)
      _ (without_texts options (found_values line name options is (codes "compatible") ∙ refl)
      (found_values line name options is (codes "describe-config") ∙ refl)
      (found_values line name options is (codes "describe-image") ∙ refl))
      (codes "a" ∷ []) 0 (found_values line name options is (codes "images") ∙ refl)
      (first_image_is_bad (codes "a") [] (few_fields (codes "a") refl))
      (λ images. no_first (codes "a") [] images (few_fields (codes "a") refl)));
  change_before_form = λ options is. change_fails options (no_edits (codes "update --align 3") options is refl refl refl refl refl refl);
  form_of_update = λ options is.
      let line = codes "update --time 1 --align 3" in
      let name = codes "update" in
      form_of_update_fails options
      (not_given_and_missing _ (codes "1") (option_is line name options is (codes "time") ∙ refl))
      (no_form_without_external options (codes "3") (flag_is line name options is (codes "external") ∙ refl)
      (option_is line name options is (codes "align") ∙ refl));
}
