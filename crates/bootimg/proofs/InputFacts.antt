use Rattle.std.proofs.Common.{◌≡◌, ◌∙◌, ◌<◌, ◌⊎◌, ℕ, Bool, true, false, true≢false, List, [], ◌∷◌, ◌++◌, Option, None, Some, IfSome, Err}
use Rattle.std.proofs.Common.{codes, length, lit≤, inl, inr, ap, refl, sym, subst, arith}
use Rattle.std.specs.Global.{Vec}
use Rattle.bi_base.specs.Cells.{cell, cell8, u32_at}
use Rattle.bi_base.specs.Limits.{Limits, widest}
use Rattle.bi_base.specs.Reading.{IsInput}
use Rattle.bi_blob.specs.KnownTexts.{smallest_text, smallest_tree}
use Rattle.bi_blob.specs.Layout.{text_of_events, text_of_blocks, tree_with_places}
use Rattle.bi_blob.specs.Tree.{none}
use Rattle.bi_common.specs.declared.format.Format.TheVariants.{Json}
use Rattle.bi_describe.specs.declared.ignored.Ignored.{Ignored}
use Rattle.bi_describe.specs.DeepComparing.{AreTheSame}
use Rattle.bi_describe.specs.KnownRefusals.{longer_meaning, shorter_meaning}
use Rattle.bi_describe.proofs.ComparedWithoutFacts.{compared_without_is_known, ignoring_errors_are_known}
use Rattle.bi_describe.proofs.DescribedFileFacts.{compared_texts_are_known}
use Rattle.bi_describe.proofs.RefusalFacts.{describing_errors_are_known, reading_errors_are_known}
use Rattle.bi_files.specs.Files.{FileStep, KnownFiles, NotOpened, TookSteps}
use Rattle.bi_fit.specs.File.{FitMeans}
use Rattle.bi_fit.specs.KnownFiles.{plain_tree}
use Rattle.bi_fit.proofs.FileFacts.{blob_by_test}
use Rattle.bi_legacy.specs.File.{LegacyMeans}
use Rattle.bi_legacy.specs.KnownFaults.{limited_to}
use Rattle.bi_legacy.specs.KnownFiles.{kernel_file_with_rest}
use Rattle.bi_legacy.specs.KnownImages.{kernel_file, kernel_image, multi_file}
use Rattle.bi_legacy.specs.Laws.{OneLegacyMeaning}
use Rattle.bi_norm.specs.Comparing.{AreCompared, MeansOnly}
use Rattle.bi_norm.proofs.ComparisonFacts.{compared_files_are_known, kernel_means}
use Rattle.bi_norm.proofs.KindLaws.{one_file_meaning}
use Rattle.std.specs.Borrow.{Bor}
use Rattle.bootimg.specs.ComparedFiles.{IsCompareOutput}
use Rattle.bootimg.specs.KnownInputs.{ComparedInputsAreKnown, ComparedOutputsAreKnown, DeepOutputsAreKnown}
use Rattle.bootimg.specs.KnownInputs.{ComparesFiles, ExplanationsAreKnown, FailsAbout, FailsToOpen}
use Rattle.bootimg.specs.KnownInputs.{ImagesAtAreKnown, one_file, two_files, without_files}
use Rattle.bootimg.specs.KnownRequests.{IsFileNamed}
use Rattle.bootimg.specs.KnownRuns.{compared_plan}
use Rattle.bootimg.specs.Runs.{BothRead, CouldNotOpen, FileNotRead, FileRead, Inputs, InputNotRead, InputRead, IsFailedWork, IsFileNotRead}
use Rattle.bootimg.specs.Runs.{IsFileRead, IsImageNotRead, IsImageRead, OneNotRead, OpenedNotRead, OtherNotRead, Work, source_failure}
use Rattle.bootimg.specs.declared.command_line.source.ImageSource.{ImageSource}
use Rattle.bootimg.specs.declared.command_line.source.ImageSource.TheVariants.{File}
use Rattle.bootimg.specs.declared.failure.Failure.{Failure}

-- What `compare` reads, which image is at an offset and what `explain` writes is known.

-- ---- images in files

pub file_was_read : (files : KnownFiles) (limits : Limits) (old new : Inputs) (image : List ℕ) (source : ImageSource)
    (name : Bor (List ℕ)) → source ≡ File name → IsImageRead files limits old new image source →
    IsFileRead files limits name.now image old.steps new.steps
file_was_read files limits old new image source name is (InputRead read same) = absurd cc
file_was_read files limits old new image source name is (FileRead other read same) =
    let names : other ≡ name = cc in
    subst (λ (n : Bor (List ℕ)). IsFileRead files limits n.now image old.steps new.steps) names read

pub file_was_not_read : (files : KnownFiles) (limits : Limits) (old new : Inputs) (failure : Failure) (source : ImageSource)
    (name : Bor (List ℕ)) → source ≡ File name → IsImageNotRead files limits old new failure source →
    IsFileNotRead files limits name.now failure old.steps new.steps
file_was_not_read files limits old new failure source name is (InputNotRead read same) = absurd cc
file_was_not_read files limits old new failure source name is (FileNotRead other read same) =
    let names : other ≡ name = cc in
    subst (λ (n : Bor (List ℕ)). IsFileNotRead files limits n.now failure old.steps new.steps) names read

-- The failure is about the file of this name.
about : (name : List ℕ) (failure : Failure) (source : ImageSource) (work : Work) → IsFileNamed name source →
    IsFailedWork source failure work → FailsAbout name work.outcome
about name failure source work named failed = subst (FailsAbout name) (sym failed.outcome) named

-- The steps if the first file is not opened.
pub first_step : (new : Option (List FileStep)) (step : FileStep) → TookSteps (Some []) new (step ∷ []) →
    IfSome new (λ steps. steps ≡ step ∷ [])
first_step None step took = tt
first_step (Some after) step took =
    let none : took.0 ≡ [] = let same : Some [] ≡ Some took.0 = took.1 in cc in
    took.2 ∙ ap (λ before. before ++ step ∷ []) none

-- The input of a file with known bytes.
pub input_of_file : (remaining : Option (List ℕ)) (bytes input : List ℕ) → remaining ≡ Some bytes → IsInput remaining input → bytes ≡ input
input_of_file remaining bytes input is has = subst (λ r. IsInput r input) is has

-- ---- compare

module _ (ignored : Vec Ignored) where
  no_files_opened : (work : Work) (new : Option (List FileStep)) → ComparesFiles ignored without_files work new →
      FailsToOpen (codes "a") work.outcome × IfSome new (λ steps. steps ≡ NotOpened (codes "a") ∷ [])
  no_files_opened work new (BothRead one other middle read also compared) =
      absurd (file_was_read _ _ _ _ _ _ _ refl read).was_opened.is_open.is_file
  no_files_opened work new (OneNotRead failure read failed) = by (file_was_not_read _ _ _ _ _ _ _ refl read) where
    by : IsFileNotRead without_files (limited_to 64) (codes "a") failure (Some []) new →
        FailsToOpen (codes "a") work.outcome × IfSome new (λ steps. steps ≡ NotOpened (codes "a") ∷ [])
    by (CouldNotOpen was is) =
        (failed.outcome ∙ ap (λ f. Err (source_failure (compared_plan ignored).one f)) is, first_step new (NotOpened (codes "a")) was.steps)
    by (OpenedNotRead opened end was not_read) = absurd was.is_open.is_file
  no_files_opened work new (OtherNotRead one middle failure read also failed) =
      absurd (file_was_read _ _ _ _ _ _ _ refl read).was_opened.is_open.is_file

  only_other_there : (work : Work) (new : Option (List FileStep)) → ComparesFiles ignored (one_file (codes "b") []) work new →
      FailsToOpen (codes "a") work.outcome
  only_other_there work new (BothRead one other middle read also compared) =
      absurd (file_was_read _ _ _ _ _ _ _ refl read).was_opened.is_open.is_file
  only_other_there work new (OneNotRead failure read failed) = by (file_was_not_read _ _ _ _ _ _ _ refl read) where
    by : IsFileNotRead (one_file (codes "b") []) (limited_to 64) (codes "a") failure (Some []) new →
        FailsToOpen (codes "a") work.outcome
    by (CouldNotOpen was is) = failed.outcome ∙ ap (λ f. Err (source_failure (compared_plan ignored).one f)) is
    by (OpenedNotRead opened end was not_read) = absurd was.is_open.is_file
  only_other_there work new (OtherNotRead one middle failure read also failed) =
      absurd (file_was_read _ _ _ _ _ _ _ refl read).was_opened.is_open.is_file

  only_one_there : (work : Work) (new : Option (List FileStep)) → ComparesFiles ignored (one_file (codes "a") []) work new →
      FailsAbout (codes "a") work.outcome ⊎ FailsToOpen (codes "b") work.outcome
  only_one_there work new (BothRead one other middle read also compared) =
      absurd (file_was_read _ _ _ _ _ _ _ refl also).was_opened.is_open.is_file
  only_one_there work new (OneNotRead failure read failed) = inl (about (codes "a") failure (compared_plan ignored).one work refl failed)
  only_one_there work new (OtherNotRead one middle failure read also failed) = by (file_was_not_read _ _ _ _ _ _ _ refl also) where
    by : IsFileNotRead (one_file (codes "a") []) (limited_to 64) (codes "b") failure middle.steps new →
        FailsAbout (codes "a") work.outcome ⊎ FailsToOpen (codes "b") work.outcome
    by (CouldNotOpen was is) = inr (failed.outcome ∙ ap (λ f. Err (source_failure (compared_plan ignored).other f)) is)
    by (OpenedNotRead opened end was not_read) = absurd was.is_open.is_file

  -- A file over the limit is not read.
  too_long : (files : KnownFiles) (name bytes input : List ℕ) (old new : Option (List FileStep)) → 64 < length bytes →
      (is : IsFileRead files (limited_to 64) name input old new) → is.opened.remaining ≡ Some bytes → ⊥
  too_long files name bytes input old new long is remaining =
      let same = input_of_file is.opened.remaining bytes input remaining is.is_read.whole.is_input in
      omega (arith, long, is.is_read.within, ap length same)

  one_is_long : (bytes : List ℕ) → 64 < length bytes → (work : Work) (new : Option (List FileStep)) →
      ComparesFiles ignored (two_files bytes []) work new → FailsAbout (codes "a") work.outcome
  one_is_long bytes long work new (BothRead one other middle read also compared) =
      let is = file_was_read _ _ _ _ _ _ _ refl read in
      absurd (too_long (two_files bytes []) (codes "a") bytes one _ _ long is is.was_opened.is_open.is_file)
  one_is_long bytes long work new (OneNotRead failure read failed) = about (codes "a") failure (compared_plan ignored).one work refl failed
  one_is_long bytes long work new (OtherNotRead one middle failure read also failed) =
      let is = file_was_read _ _ _ _ _ _ _ refl read in
      absurd (too_long (two_files bytes []) (codes "a") bytes one _ _ long is is.was_opened.is_open.is_file)

  other_is_long : (bytes : List ℕ) → 64 < length bytes → (work : Work) (new : Option (List FileStep)) →
      ComparesFiles ignored (two_files [] bytes) work new → FailsAbout (codes "a") work.outcome ⊎ FailsAbout (codes "b") work.outcome
  other_is_long bytes long work new (BothRead one other middle read also compared) =
      let is = file_was_read _ _ _ _ _ _ _ refl also in
      absurd (too_long (two_files [] bytes) (codes "b") bytes other _ _ long is is.was_opened.is_open.is_file)
  other_is_long bytes long work new (OneNotRead failure read failed) =
      inl (about (codes "a") failure (compared_plan ignored).one work refl failed)
  other_is_long bytes long work new (OtherNotRead one middle failure read also failed) =
      inr (about (codes "b") failure (compared_plan ignored).other work refl failed)

  pub compared_inputs_are_known : ComparedInputsAreKnown ignored
  compared_inputs_are_known = record {
    no_files = no_files_opened;
    only_other = only_other_there;
    only_one = only_one_there;
    one_too_long = one_is_long;
    other_too_long = other_is_long;
  }

-- ---- outputs of compare

-- The kernel image and the smallest tree under a limit of 88 bytes.
kernel_within : LegacyMeans (limited_to 88) kernel_file kernel_image
kernel_within = record { is_file = kernel_means.is_file; short = lit≤ tt }

smallest_within : FitMeans (limited_to 88) smallest_text (plain_tree [] [])
unfolding text_of_events text_of_blocks cell cell8 u32_at
smallest_within = record {
  is_file = record {
    root = tree_with_places [] smallest_tree;
    blob = blob_by_test smallest_tree [] refl refl (lit≤ tt);
    images = none;
    has_images = refl;
    payloads = tt;
    is_root = refl;
  };
  within = record { short = lit≤ tt; shallow = lit≤ tt };
}

module _ (one_legacy : OneLegacyMeaning) where
  -- What they mean, and nothing else.
  only_kernel : MeansOnly (limited_to 88) kernel_file longer_meaning
  only_kernel = record {
    means = kernel_within;
    only = λ other means.
        one_file_meaning one_legacy (limited_to 88) (limited_to 88) kernel_file other longer_meaning means kernel_within;
  }

  only_smallest : MeansOnly (limited_to 88) smallest_text shorter_meaning
  only_smallest = record {
    means = smallest_within;
    only = λ other means.
        one_file_meaning one_legacy (limited_to 88) (limited_to 88) smallest_text other shorter_meaning means smallest_within;
  }

  quiet_output : (same : Bool) (text : List ℕ) → IsCompareOutput [] true false Json widest kernel_file multi_file same text →
      (same ≡ false) × (text ≡ [])
  quiet_output false text is = (refl, is.1)
  quiet_output true text is = absurd ((compared_files_are_known one_legacy).other_image.no_other is.0)

  pub compared_outputs_are_known : ComparedOutputsAreKnown
  compared_outputs_are_known = record {
    quiet = quiet_output;
    quiet_same = ((compared_files_are_known one_legacy).same.are_compared, refl);
    differences = (compared_texts_are_known one_legacy).different;
    ignored = (compared_without_is_known one_legacy).same_json;
    not_read = reading_errors_are_known.only_first;
    other_not_read = inl reading_errors_are_known.only_second;
    ignored_not_described = (ignoring_errors_are_known one_legacy).too_long;
    not_described = inr (record {
      compared = record {
        meaning = longer_meaning;
        other_meaning = shorter_meaning;
        means = only_kernel;
        other_means = only_smallest;
        is_same = (λ holds. absurd (true≢false (sym holds)), λ same. absurd cc);
      };
      is_error = describing_errors_are_known.only_first;
    });
    other_not_described = inr (record {
      compared = record {
        meaning = shorter_meaning;
        other_meaning = longer_meaning;
        means = only_smallest;
        other_means = only_kernel;
        is_same = (λ holds. absurd (true≢false (sym holds)), λ same. absurd cc);
      };
      is_error = describing_errors_are_known.only_second;
    });
    quiet_described = λ fault is. is.1 longer_meaning kernel_within;
    quiet_other_described = λ fault is. is.has_error.1 longer_meaning kernel_within;
  }

  -- What two kernel images mean that are the same.
  same_kernels : AreCompared widest kernel_file_with_rest kernel_file true
  same_kernels = (compared_files_are_known one_legacy).same.are_compared

  pub deep_outputs_are_known : DeepOutputsAreKnown
  deep_outputs_are_known = record {
    quiet = (same_kernels, refl);
    same = record {
      compared = same_kernels;
      differs = record {
        lines = [];
        differences = AreTheSame refl;
        empty = (λ _. refl, λ _. refl);
        is_text = refl;
      };
    };
    deep = λ one other same text is. is;
    ignored = λ one other same text is. is;
    not_read = reading_errors_are_known.only_first;
    other_not_read = inl reading_errors_are_known.only_second;
    ignored_not_read = inl reading_errors_are_known.only_first;
    quiet_described = λ fault is. is.1 longer_meaning kernel_within;
  }

-- ---- offsets

pub images_at_are_known : ImagesAtAreKnown
images_at_are_known = record {
  first = record { within = lit≤ tt; holds = refl };
  later = record { within = lit≤ tt; holds = refl };
  at_end = record { within = lit≤ tt; holds = refl };
  past_end = record { within = lit≤ tt; holds = refl };
  only = λ image is. sym is.holds;
  too_long = λ image is. omega (arith, is.within);
  output = λ output is. is.holds;
  text = λ output is. is.holds;
  error = λ error is. is.holds;
}

-- ---- explain

pub explanations_are_known : ExplanationsAreKnown
explanations_are_known = record { one = refl; other = refl; line = refl; concern = refl; message = refl; names = refl; all = refl }
