use Rattle.std.specs.Prelude.{ℕ, Bool, true, false, List, [], ◌∷◌, ◌++◌}
use Rattle.bi_fit.specs.Content.{AreAtTheirPlaces, FitModel}
use Rattle.bi_report.specs.declared.check.checked_image.CheckedImage.{CheckedImage}
use Rattle.bi_report.specs.declared.check.fit_coverage.FitCoverage.{FitCoverage}
use Rattle.bi_report.specs.declared.check.concerns.Concerns.{Concerns}
use Rattle.bi_report.specs.declared.check.concerns.KeptConcerns.{KeptConcerns}
use Rattle.bi_report.specs.ConcernsLeft.{addresses_left, configurations_left, found_in_content}
use Rattle.bi_report.specs.ConcernsLeft.{images_left, signatures_left}
use Rattle.bi_report.specs.ConcernValues.{IsCoverageOf, found_or_none, left_or_none}
use Rattle.bi_report.specs.FoundConcerns.{FoundConcern, kept_found}

-- A boot image whose concerns are known.

-- With these digests and this coverage, the concerns about a flattened image tree are known: in the
-- file of the digests, the payload of each image is at its place, and the coverage is its own.
pub record IsJudged (content : FitModel) (digests : List ℕ) (coverage : FitCoverage) : Type 0 where
  pub placed : AreAtTheirPlaces digests content.images
  pub covered : IsCoverageOf content coverage

-- The concerns about an image, each with what it is about.
abbrev pub found_of : CheckedImage → List FoundConcern
found_of image = found_in_content image.file.now image.content

-- The concerns that are left about an image.
abbrev pub concerns_left : Concerns → List FoundConcern
concerns_left left =
    left_or_none images_left left.of_images
    ++ (left_or_none configurations_left left.of_configurations
    ++ (found_or_none left.of_absence
    ++ (left_or_none signatures_left left.of_signatures
    ++ (left_or_none addresses_left left.of_addresses
    ++ (found_or_none left.of_default ++ found_or_none left.of_rest)))))

-- Those of them that are not allowed.
abbrev pub kept_left : KeptConcerns → List FoundConcern
kept_left left = kept_found left.allowed (concerns_left left.concerns)

-- Whether there are any.
abbrev pub has_any : List FoundConcern → Bool
has_any [] = false
has_any (found ∷ later) = true
