use Rattle.std.specs.Prelude.{◌≡◌, ℕ, List}
use Rattle.bi_base.specs.Commands.{CommandPromise, PromiseLaws, unit_promise, unit_laws}
use Rattle.bi_base.specs.declared.fault.Error.{Error}
use Rattle.bi_base.specs.Limits.{Limits}
use Rattle.bi_blob.specs.Tree.{Nodes, FileNode}
use Rattle.bi_fit.specs.File.{FitMeans}
use Rattle.bi_fit.specs.ImageTree.{ImageTree}
use Rattle.bi_legacy.specs.Reading.{LegacyModel, IsReadLegacy}
use Rattle.bi_norm.specs.Reading.{IsBootImageReadError}
use Rattle.bi_common.specs.declared.format.Format.{Format}
use Rattle.bi_common.specs.declared.format.Format.TheVariants as form
use Rattle.bi_common.specs.Json.{Json, json_line}
use Rattle.bi_common.specs.Lines.{Line, text_of_lines}
use Rattle.bi_report.specs.FitListing.{fit_entries, fit_listing, fit_listing_object}
use Rattle.bi_report.specs.Listing.{legacy_listing, legacy_listing_object}

-- Listing a boot image (profile of this project).

-- These lines or this value of JSON, in a form.
abbrev pub text_in : Format → List Line → Json → List ℕ
text_in form.Lines lines value = text_of_lines lines
text_in form.Json lines value = json_line value

-- The listing of a legacy image, in a form.
abbrev pub legacy_listing_text : Format → LegacyModel → List ℕ
legacy_listing_text format parsed =
    text_in format (legacy_listing parsed) (legacy_listing_object parsed)

-- The listing of a flattened image tree that a file with these image nodes means, in a form.
abbrev pub fit_listing_text : Format → (file : List ℕ) → Nodes FileNode → ImageTree → List ℕ
fit_listing_text format file images tree =
    text_in format (fit_listing (fit_entries file images tree))
    (fit_listing_object (fit_entries file images tree))

-- The text is the listing of the flattened image tree, in a form.
pub record IsFitListing (format : Format) (limits : Limits) (file text : List ℕ) : Type 0 where
  pub tree : ImageTree
  pub means : FitMeans limits file tree
  pub is : text ≡ fit_listing_text format file means.is_file.images tree

-- The text is the listing of the file, which is a legacy image or a flattened image tree, in a
-- form.
pub data IsListing (format : Format) (limits : Limits) (file text : List ℕ) : Type 0 where
  OfLegacyImage : (parsed : LegacyModel) → IsReadLegacy limits file parsed
      → text ≡ legacy_listing_text format parsed → IsListing format limits file text
  OfImageTree : IsFitListing format limits file text → IsListing format limits file text

-- What listing promises as a command.
abbrev pub list_promise : Format → Limits → CommandPromise (Unit {0}) Error
list_promise format limits =
    unit_promise (IsListing format limits) (IsBootImageReadError limits)

pub list_laws : (format : Format) (limits : Limits) → PromiseLaws (list_promise format limits)
list_laws format limits =
    unit_laws (IsListing format limits) (IsBootImageReadError limits)
    (λ input is. is) (λ input is. is)
