use Rattle.std.specs.Prelude.{◌≡◌, ℕ, ◌-◌, Bool, List, [], length}
use Rattle.bi_base.specs.Commands.{CommandPromise, PromiseLaws, unit_promise, unit_laws}
use Rattle.bi_base.specs.declared.fault.Error.{Error}
use Rattle.bi_base.specs.Limits.{Limits}
use Rattle.bi_blob.specs.Tree.{names}
use Rattle.bi_fit.specs.File.{FitMeans}
use Rattle.bi_fit.specs.ImageTree.{ImageTree}
use Rattle.bi_legacy.specs.Reading.{LegacyModel, IsReadLegacy}
use Rattle.bi_common.specs.declared.format.Format.TheVariants.{Lines}
use Rattle.bi_report.specs.CheckedFiles.{IsChecked, IsCheckError}
use Rattle.bi_report.specs.Checking.{allowed_by_default, content_end}
use Rattle.bi_show.specs.Dates.{IsTimeText}
use Rattle.bi_show.specs.FitPages.{fit_regions, fit_tables, timestamp_in}
use Rattle.bi_show.specs.Layouts.{IsLayoutIf, legacy_regions}
use Rattle.bi_show.specs.LegacyPages.{legacy_tables}
use Rattle.bi_show.specs.PageCells.{IsTimeCell}
use Rattle.bi_show.specs.Pages.{Table, page_text}

-- Showing a boot image to a person (profile of this project).

-- These are the lines that checking the file gives, if signatures are not asked for.
abbrev pub AreConcernLines : Limits → (file lines : List ℕ) → Type 0
AreConcernLines limits file lines = IsChecked Lines allowed_by_default limits file lines

-- The text is the page of a legacy image that was read from the file.
pub record IsLegacyPage (layout : Bool) (limits : Limits) (file text : List ℕ) : Type 0 where
  pub parsed : LegacyModel
  pub is_read : IsReadLegacy limits file parsed
  pub time : List ℕ
  pub is_time : IsTimeText parsed.image.time time
  pub regions : Table
  pub are_regions :
      IsLayoutIf layout [] (legacy_regions parsed.image) (length file - parsed.unused) (length file)
      regions
  pub concerns : List ℕ
  pub are_concerns : AreConcernLines limits file concerns
  pub is : text ≡ page_text (legacy_tables file parsed.image time regions) concerns

-- The text is the page of a FIT.
pub record IsFitPage (layout : Bool) (limits : Limits) (file text : List ℕ) : Type 0 where
  pub tree : ImageTree
  pub means : FitMeans limits file tree
  pub time : List ℕ
  pub is_time : IsTimeCell (timestamp_in means.is_file.root) time
  pub regions : Table
  pub are_regions :
      IsLayoutIf layout (names means.is_file.images)
      (fit_regions file means.is_file.root tree)
      (content_end file means.is_file.images tree.payloads) (length file) regions
  pub concerns : List ℕ
  pub are_concerns : AreConcernLines limits file concerns
  pub is : text ≡ page_text (fit_tables file means.is_file.root tree time regions) concerns

-- The text is the page of the file, which is a legacy image or a FIT.
pub data IsPage (layout : Bool) (limits : Limits) (file text : List ℕ) : Type 0 where
  OfLegacyImage : IsLegacyPage layout limits file text → IsPage layout limits file text
  OfImageTree : IsFitPage layout limits file text → IsPage layout limits file text

-- What showing promises as a command. It has the errors of checking.
abbrev pub show_promise : (layout : Bool) → Limits → CommandPromise (Unit {0}) Error
show_promise layout limits = unit_promise (IsPage layout limits) (IsCheckError limits)

pub show_laws : (layout : Bool) (limits : Limits) → PromiseLaws (show_promise layout limits)
show_laws layout limits =
    unit_laws (IsPage layout limits) (IsCheckError limits)
    (λ input is. is) (λ input is. is)
