use Rattle.std.specs.Prelude.{ℕ, ◌≡◌, ◌↔◌, Bool, IsTrue, List, [], map}
use Rattle.bi_base.specs.Commands.{CommandPromise, PromiseLaws}
use Rattle.bi_base.specs.declared.fault.Error.{Error}
use Rattle.bi_base.specs.Limits.{Limits}
use Rattle.bi_norm.specs.Comparing.{MeansOnly}
use Rattle.bi_norm.specs.Meaning.{Meaning, Means}
use Rattle.bi_norm.specs.Reading.{IsReadErrorOrTooLarge}
use Rattle.bi_common.specs.declared.format.Format.{Format}
use Rattle.bi_common.specs.declared.format.Format.TheVariants.{Lines, Json}
use Rattle.bi_common.specs.Json.{json_line}
use Rattle.bi_common.specs.Lines.{text_of_lines}
use Rattle.bi_report.specs.declared.check.Allowed.{Allowed}
use Rattle.bi_report.specs.Checking.{Concern, AreConcerns, concern_line, concerns_object}
use Rattle.bi_report.specs.Checking.{kept_concerns}
use Rattle.bi_report.specs.SignedTrees.{IsOverCheckBound}

-- Checking a boot image (profile of this project).

-- The text of concerns, in a form.
abbrev pub text_of_concerns : Format → List Concern → List ℕ
text_of_concerns Lines concerns = text_of_lines (map concern_line concerns)
text_of_concerns Json concerns = json_line (concerns_object concerns)

-- The text of the concerns that are not allowed, in a form.
abbrev pub concerns_text : Format → Allowed → List Concern → List ℕ
concerns_text format allowed concerns = text_of_concerns format (kept_concerns allowed concerns)

-- The text is that of the concerns about the file that are not allowed, in a form. The file means
-- something and nothing else, its payloads are within the payload bound, and the needed paths of
-- its signed nodes are within the path bound.
pub record IsChecked (format : Format) (allowed : Allowed) (limits : Limits) (file text : List ℕ)
    : Type 0
  where
    pub meaning : Meaning
    pub means : MeansOnly limits file meaning
    pub within : ¬ (IsOverCheckBound limits meaning)
    pub concerns : List Concern
    pub are_concerns : AreConcerns limits file concerns
    pub is_text : text ≡ concerns_text format allowed concerns

-- The file means something whose payloads are over the payload bound, or the needed paths of whose
-- signed nodes are over the path bound.
pub record HoldsTooMuch (limits : Limits) (file : List ℕ) : Type 0 where
  pub meaning : Meaning
  pub means : Means limits file meaning
  pub is_over : IsOverCheckBound limits meaning

-- The error that checking a file in memory can have: one of reading it, or TooLarge at the limit
-- if it means something whose payloads or needed paths are over their bound.
abbrev pub IsCheckError : Limits → List ℕ → Error → Type 0
IsCheckError limits file = IsReadErrorOrTooLarge limits file (HoldsTooMuch limits file)

-- The text is that of the concerns about the file that are not allowed, in a form, and this is
-- whether there are none.
pub record IsCheckOutput (format : Format) (allowed : Allowed) (limits : Limits) (clean : Bool)
    (file text : List ℕ) : Type 0
  where
    pub checked : IsChecked format allowed limits file text
    pub is_empty : IsTrue clean ↔ (kept_concerns allowed checked.concerns ≡ [])

-- What checking promises as a command.
abbrev pub check_promise : Format → Allowed → Limits → CommandPromise Bool Error
check_promise format allowed limits = record {
  is_output = λ clean file text. IsCheckOutput format allowed limits clean file text;
  is_text = IsChecked format allowed limits;
  has_error = IsCheckError limits;
  wraps = λ error. error;
}

pub check_laws : (format : Format) (allowed : Allowed) (limits : Limits)
    → PromiseLaws (check_promise format allowed limits)
check_laws format allowed limits = record {
  is_text = λ clean file text is. is.checked;
  wraps_once = λ a b same. same;
  no_read_error = λ file is. is;
  no_write_error = λ file is. is;
}
