use Rattle.std.specs.Prelude.{◌≡◌, ◌↔◌, ℕ, Bool, IsTrue, List}
use Rattle.bi_base.specs.Commands.{CommandPromise, PromiseLaws}
use Rattle.bi_base.specs.declared.fault.Error.{Error}
use Rattle.bi_base.specs.Limits.{Limits}
use Rattle.bi_norm.specs.Meaning.{Meaning, Means}
use Rattle.bi_norm.specs.Reading.{IsBootImageReadError}
use Rattle.bi_common.specs.declared.format.Format.{Format}
use Rattle.bi_common.specs.declared.format.Format.TheVariants.{Lines, Json}
use Rattle.bi_common.specs.Json.{json_line}
use Rattle.bi_common.specs.Lines.{text_of_lines}
use Rattle.bi_report.specs.Reports.{AreGood, hashes_of, legacy_report_lines}
use Rattle.bi_report.specs.Reports.{legacy_report_object, report_lines, report_object}

-- Verifying a boot image (profile of this project).

-- The report on what a file means, in a form.
abbrev pub report_text : Format → Meaning → List ℕ
report_text Lines meaning = text_of_lines (report_lines meaning)
report_text Json meaning = json_line (report_object meaning)

-- The report on any legacy image, in a form.
abbrev pub legacy_report_text : Format → List ℕ
legacy_report_text Lines = text_of_lines legacy_report_lines
legacy_report_text Json = json_line legacy_report_object

-- The text is the report on the file, in a form.
pub record IsReport (format : Format) (limits : Limits) (file text : List ℕ) : Type 0 where
  pub meaning : Meaning
  pub means : Means limits file meaning
  pub is : text ≡ report_text format meaning

-- The text is the report on the file, in a form, and this is whether no verdict in it is other than
-- Good.
pub record IsVerifyOutput (format : Format) (limits : Limits) (good : Bool) (file text : List ℕ)
    : Type 0
  where
    pub report : IsReport format limits file text
    pub all_good : IsTrue good ↔ AreGood (hashes_of report.meaning)

-- What verifying promises as a command.
abbrev pub verify_promise : Format → Limits → CommandPromise Bool Error
verify_promise format limits = record {
  is_output = λ good file text. IsVerifyOutput format limits good file text;
  is_text = IsReport format limits;
  has_error = IsBootImageReadError limits;
  wraps = λ error. error;
}

pub verify_laws : (format : Format) (limits : Limits) → PromiseLaws (verify_promise format limits)
verify_laws format limits = record {
  is_text = λ good file text is. is.report;
  wraps_once = λ a b same. same;
  no_read_error = λ file is. is;
  no_write_error = λ file is. is;
}
