use Rattle.std.proofs.Common.{List, length, rules, subst, subst₂}
use Rattle.std.proofs.lemmas.Result.{err_from_is_err_and}
use Rattle.bi_base.specs.Commands.{CommandFailed}
use Rattle.bi_norm.specs.Converting.{IsConvertedFile, IsConvertError}
use Rattle.bi_norm.specs.NormalForm.{IsNormalForm, IsNormaliseError}
use Rattle.bi_norm.specs.Reading.{IsBootImageReadError}
use Rattle.bi_report.specs.CheckedFiles.{IsChecked, IsCheckError}
use Rattle.bi_report.specs.Checking.{allowed_under}
use Rattle.bi_report.specs.ListedFiles.{IsListing}
use Rattle.bi_report.specs.Scanning.{IsScanText, IsScanError}
use Rattle.bi_report.specs.VerifiedFiles.{IsReport}
use Rattle.bi_commands.specs.Extracting.{IsChosen, IsExtractError}
use Rattle.bootimg.specs.Selections.{select_of}
use Rattle.bootimg.specs.Tasks.{IsDescribedAs, IsDescribeErrorAs, IsShownAs}
use Rattle.bootimg.proofs.SelectionNames.{same_chosen, same_failure}
use Rattle.bi_values.specs.Getting.{IsGetError, IsTextOfValues}
use Rattle.bi_values.specs.ValueNames.{value_name_models}
use Rattle.bi_values.specs.declared.get_error.GetError.TheVariants.{Failed}
use Rattle.bi_values.specs.declared.value_name.ValueName.{ValueName}
use Rattle.bootimg.specs.Failures.{IsIndexOfValue}
use Rattle.bootimg.proofs.TaskFailures.{call_failed, extract_failed, get_failed, index_of_failure}
use Rattle.bootimg.proofs.command_line.Task.run_on.Goals as goal

pub returns-in_err-kept-in-Normalise-clause-failed : goal.returns-in_err-kept-in-Normalise-clause-failed
returns-in_err-kept-in-Normalise-clause-failed g c =
    let limits = c.args.limits in
    let image = c.args.image.now in
    let p = err_from_is_err_and c.from_residual.result c.from_residual.ensures.1 in
    rw (c.in-Normalise.is, p.1)
    (call_failed g.S.Sink.fails (IsNormalForm limits c.in-Normalise.form image) (IsNormaliseError limits c.in-Normalise.form image)
    c.args.sink.now c.normalise_with_kept.new.sink c.in_err-kept-in-Normalise.field-0.0 p.0 p.2
    c.in_err-kept-in-Normalise.ensures.failed)

pub returns-in_err-append_shown-in-Show-clause-failed : goal.returns-in_err-append_shown-in-Show-clause-failed
returns-in_err-append_shown-in-Show-clause-failed g c =
    let limits = c.args.limits in
    let image = c.args.image.now in
    let p = err_from_is_err_and c.from_residual-in_err-append_shown-in-Show.result
    c.from_residual-in_err-append_shown-in-Show.ensures.1 in
    rw (c.in-Show.is, p.1)
    (call_failed g.S.Sink.fails (IsShownAs c.in-Show.how limits image) (IsCheckError limits image)
    c.args.sink.now c.append_shown.new.sink c.in_err-append_shown-in-Show.field-0.0 p.0 p.2
    c.in_err-append_shown-in-Show.ensures.failed)

pub returns-in_err-run-in-List-clause-failed : goal.returns-in_err-run-in-List-clause-failed
returns-in_err-run-in-List-clause-failed g c =
    let limits = c.args.limits in
    let image = c.args.image.now in
    let p = err_from_is_err_and c.from_residual-in_err-run-in-List.result c.from_residual-in_err-run-in-List.ensures.1 in
    rw (c.in-List.is, p.1)
    (call_failed g.S.Sink.fails (IsListing c.in-List.format limits image) (IsBootImageReadError limits image)
    c.args.sink.now c.run.new.sink c.in_err-run-in-List.field-0.0 p.0 p.2
    c.in_err-run-in-List.ensures.failed)

pub returns-in_err-append_described-in-Describe-clause-failed : goal.returns-in_err-append_described-in-Describe-clause-failed
returns-in_err-append_described-in-Describe-clause-failed g c =
    let limits = c.args.limits in
    let image = c.args.image.now in
    let deep = c.in-Describe.deep in
    let format = c.in-Describe.format in
    let p = err_from_is_err_and c.from_residual-in_err-append_described-in-Describe.result
    c.from_residual-in_err-append_described-in-Describe.ensures.1 in
    rw (c.in-Describe.is, p.1)
    (call_failed g.S.Sink.fails (IsDescribedAs deep format limits image) (IsDescribeErrorAs deep format limits image)
    c.args.sink.now c.append_described.new.sink c.in_err-append_described-in-Describe.field-0.0 p.0 p.2
    c.in_err-append_described-in-Describe.ensures.failed)

pub returns-in_err-good-in-Verify-clause-failed : goal.returns-in_err-good-in-Verify-clause-failed
returns-in_err-good-in-Verify-clause-failed g c =
    let limits = c.args.limits in
    let image = c.args.image.now in
    let p = err_from_is_err_and c.from_residual-in_err-good-in-Verify.result c.from_residual-in_err-good-in-Verify.ensures.1 in
    rw (c.in-Verify.is, p.1)
    (call_failed g.S.Sink.fails (IsReport c.in-Verify.format limits image) (IsBootImageReadError limits image)
    c.args.sink.now c.run-in-Verify.new.sink c.in_err-good-in-Verify.field-0.0 p.0 p.2
    c.in_err-good-in-Verify.ensures.failed)

pub returns-in_err-clean-in-Check-clause-failed : goal.returns-in_err-clean-in-Check-clause-failed
returns-in_err-clean-in-Check-clause-failed g c =
    let limits = c.args.limits in
    let image = c.args.image.now in
    let p = err_from_is_err_and c.from_residual-in_err-clean-in-Check.result c.from_residual-in_err-clean-in-Check.ensures.1 in
    rw (c.in-Check.is, p.1)
    (call_failed g.S.Sink.fails (IsChecked c.in-Check.format (allowed_under c.in-Check.policy) limits image) (IsCheckError limits image)
    c.args.sink.now c.check_into.new.sink c.in_err-clean-in-Check.field-0.0 p.0 p.2
    c.in_err-clean-in-Check.ensures.failed)

pub returns-in_err-found-in-Scan-clause-failed : goal.returns-in_err-found-in-Scan-clause-failed
returns-in_err-found-in-Scan-clause-failed g c =
    let limits = c.args.limits in
    let image = c.args.image.now in
    let p = err_from_is_err_and c.from_residual-in_err-found-in-Scan.result c.from_residual-in_err-found-in-Scan.ensures.1 in
    rw (c.in-Scan.is, p.1)
    (call_failed g.S.Sink.fails (IsScanText c.in-Scan.format limits image) (IsScanError limits image)
    c.args.sink.now c.run-in-Scan.new.sink c.in_err-found-in-Scan.field-0.0 p.0 p.2
    c.in_err-found-in-Scan.ensures.failed)

pub failure-requires : goal.failure-requires
failure-requires g c =
    let limits = c.args.limits in
    let image = c.args.image.now in
    let form = c.getter.result.form in
    let names = c.getter.result.names.now in
    record {
      index = subst (λ (names : List ValueName). IsIndexOfValue (length names) c.in-Err.error) c.getter.ensures.names
          (index_of_failure g.S.Sink.fails (IsTextOfValues form (value_name_models names) limits image) form names limits image
          c.args.sink.now c.run-in-Get.new.sink c.in-Err.error c.in-Err.ensures.failed);
    }

pub returns-in-Err-clause-failed : goal.returns-in-Err-clause-failed
returns-in-Err-clause-failed g c =
    let limits = c.args.limits in
    let image = c.args.image.now in
    let plan = c.in-Get.plan in
    let names = value_name_models plan.names.items in
    rw (c.in-Get.is)
    (get_failed g.S.Sink.fails (IsTextOfValues plan.form names limits image) (IsGetError plan.form names limits image) plan.words.items
    c.args.sink.now c.run-in-Get.new.sink c.in-Err.error c.failure.result c.failure.ensures
    (subst₂ (λ form (some : List ValueName).
    CommandFailed g.S.Sink.fails (λ cause. Failed cause) (IsTextOfValues form (value_name_models some) limits image)
    (IsGetError form (value_name_models some) limits image) c.args.sink.now c.run-in-Get.new.sink c.in-Err.error)
    c.getter.ensures.form c.getter.ensures.names c.in-Err.ensures.failed))

pub returns-in_err-run-in-Extract-clause-failed : goal.returns-in_err-run-in-Extract-clause-failed
returns-in_err-run-in-Extract-clause-failed g c =
    let limits = c.args.limits in
    let image = c.args.image.now in
    let one = c.select-select.result in
    let other = select_of c.in-Extract.selection in
    let same = c.select-select.ensures in
    let p = err_from_is_err_and c.from_residual-in_err-run-in-Extract.result c.from_residual-in_err-run-in-Extract.ensures.1 in
    rw (c.in-Extract.is, p.1)
    (extract_failed g.S.Sink.fails (IsChosen other limits image) (IsExtractError other limits image)
    c.args.sink.now c.run-in-Extract.new.sink c.in_err-run-in-Extract.field-0.0 p.0 p.2
    (same_failure g.S.Sink.fails one other same limits image c.args.sink.now c.run-in-Extract.new.sink c.in_err-run-in-Extract.field-0.0
    c.in_err-run-in-Extract.ensures.failed))

pub returns-in_err-convert_into-in-Convert-clause-failed : goal.returns-in_err-convert_into-in-Convert-clause-failed
returns-in_err-convert_into-in-Convert-clause-failed g c =
    let limits = c.args.limits in
    let image = c.args.image.now in
    let p = err_from_is_err_and c.from_residual-in_err-convert_into-in-Convert.result
    c.from_residual-in_err-convert_into-in-Convert.ensures.1 in
    rw (c.in-Convert.is, p.1)
    (call_failed g.S.Sink.fails (IsConvertedFile limits image) (IsConvertError limits image)
    c.args.sink.now c.convert_into.new.sink c.in_err-convert_into-in-Convert.field-0.0 p.0 p.2
    c.in_err-convert_into-in-Convert.ensures.failed)

pub returns-in-List-clause-appended : goal.returns-in-List-clause-appended
returns-in-List-clause-appended g c =
    let appended = c.in_ok-run-in-List.ensures.appended in
    rw (c.in-List.is)
    (record { text = appended.text; is_text = (appended.is_text, search rules); appended = appended.appended })

pub returns-in-Extract-clause-appended : goal.returns-in-Extract-clause-appended
returns-in-Extract-clause-appended g c =
    let appended = c.in_ok-run-in-Extract.ensures.appended in
    rw (c.in-Extract.is)
    (record {
      text = appended.text;
      is_text = (
        same_chosen c.select-select.result (select_of c.in-Extract.selection) c.select-select.ensures
            c.args.limits c.args.image.now appended.text appended.is_text,
        search rules,
      );
      appended = appended.appended;
    })
