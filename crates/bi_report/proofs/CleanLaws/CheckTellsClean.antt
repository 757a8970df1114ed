use Rattle.bi_report.specs.CleanFiles.{CheckTellsClean}
use Rattle.bi_report.proofs.CleanLaws.EmptyIsClean.{clean_file_has_none, file_is_clean}

-- The value of `check` is whether the file is clean.

pub check_tells_clean : CheckTellsClean
check_tells_clean format allowed limits clean file text is =
    let concerns = is.checked.concerns in
    let are = is.checked.are_concerns in (
      λ none. file_is_clean allowed limits file concerns are (is.is_empty.0 none),
      λ all. is.is_empty.1 (clean_file_has_none allowed limits file concerns are all),
    )
