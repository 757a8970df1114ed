use Rattle.std.proofs.Common.{◌≢◌, codes, arith, rules}
use Rattle.std.specs.Fmt.{digits}
use Rattle.std.specs.List.{AllByRecursion}
use Rattle.bi_base.proofs.ByteLists.{bytes_by_test}
use Rattle.bi_commands.specs.KnownPayloadFiles.{FileNamesAreKnown, ImageFilesAreKnown, PartFilesAreKnown, SafeNamesAreKnown}
use Rattle.bi_commands.proofs.FileNames.{safe_image_name}

-- Some small names are safe names of files. The payloads of some small boot images have these files.

pub file_names_are_known : FileNamesAreKnown
unfolding digits
file_names_are_known = search rules

-- The names `a.b` and `..` have no slash.
plain_no_slash : AllByRecursion (λ byte. byte ≢ 47) (codes "a.b")
plain_no_slash = (λ is. omega (arith, is), (λ is. omega (arith, is), (λ is. omega (arith, is), tt)))

dots_no_slash : AllByRecursion (λ byte. byte ≢ 47) (codes "..")
dots_no_slash = (λ is. omega (arith, is), (λ is. omega (arith, is), tt))

pub safe_names_are_known : SafeNamesAreKnown
safe_names_are_known = search (rules, safe_image_name, bytes_by_test, plain_no_slash, dots_no_slash)

pub part_files_are_known : PartFilesAreKnown
unfolding digits
part_files_are_known = search rules

pub image_files_are_known : ImageFilesAreKnown
image_files_are_known = search rules
