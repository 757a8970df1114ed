use Rattle.std.proofs.Common.{◌≡◌, Some, codes, ap, refl}
use Rattle.bi_base.proofs.EqualBytes.{other_bytes}
use Rattle.bi_common.specs.declared.format.Format.TheVariants.{Json}
use Rattle.clap.specs.declared.parser.matches.ArgMatches.{ArgMatches}
use Rattle.bootimg.specs.CommandLine.{IsTask, json_flag, name_of_task}
use Rattle.bootimg.specs.declared.command_line.Task.{Task}
use Rattle.bootimg.specs.declared.command_line.Task.TheVariants as task

-- The names of tasks are those of other commands than `build-fit`, `explain` and `update`, and the tasks of `list` and `verify` are known.

pub not_a_task : (given : Task) → ¬ (codes "build-fit" ≡ name_of_task given)
not_a_task (task.Normalise form) = other_bytes (codes "build-fit") (codes "normalise") refl
not_a_task (task.Show how) = other_bytes (codes "build-fit") (codes "show") refl
not_a_task (task.List format) = other_bytes (codes "build-fit") (codes "list") refl
not_a_task (task.Describe deep format) = other_bytes (codes "build-fit") (codes "describe") refl
not_a_task (task.Verify format) = other_bytes (codes "build-fit") (codes "verify") refl
not_a_task (task.Check policy format) = other_bytes (codes "build-fit") (codes "check") refl
not_a_task (task.Scan format) = other_bytes (codes "build-fit") (codes "scan") refl
not_a_task (task.Get plan) = other_bytes (codes "build-fit") (codes "get") refl
not_a_task (task.Extract selection) = other_bytes (codes "build-fit") (codes "extract") refl
not_a_task task.Convert = other_bytes (codes "build-fit") (codes "convert") refl

pub no_task_explains : (given : Task) → ¬ (codes "explain" ≡ name_of_task given)
no_task_explains (task.Normalise form) same = other_bytes (codes "explain") (codes "normalise") refl same
no_task_explains (task.Show how) same = other_bytes (codes "explain") (codes "show") refl same
no_task_explains (task.List format) same = other_bytes (codes "explain") (codes "list") refl same
no_task_explains (task.Describe deep format) same = other_bytes (codes "explain") (codes "describe") refl same
no_task_explains (task.Verify format) same = other_bytes (codes "explain") (codes "verify") refl same
no_task_explains (task.Check policy format) same = other_bytes (codes "explain") (codes "check") refl same
no_task_explains (task.Scan format) same = other_bytes (codes "explain") (codes "scan") refl same
no_task_explains (task.Get plan) same = other_bytes (codes "explain") (codes "get") refl same
no_task_explains (task.Extract selection) same = other_bytes (codes "explain") (codes "extract") refl same
no_task_explains task.Convert same = other_bytes (codes "explain") (codes "convert") refl same

pub no_task_updates : (given : Task) → ¬ (codes "update" ≡ name_of_task given)
no_task_updates (task.Normalise form) same = other_bytes (codes "update") (codes "normalise") refl same
no_task_updates (task.Show how) same = other_bytes (codes "update") (codes "show") refl same
no_task_updates (task.List format) same = other_bytes (codes "update") (codes "list") refl same
no_task_updates (task.Describe deep format) same = other_bytes (codes "update") (codes "describe") refl same
no_task_updates (task.Verify format) same = other_bytes (codes "update") (codes "verify") refl same
no_task_updates (task.Check policy format) same = other_bytes (codes "update") (codes "check") refl same
no_task_updates (task.Scan format) same = other_bytes (codes "update") (codes "scan") refl same
no_task_updates (task.Get plan) same = other_bytes (codes "update") (codes "get") refl same
no_task_updates (task.Extract selection) same = other_bytes (codes "update") (codes "extract") refl same
no_task_updates task.Convert same = other_bytes (codes "update") (codes "convert") refl same

-- The task of `list --json`.
pub list_task : (options : ArgMatches) → json_flag options ≡ Some (codes "true") → (given : Task) → IsTask (codes "list") options given →
    given ≡ task.List Json
list_task options flag (task.Normalise form) is = absurd (other_bytes (codes "list") (codes "normalise") refl is.0)
list_task options flag (task.Show how) is = absurd (other_bytes (codes "list") (codes "show") refl is.0)
list_task options flag (task.List format) is = ap task.List (is.1.given flag)
list_task options flag (task.Describe deep format) is = absurd (other_bytes (codes "list") (codes "describe") refl is.0)
list_task options flag (task.Verify format) is = absurd (other_bytes (codes "list") (codes "verify") refl is.0)
list_task options flag (task.Check policy format) is = absurd (other_bytes (codes "list") (codes "check") refl is.0)
list_task options flag (task.Scan format) is = absurd (other_bytes (codes "list") (codes "scan") refl is.0)
list_task options flag (task.Get plan) is = absurd (other_bytes (codes "list") (codes "get") refl is.0)
list_task options flag (task.Extract selection) is = absurd (other_bytes (codes "list") (codes "extract") refl is.0)
list_task options flag task.Convert is = absurd (other_bytes (codes "list") (codes "convert") refl is.0)

-- The task of `verify --json`.
pub verify_task : (options : ArgMatches) → json_flag options ≡ Some (codes "true") → (given : Task) →
    IsTask (codes "verify") options given →
    given ≡ task.Verify Json
verify_task options flag (task.Normalise form) is = absurd (other_bytes (codes "verify") (codes "normalise") refl is.0)
verify_task options flag (task.Show how) is = absurd (other_bytes (codes "verify") (codes "show") refl is.0)
verify_task options flag (task.List format) is = absurd (other_bytes (codes "verify") (codes "list") refl is.0)
verify_task options flag (task.Describe deep format) is = absurd (other_bytes (codes "verify") (codes "describe") refl is.0)
verify_task options flag (task.Verify format) is = ap task.Verify (is.1.given flag)
verify_task options flag (task.Check policy format) is = absurd (other_bytes (codes "verify") (codes "check") refl is.0)
verify_task options flag (task.Scan format) is = absurd (other_bytes (codes "verify") (codes "scan") refl is.0)
verify_task options flag (task.Get plan) is = absurd (other_bytes (codes "verify") (codes "get") refl is.0)
verify_task options flag (task.Extract selection) is = absurd (other_bytes (codes "verify") (codes "extract") refl is.0)
verify_task options flag task.Convert is = absurd (other_bytes (codes "verify") (codes "convert") refl is.0)
