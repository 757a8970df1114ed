use Rattle.std.proofs.Common.{◌≡◌, ◌∙◌, ℕ, true, Bor, List, Option, Some, None, Result, Ok, Err, IfErr, ap, codes, inl, inr, is_some}
use Rattle.std.proofs.Common.{option_map}
use Rattle.std.proofs.Common.{refl, subst, sym, []}
use Rattle.std.specs.Box.{box_value}
use Rattle.std.specs.Result.{IsErrAnd}
use Rattle.clap.specs.Faults.{fault_of, is_simple_and_free}
use Rattle.clap.specs.Kinds.{HasKind}
use Rattle.clap.specs.Matches.{found_of, has_subcommand, subcommand_name_of}
use Rattle.clap.specs.Simple.{App, HasMatchesOf, is_simple, subcommand_of, subcommand_rows_of}
use Rattle.clap.specs.Walk.{Row, rows_of}
use Rattle.clap.specs.declared.error.Error.{Error as ClapError}
use Rattle.clap.specs.declared.parser.matches.ArgMatches.{ArgMatches}
use Rattle.clap.specs.declared.parser.matches.ArgMatches.TheViews.{out-ArgMatches, out-SubCommand}
use Rattle.bootimg.specs.CommandLine.{limit_of, Gives, HasNoText, HasText, IsBadValue, IsFailureOutcome, IsJob, IsLimits, IsNoRequest}
use Rattle.bootimg.specs.CommandLine.{IsOutcomeOf}
use Rattle.bootimg.specs.CommandLine.{IsAllFailure, IsAllRequest, IsAllRequested, IsNoneGiven, IsTaskFailure, NoJob, NoLimits, NoMemory}
use Rattle.bootimg.specs.CommandLine.{IsImagesFailure, NamesImages, NotAll, NotEach, SelectsAll}
use Rattle.bootimg.specs.declared.command_line.extract.AllRequest.{AllRequest}
use Rattle.bootimg.specs.Program.{program_app, IsCommandName}
use Rattle.bootimg.specs.declared.command_line.Job.{Job}
use Rattle.bootimg.specs.declared.command_line.NoRequest.{NoRequest}
use Rattle.bootimg.specs.declared.command_line.NoRequest.TheVariants as outcome
use Rattle.bootimg.specs.declared.failure.Failure.{Failure}
use Rattle.bootimg.proofs.ProgramFacts.{accepted_enters, accepted_is_command, program_is_free, program_is_simple}

-- Arguments that clap accepts give a command, and arguments that it rejects, or whose options are not a job or are not limits, request
-- nothing.

-- ---- what the arguments give

-- The halves of what a parse returns, and of what it entered.
abbrev name_returned : Bor (List ℕ) × Bor ArgMatches → List ℕ
name_returned p = p.0.now

abbrev rows_returned : Bor (List ℕ) × Bor ArgMatches → List Row
rows_returned p = rows_of (found_of p.1.now)

abbrev rows_entered : List ℕ × List Row → List Row
rows_entered p = p.1

abbrev entry_of : {B : Type 0} → (B → List ℕ) → (B → List Row) → B → List ℕ × List Row
entry_of name_in rows_in b = (name_in b, rows_in b)

-- An option of a pair, from the options of its halves.
pair_is : {B : Type 0} (entered : Option B) (name_in : B → List ℕ) (rows_in : B → List Row) (name : List ℕ) (rows : List Row)
    → Some name ≡ option_map name_in entered → Some rows ≡ option_map rows_entered (option_map (entry_of name_in rows_in) entered)
    → option_map (entry_of name_in rows_in) entered ≡ Some (name, rows)
pair_is None name_in rows_in name rows name_is rows_are = absurd cc
pair_is (Some b) name_in rows_in name rows name_is rows_are =
    let same_name : name_in b ≡ name = cc in
    let same_rows : rows_in b ≡ rows = cc in
    rw (same_name, same_rows) refl

-- The subcommand that a parse returned.
returned : (matches : ArgMatches) (result : Option (Bor (List ℕ) × Bor ArgMatches)) (name : Bor (List ℕ)) (options : Bor ArgMatches)
    → result ≡ Some (name, options) → option_map name_returned result ≡ subcommand_name_of matches
    → option_map rows_returned result ≡ option_map rows_entered (subcommand_rows_of matches)
    → subcommand_rows_of matches ≡ Some (name.now, rows_of (found_of options.now))
returned matches result name options is name_is rows_are =
    pair_is (out-ArgMatches matches).subcommand (λ b. (out-SubCommand (box_value b)).name.now)
    (λ b. rows_of (found_of (out-SubCommand (box_value b)).matches)) name.now (rows_of (found_of options.now))
    (ap (option_map name_returned) (sym is) ∙ name_is) (ap (option_map rows_returned) (sym is) ∙ rows_are)

-- What clap states of the program's arguments, if it accepts them.
accepted_by : (app : App) (arguments : List (List ℕ)) → app ≡ program_app → (is_simple_and_free app ≡ true → fault_of app arguments ≡ [])
    → fault_of program_app arguments ≡ []
accepted_by app arguments same none =
    subst (λ (a : App). fault_of a arguments ≡ []) same (none (ap is_simple_and_free same ∙ program_is_free))

entered_by : (app : App) (arguments : List (List ℕ)) (matches : ArgMatches) → app ≡ program_app → HasMatchesOf app arguments matches
    → subcommand_rows_of matches ≡ subcommand_of program_app arguments
entered_by app arguments matches same has =
    (has (ap is_simple same ∙ program_is_simple)).1 ∙ ap (λ (a : App). subcommand_of a arguments) same

-- What the arguments give, from what a parse returned.
pub arguments_give : (app : App) (arguments : List (List ℕ)) (matches : ArgMatches) (result : Option (Bor (List ℕ) × Bor ArgMatches))
    (name : Bor (List ℕ)) (options : Bor ArgMatches) → app ≡ program_app
    → (is_simple_and_free app ≡ true → fault_of app arguments ≡ []) → HasMatchesOf app arguments matches
    → result ≡ Some (name, options) → option_map name_returned result ≡ subcommand_name_of matches
    → option_map rows_returned result ≡ option_map rows_entered (subcommand_rows_of matches)
    → Gives arguments name.now options.now
arguments_give app arguments matches result name options same none has is name_is rows_are = record {
  accepted = accepted_by app arguments same none;
  given = sym (entered_by app arguments matches same has) ∙ returned matches result name options is name_is rows_are;
}

-- The name that is given is that of a command.
pub given_is_command : (arguments : List (List ℕ)) (name : List ℕ) (options : ArgMatches) → Gives arguments name options
    → IsCommandName name
given_is_command arguments name options gives =
    accepted_is_command arguments name (rows_of (found_of options)) gives.accepted gives.given

mapped_is_some : {A B : Type 0} (option : Option A) (f : A → B) → is_some (option_map f option) ≡ is_some option
mapped_is_some None f = refl
mapped_is_some (Some value) f = refl

-- A parse that clap accepts returns a subcommand.
pub subcommand_is_there : (app : App) (arguments : List (List ℕ)) (matches : ArgMatches) → app ≡ program_app
    → (is_simple_and_free app ≡ true → fault_of app arguments ≡ []) → HasMatchesOf app arguments matches → has_subcommand matches ≡ true
subcommand_is_there app arguments matches same none has =
    sym (mapped_is_some (out-ArgMatches matches).subcommand _) ∙ ap is_some (entered_by app arguments matches same has)
    ∙ accepted_enters arguments (accepted_by app arguments same none)

-- ---- arguments that request nothing

-- An outcome of such arguments is passed on.
passed_on : {T : Type 0} (arguments : List (List ℕ)) (result : Result T NoRequest) (failed : NoRequest)
    → IsErrAnd result (λ given. given ≡ failed) → IsNoRequest arguments failed → IfErr result (IsNoRequest arguments)
passed_on arguments (Ok value) failed is none = tt
passed_on arguments (Err given) failed is none = subst (λ o. IsNoRequest arguments o) (sym is) none

-- clap rejects the arguments, or has a text for them.
pub rejected_by_clap : {T : Type 0} (app : App) (arguments : List (List ℕ)) (error : ClapError) (result : Result T NoRequest)
    → app ≡ program_app → (is_simple_and_free app ≡ true → HasKind (fault_of app arguments) error)
    → IsErrAnd result (λ given. IsOutcomeOf error given) → IfErr result (IsNoRequest arguments)
rejected_by_clap app arguments error (Ok value) same kinds is = tt
rejected_by_clap app arguments error (Err given) same kinds is =
    by is (subst (λ (a : App). HasKind (fault_of a arguments) error) same (kinds (ap is_simple_and_free same ∙ program_is_free)))
  where
    by : IsOutcomeOf error given → HasKind (fault_of program_app arguments) error → IsNoRequest arguments given
    by (HasNoText memory failed) kind = subst (λ o. IsNoRequest arguments o) (sym failed) (NoMemory refl)
    by (HasText not_memory text) (inl memory) = absurd (not_memory memory)
    by (HasText not_memory text) (inr among) = subst (λ o. IsNoRequest arguments o) (sym text) among

-- The options of the command are not a job.
pub no_job : {T : Type 0} (arguments : List (List ℕ)) (name : List ℕ) (options : ArgMatches) (result : Result T NoRequest)
    (failed : NoRequest) → Gives arguments name options → IsErrAnd result (λ given. given ≡ failed)
    → IsFailureOutcome (IsTaskFailure name options) failed → IfErr result (IsNoRequest arguments)
no_job arguments name options result failed gives is bad = passed_on arguments result failed is (no_request failed bad)
  where
    no_request : (failed : NoRequest) → IsFailureOutcome (IsTaskFailure name options) failed → IsNoRequest arguments failed
    no_request (outcome.Failure failure) (inl why) = NoJob name options gives why
    no_request (outcome.Failure failure) (inr memory) = NoMemory memory
    no_request (outcome.Text text) none = absurd none

-- The options for several images request nothing.
pub not_each : {T : Type 0} (arguments : List (List ℕ)) (name : List ℕ) (options : ArgMatches) (result : Result T NoRequest)
    (failed : NoRequest) → Gives arguments name options → NamesImages name options → IsErrAnd result (λ given. given ≡ failed)
    → IsFailureOutcome (IsImagesFailure name options) failed → IfErr result (IsNoRequest arguments)
not_each arguments name options result failed gives names is bad = passed_on arguments result failed is (no_request failed bad)
  where
    no_request : (failed : NoRequest) → IsFailureOutcome (IsImagesFailure name options) failed → IsNoRequest arguments failed
    no_request (outcome.Failure failure) (inl why) = NotEach name options gives names why
    no_request (outcome.Failure failure) (inr memory) = NoMemory memory
    no_request (outcome.Text text) none = absurd none

-- The options of the command are not limits.
pub no_limits : {T : Type 0} (arguments : List (List ℕ)) (name : List ℕ) (options : ArgMatches) (job : Job) (result : Result T NoRequest)
    (failure : Failure) → Gives arguments name options → IsErrAnd result (λ given. given ≡ outcome.Failure failure) → IsJob name options job
    → IsBadValue (IsLimits (limit_of options)) failure → IfErr result (IsNoRequest arguments)
no_limits arguments name options job result failure gives is is_job bad =
    passed_on arguments result (outcome.Failure failure) is (NoLimits name options job gives is_job bad)

-- The options of `extract --all` request nothing.
pub no_all : (arguments : List (List ℕ)) (name : List ℕ) (options : ArgMatches) (failure : Failure) → Gives arguments name options
    → name ≡ codes "extract" → SelectsAll options true → IsAllFailure options failure → IsNoRequest arguments (outcome.Failure failure)
no_all arguments name options failure gives named selects bad =
    NotAll options (subst (λ n. Gives arguments n options) named gives) selects bad

-- They request all payloads.
pub all_requested : (arguments : List (List ℕ)) (name : List ℕ) (options : ArgMatches) (request : AllRequest)
    → Gives arguments name options → name ≡ codes "extract" → SelectsAll options true → IsNoneGiven options → IsAllRequest options request
    → IsAllRequested arguments request
all_requested arguments name options request gives named selects none is = record {
  options = options;
  given = subst (λ n. Gives arguments n options) named gives;
  selects = selects;
  none = none;
  is = is;
}
