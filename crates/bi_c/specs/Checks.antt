use Rattle.std.specs.Prelude.{ℕ, ◌≤◌, ◌≡◌, ◌⊎◌, ⊤, List, Option, None, Some, slice_get, take}
use Rattle.std.specs.List.{AllByRecursion}
use Rattle.bi_base.specs.Limits.{IsInRange}
use Rattle.bi_c.specs.declared.argument.Argument.{Argument}
use Rattle.bi_c.specs.declared.argument.Argument.TheVariants as argument
use Rattle.bi_c.specs.declared.failure.Failure.{Failure}
use Rattle.bi_c.specs.declared.failure.Failure.TheVariants.{WrongArgument, OutOfMemory}

-- What a call from C finds when it checks its arguments (profile of this project). A check has None
-- if all of them are valid. If not, it has the first that is wrong, and an index: that of the first
-- wrong element if the argument is an array, and otherwise 0.

-- The number of an argument. A call checks its arguments in the order of their numbers.
abbrev pub argument_number : Argument → ℕ
argument_number argument.Options = 1
argument_number argument.Limit = 2
argument_number argument.Depth = 3
argument_number argument.Form = 4
argument_number argument.Changes = 5
argument_number argument.Layout = 6
argument_number argument.Kinds = 7
argument_number argument.Key = 8
argument_number argument.Field = 9
argument_number argument.Code = 10
argument_number argument.Number = 11
argument_number argument.Place = 12
argument_number argument.Fields = 13
argument_number argument.Parts = 14
argument_number argument.Words = 15
argument_number argument.Edits = 16
argument_number argument.Images = 17
argument_number argument.Texts = 18
argument_number argument.Lists = 19
argument_number argument.Algorithms = 20
argument_number argument.Configurations = 21

-- No argument is checked.
abbrev pub NoCheck : Option (Argument × ℕ) → Type 0
NoCheck None = ⊤
NoCheck (Some found) = ⊥

-- After other checks, the next argument is checked: all arguments so far are valid, or this one is
-- the first that is wrong.
abbrev pub NextCheck : (First : Option (Argument × ℕ) → Type 0) → (next : Argument)
    → (AreValid : Type 0) → Option (Argument × ℕ) → Type 0
NextCheck First next AreValid None = AreValid
NextCheck First next AreValid (Some found) =
    First (Some found) ⊎ ((found.0 ≡ next) × (found.1 ≡ 0) × First None × ¬ AreValid)

-- The element with this index is the first of a list that is not valid.
pub record IsFirstWrong {T : Type 0} (IsValid : T → Type 0) (elements : List T) (index : ℕ) : Type 0
  where
    pub element : T
    pub is_there : slice_get elements index ≡ Some element
    pub before : AllByRecursion IsValid (take index elements)
    pub is_wrong : ¬ (IsValid element)

-- After other checks, the elements of an array are checked.
abbrev pub ArrayCheck : {T : Type 0} (First : Option (Argument × ℕ) → Type 0) → (array : Argument)
    → (IsValid : T → Type 0) → List T → Option (Argument × ℕ) → Type 0
ArrayCheck First array IsValid elements None = First None × AllByRecursion IsValid elements
ArrayCheck First array IsValid elements (Some found) =
    First (Some found)
    ⊎ ((found.0 ≡ array) × First None × IsFirstWrong IsValid elements found.1)

-- The arguments are not all valid, and this one is the first that is wrong.
abbrev pub IsWrong : (Check : Option (Argument × ℕ) → Type 0) → Argument → (index : ℕ) → Type 0
IsWrong Check found index = (¬ (Check None)) × Check (Some (found, index))

-- Why the elements of an array are refused. Memory may run out before all are looked at.
abbrev pub IsElementFailure : {T : Type 0} (array : Argument) (IsValid : T → Type 0) → List T
    → Failure → Type 0
IsElementFailure array IsValid elements (WrongArgument found index) =
    (found ≡ array) × IsFirstWrong IsValid elements index
IsElementFailure array IsValid elements OutOfMemory = ⊤
IsElementFailure array IsValid elements other = ⊥

-- ---- limits

-- The limit is in its range.
abbrev pub IsLimit : ℕ → Type 0
IsLimit limit = (64 ≤ limit) × (limit ≤ 0x7fffffff)

-- The argument is the limit, which is out of its range, or the depth.
abbrev pub IsWrongLimit : (limit : ℕ) → Argument → Type 0
IsWrongLimit limit found =
    ((found ≡ argument.Limit) × ¬ (IsLimit limit)) ⊎ ((found ≡ argument.Depth) × IsLimit limit)

-- A limit and a depth are checked.
abbrev pub LimitsCheck : (limit depth : ℕ) → Option (Argument × ℕ) → Type 0
LimitsCheck limit depth =
    NextCheck (NextCheck NoCheck argument.Limit (IsLimit limit)) argument.Depth
    (IsInRange limit depth)
