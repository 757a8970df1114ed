use Rattle.std.proofs.Common.{◌≡◌, Option, Some, None, Result, Ok, Err, IfOk, IfNone, IfSome, MatchOption}

-- What is known of a result that may have a value.

-- What is known where there is none.
pub holds_of_none : {V : Type 0} {A : Type 0} (found : Option V) → found ≡ None → IfNone found A → A
holds_of_none None is holds = holds
holds_of_none (Some value) is holds = absurd cc

-- What follows where there is none.
pub none_by : {V E : Type 0} {A B : Type 0} (result : Result (Option V) E) → (A → B) → IfOk result (λ found. IfNone found A) →
    IfOk result (λ found. IfNone found B)
none_by (Ok None) from holds = from holds
none_by (Ok (Some value)) from holds = tt
none_by (Err error) from holds = tt

-- The two cases of an option.
pub holds_if_some : {V : Type 0} (A : Type 0) (P : V → Type 0) (found : Option V) → MatchOption found A P → IfSome found P
holds_if_some A P None holds = tt
holds_if_some A P (Some value) holds = holds

pub holds_if_none : {V : Type 0} (A : Type 0) (P : V → Type 0) (found : Option V) → MatchOption found A P → IfNone found A
holds_if_none A P None holds = holds
holds_if_none A P (Some value) holds = tt

-- What follows of the value.
pub some_by : {V E : Type 0} {P : V → Type 0} (Q : V → Type 0) (result : Result (Option V) E) → ((value : V) → P value → Q value) →
    IfOk result (λ found. IfSome found P) → IfOk result (λ found. IfSome found Q)
some_by Q (Ok None) from holds = tt
some_by Q (Ok (Some value)) from holds = from value holds
some_by Q (Err error) from holds = tt
