use Rattle.std.specs.Prelude.{ℕ, ◌≤◌, ◌++◌, List, [], length, take, Result, MatchResult}
use Rattle.bi_base.specs.declared.fault.Error.{Error}

-- What a sink is: something that bytes are appended to. A sink's `appends` relates the sink before
-- a call that succeeds, the bytes, and the sink after it; its `fails` relates the sink before a
-- call that fails, the bytes that were to be appended, the sink after it, and the error (profile of
-- this project).

-- What a call that appends these bytes to a sink did, whatever value it returns.
abbrev pub Wrote : {S V : Type 0} → (S → List ℕ → S → Type 0) → (S → List ℕ → S → Error → Type 0)
    → S → List ℕ → Result V Error → S → Type 0
Wrote appends fails old bytes result new =
    MatchResult result (λ _. appends old bytes new) (fails old bytes new)

-- A prefix of these bytes was appended.
abbrev pub AppendsPrefix : {S : Type 0} → (S → List ℕ → S → Type 0) → S → List ℕ → S → Type 0
AppendsPrefix appends old bytes new = (n : ℕ) × (n ≤ length bytes) × appends old (take n bytes) new

-- How most sinks fail: a prefix of the bytes was appended, and the error and the sink after it meet
-- a condition.
abbrev pub FailsWithin : {S : Type 0} → (S → List ℕ → S → Type 0) → (S → Error → Type 0)
    → S → List ℕ → S → Error → Type 0
FailsWithin appends Holds old bytes new error = AppendsPrefix appends old bytes new
    × Holds new error

-- The law that appending nothing changes nothing.
abbrev pub AppendsNothing : {S : Type 0} → (S → List ℕ → S → Type 0) → Type 0
AppendsNothing {S} appends = (a : S) → appends a [] a

-- The law that two appends in turn are one append of both lists.
abbrev pub AppendsInTurn : {S : Type 0} → (S → List ℕ → S → Type 0) → Type 0
AppendsInTurn {S} appends =
    (a b c : S) (xs ys : List ℕ) → appends a xs b → appends b ys c → appends a (xs ++ ys) c

-- The law that a failure after some bytes were appended is a failure to append these and the
-- others.
abbrev pub FailsAfter : {S : Type 0} → (S → List ℕ → S → Type 0) → (S → List ℕ → S → Error → Type 0)
    → Type 0
FailsAfter {S} appends fails =
    (a b c : S) (xs ys : List ℕ) (error : Error) → appends a xs b → fails b ys c error
    → fails a (xs ++ ys) c error

-- The law that a failure to append some bytes is a failure to append these and more.
abbrev pub FailsBefore : {S : Type 0} → (S → List ℕ → S → Error → Type 0) → Type 0
FailsBefore {S} fails =
    (a b : S) (xs ys : List ℕ) (error : Error) → fails a xs b error → fails a (xs ++ ys) b error
