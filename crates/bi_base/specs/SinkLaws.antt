use Rattle.std.specs.Prelude.{ℕ, List, ◌+◌, ◌++◌, length, take}
use Rattle.std.proofs.Common.{arith, sym, subst}
use Rattle.std.proofs.Math.Seq.{take-append-add}
use Rattle.std.proofs.lemmas.List.{length-append, take-append-le}
use Rattle.bi_base.specs.declared.fault.Error.{Error}
use Rattle.bi_base.specs.Sinks.{AppendsPrefix, AppendsInTurn, FailsWithin, FailsAfter, FailsBefore}

-- Laws of sinks that append a prefix if they fail. They are not in proofs/, since the sinks'
-- `ghost` members cite them.

-- A prefix of some bytes is a prefix of these and more.
pub prefix_more : {S : Type 0} (appends : S → List ℕ → S → Type 0) (old : S) (bytes more : List ℕ)
    (new : S)
    → AppendsPrefix appends old bytes new → AppendsPrefix appends old (bytes ++ more) new
prefix_more appends old bytes more new part = (
  part.0,
  omega (arith, length-append bytes more, part.1),
  subst (λ xs. appends old xs new) (sym (take-append-le part.0 bytes more part.1)) part.2,
)

-- After some bytes, a prefix of more is a prefix of both together.
pub prefix_after : {S : Type 0} (appends : S → List ℕ → S → Type 0)
    (in_turn : AppendsInTurn appends)
    (old mid new : S) (bytes more : List ℕ)
    → appends old bytes mid → AppendsPrefix appends mid more new
    → AppendsPrefix appends old (bytes ++ more) new
prefix_after appends in_turn old mid new bytes more first part = (
  length bytes + part.0,
  omega (arith, length-append bytes more, part.1),
  subst (λ xs. appends old xs new) (sym (take-append-add bytes more part.0))
      (in_turn old mid new bytes (take part.0 more) first part.2),
)

-- Sinks that fail with a prefix keep both laws of failures.
pub fails_after : {S : Type 0} (appends : S → List ℕ → S → Type 0) (Holds : S → Error → Type 0)
    → AppendsInTurn appends → FailsAfter appends (FailsWithin appends Holds)
fails_after appends Holds in_turn a b c xs ys error first failed =
    (prefix_after appends in_turn a b c xs ys first failed.0, failed.1)

pub fails_before : {S : Type 0} (appends : S → List ℕ → S → Type 0) (Holds : S → Error → Type 0)
    → FailsBefore (FailsWithin appends Holds)
fails_before appends Holds a b xs ys error failed =
    (prefix_more appends a xs ys b failed.0, failed.1)
