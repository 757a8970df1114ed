use Rattle.std.specs.Prelude.{◌≡◌, ℕ, Bool, List, [], ◌∷◌, ◌++◌}
use Rattle.std.specs.Borrow.{MutBor}

-- Pens that tokens are put to, and how they put the text of the tokens to another pen. The text of
-- a token may depend on what was put before it: on one fact, which each token makes true or false.

-- The law that putting nothing changes nothing.
abbrev pub PutsNothing : {S X : Type 0} → (S → List X → S → Type 0) → Type 0
PutsNothing {S} puts = (a : S) → puts a [] a

-- The law that two puts in turn are one put of both lists.
abbrev pub PutsInTurn : {S X : Type 0} → (S → List X → S → Type 0) → Type 0
PutsInTurn {S} {X} puts =
    (a b c : S) (xs ys : List X) → puts a xs b → puts b ys c → puts a (xs ++ ys) c

-- How tokens are written: the text of a token, and the fact after it, by the fact before it.
pub record Writing (X : Type 0) : Type 0 where
  pub text : Bool → X → List ℕ
  pub next : Bool → X → Bool

-- The text of tokens.
abbrev pub tokens_text : {X : Type 0} → Writing X → Bool → List X → List ℕ
tokens_text writing fact [] = []
tokens_text writing fact (token ∷ later) =
    writing.text fact token ++ tokens_text writing (writing.next fact token) later

-- The fact after tokens.
abbrev pub fact_after : {X : Type 0} → Writing X → Bool → List X → Bool
fact_after writing fact [] = fact
fact_after writing fact (token ∷ later) = fact_after writing (writing.next fact token) later

-- The text of tokens was put to a pen that is borrowed, and the fact is that after them.
abbrev pub PutsTokens : {P X : Type 0} → (P → List ℕ → P → Type 0) → Writing X
    → (old : MutBor P) → Bool → List X → (new : MutBor P) → Bool → Type 0
PutsTokens puts writing old before tokens new after =
    (new.ghost_name ≡ old.ghost_name)
    × puts old.now (tokens_text writing before tokens) new.now
    × (after ≡ fact_after writing before tokens)
