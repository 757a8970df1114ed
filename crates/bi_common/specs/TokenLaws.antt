use Rattle.std.specs.Prelude.{◌≡◌, ℕ, Bool, List, [], ◌∷◌, ◌++◌, refl}
use Rattle.std.proofs.Common.{append_assoc, sym, ap, subst, ◌∙◌}
use Rattle.std.specs.Borrow.{MutBor}
use Rattle.bi_base.specs.Sinks.{AppendsInTurn, AppendsNothing}
use Rattle.bi_common.specs.Tokens.{PutsTokens, Writing, fact_after, tokens_text}

-- Tokens that are put in turn are put together.

-- The text of tokens in two parts, and the fact after them.
tokens_text-append : {X : Type 0} (writing : Writing X) (fact : Bool) (xs ys : List X)
    → tokens_text writing fact (xs ++ ys)
    ≡ tokens_text writing fact xs ++ tokens_text writing (fact_after writing fact xs) ys
tokens_text-append writing fact [] ys = refl
tokens_text-append writing fact (x ∷ xs) ys =
    ap (λ (later : List ℕ). writing.text fact x ++ later)
    (tokens_text-append writing (writing.next fact x) xs ys)
    ∙ sym (append_assoc (writing.text fact x) _ _)

fact_after-append : {X : Type 0} (writing : Writing X) (fact : Bool) (xs ys : List X)
    → fact_after writing fact (xs ++ ys) ≡ fact_after writing (fact_after writing fact xs) ys
fact_after-append writing fact [] ys = refl
fact_after-append writing fact (x ∷ xs) ys = fact_after-append writing (writing.next fact x) xs ys

pub puts_no_tokens : {P X : Type 0} (puts : P → List ℕ → P → Type 0) (writing : Writing X)
    → AppendsNothing puts → (pen : MutBor P) (fact : Bool)
    → PutsTokens puts writing pen fact [] pen fact
puts_no_tokens puts writing nothing pen fact = (refl, nothing pen.now, refl)

pub puts_tokens_in_turn : {P X : Type 0} (puts : P → List ℕ → P → Type 0) (writing : Writing X)
    → AppendsInTurn puts → (a b c : MutBor P) (at_a at_b at_c : Bool) (xs ys : List X)
    → PutsTokens puts writing a at_a xs b at_b → PutsTokens puts writing b at_b ys c at_c
    → PutsTokens puts writing a at_a (xs ++ ys) c at_c
puts_tokens_in_turn puts writing in_turn a b c at_a at_b at_c xs ys one other =
    let (same, first, fact) = one in
    let (same_next, second, next) = other in (
      same_next ∙ same,
      subst (λ (text : List ℕ). puts a.now text c.now) (sym (tokens_text-append writing at_a xs ys))
          (in_turn a.now b.now c.now _ _ first
          (subst (λ (own : Bool). puts b.now (tokens_text writing own ys) c.now) fact second)),
      next ∙ ap (λ (before : Bool). fact_after writing before ys) fact
          ∙ sym (fact_after-append writing at_a xs ys),
    )
