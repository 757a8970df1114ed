use Rattle.std.specs.Prelude.{◌≡◌, ℕ, List, map, refl}
use Rattle.std.proofs.Common.{sym, subst, ◌∙◌}
use Rattle.std.proofs.lemmas.List.{map-append}
use Rattle.bi_common.specs.LineTokens.{LineToken, NextField, EndOfLine}
use Rattle.bi_common.specs.Lines.{Field, Path, Text}
use Rattle.bi_common.specs.Tokens.{PutsInTurn, PutsNothing}
use Rattle.bi_describe.specs.declared.describe.inside.paths.InsidePen.{InsidePen}
use Rattle.bi_describe.specs.IgnoredWords.{inside_path}

-- A pen for the lines of a tree that is inside a payload.

-- A token of a line of the tree, with its path inside the payload with this path.
abbrev pub token_inside : (payload : List ℕ) → LineToken → LineToken
token_inside payload (NextField (Path names)) = NextField (Text (inside_path payload names))
token_inside payload token = token

-- What a call put to the pen that is borrowed.
pub record InsidePuts {L : Type 0} (puts : L → List LineToken → L → Type 0) (old : InsidePen L)
    (tokens : List LineToken) (new : InsidePen L) : Type 0
  where
    pub payload : new.payload.now ≡ old.payload.now
    pub same_borrow : new.pen.ghost_name ≡ old.pen.ghost_name
    pub put : puts old.pen.now (map (token_inside old.payload.now) tokens) new.pen.now

pub inside_puts_nothing : {L : Type 0} (puts : L → List LineToken → L → Type 0) → PutsNothing puts
    → PutsNothing (InsidePuts puts)
inside_puts_nothing puts nothing a =
    record { payload = refl; same_borrow = refl; put = nothing a.pen.now }

pub inside_puts_in_turn : {L : Type 0} (puts : L → List LineToken → L → Type 0) → PutsInTurn puts
    → PutsInTurn (InsidePuts puts)
inside_puts_in_turn puts in_turn a b c xs ys first second = record {
  payload = second.payload ∙ first.payload;
  same_borrow = second.same_borrow ∙ first.same_borrow;
  put = subst (λ tokens. puts a.pen.now tokens c.pen.now)
      (sym (map-append (token_inside a.payload.now) xs ys))
      (in_turn a.pen.now b.pen.now c.pen.now _ _ first.put
      (subst (λ payload. puts b.pen.now (map (token_inside payload) ys) c.pen.now) first.payload
      second.put));
}
