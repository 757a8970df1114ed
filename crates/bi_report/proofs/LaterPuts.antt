use Rattle.std.proofs.Common.{◌≡◌, ℕ, Bool, false, List, [], ◌++◌, subst, sym}
use Rattle.bi_common.specs.LineTokens.{line_writing, tokens_of_lines}
use Rattle.bi_common.specs.Lines.{Line, text_of_lines}
use Rattle.bi_common.specs.Tokens.{PutsInTurn, PutsNothing, tokens_text}
use Rattle.bi_common.proofs.WrittenLines.{lines_put}

-- Tokens that are put piece by piece.

-- Once the tokens that are left are put, all are.
abbrev pub PutsLater : {S T : Type 0} → (S → List T → S → Type 0) → (begin now : S) → (left all : List T) → Type 0
PutsLater {S} puts begin now left all = (end : S) → puts now left end → puts begin all end

-- The next ones are put.
pub next_are_put : {S T : Type 0} (puts : S → List T → S → Type 0) → PutsInTurn puts → (begin now new : S) (left next later all : List T) →
    PutsLater puts begin now left all → left ≡ next ++ later → puts now next new → PutsLater puts begin new later all
next_are_put puts in_turn begin now new left next later all so_far is put end rest =
    so_far end (subst (λ tokens. puts now tokens end) (sym is) (in_turn now new end next later put rest))

-- None is left.
pub all_are_put : {S T : Type 0} (puts : S → List T → S → Type 0) → PutsNothing puts → (begin now : S) (left all : List T) →
    PutsLater puts begin now left all → left ≡ [] → puts begin all now
all_are_put puts nothing begin now left all so_far is = so_far now (subst (λ tokens. puts now tokens now) (sym is) (nothing now))

-- What a pen did to its sink, and what a new pen for lines was put, by the names that the caller has.
pub same_call : {S T : Type 0} (did : S → T → S → Type 0) (begin old end new : S) (text other : T) →
    begin ≡ old → end ≡ new → text ≡ other → did begin text end → did old other new
same_call did begin old end new text other first last same holds = rw (sym first, sym last, sym same) holds

pub lines_put_as : {P : Type 0} (puts : P → List ℕ → P → Type 0) (old new begin end : P) (before : Bool) (lines other : List Line) →
    lines ≡ other → before ≡ false → old ≡ begin → new ≡ end → puts old (tokens_text line_writing before (tokens_of_lines lines)) new →
    puts begin (text_of_lines other) end
lines_put_as puts old new begin end before lines other same first begins ends put =
    subst (λ lines. puts begin (text_of_lines lines) end) same (lines_put puts old new begin end before lines first begins ends put)
