use Rattle.std.proofs.Common.{◌≡◌, ℕ, List, [], ◌∷◌, ◌++◌, append-nil, append_assoc, sym, subst, rules}
use Rattle.bi_common.specs.Json.{Json, json_array}
use Rattle.bi_common.specs.JsonTokens.{JsonToken, BeginArray, EndArray, MemberName, json_tokens, member_tokens, one, value_tokens}
use Rattle.bi_common.specs.LineTokens.{LineToken, line_tokens, tokens_of_lines}
use Rattle.bi_common.specs.Lines.{Line}
use Rattle.bi_common.specs.Tokens.{PutsInTurn, PutsNothing}

-- What is put in turn, and what is left of it.

-- Something was put to a pen, and with what is left it is all.
pub record IsPutBefore {S X : Type 0} (puts : S → List X → S → Type 0) (begin now : S) (left all : List X) : Type 0 where
  pub done : List X
  pub are_put : puts begin done now
  pub parts : done ++ left ≡ all

pub put_begins : {S X : Type 0} (puts : S → List X → S → Type 0) → PutsNothing puts → (begin : S) (left all : List X) → left ≡ all →
    IsPutBefore puts begin begin left all
put_begins puts nothing begin left all same = record { done = []; are_put = nothing begin; parts = same }

pub put_goes_on : {S X : Type 0} (puts : S → List X → S → Type 0) → PutsInTurn puts → (begin now next : S) (one later left all : List X) →
    IsPutBefore puts begin now left all → left ≡ one ++ later → puts now one next → IsPutBefore puts begin next later all
put_goes_on puts in_turn begin now next one later left all before is put = search (rules, append_assoc before.done one later)

pub put_ends : {S X : Type 0} (puts : S → List X → S → Type 0) (begin now : S) (left all : List X) → IsPutBefore puts begin now left all →
    left ≡ [] → puts begin all now
put_ends puts begin now left all before none = search (rules, append-nil)

-- Lines or members were put, by their tokens.
pub record ArePut {S T X : Type 0} (puts : S → List T → S → Type 0) (tokens : List X → List T) (old : S) (xs : List X) (new : S) : Type 0
  where
    pub put : puts old (tokens xs) new

-- Two lists of them, one after the other.
pub put_then : {S T X : Type 0} (puts : S → List T → S → Type 0) (tokens : List X → List T) →
    ((xs ys : List X) → tokens (xs ++ ys) ≡ tokens xs ++ tokens ys) → PutsInTurn puts → (a b c : S) (xs ys : List X) →
    puts a (tokens xs) b → ArePut puts tokens b ys c → ArePut puts tokens a (xs ++ ys) c
put_then puts tokens law in_turn a b c xs ys first second =
    record { put = subst (λ both. puts a both c) (sym (law xs ys)) (in_turn a b c (tokens xs) (tokens ys) first second.put) }

pub put_last : {S T X : Type 0} (puts : S → List T → S → Type 0) (tokens : List X → List T) (a b : S) (xs : List X) →
    puts a (tokens xs) b → ArePut puts tokens a xs b
put_last puts tokens a b xs put = record { put = put }

-- A line, a value, and a member whose value is an array.
pub one_line_put : {S : Type 0} (puts : S → List LineToken → S → Type 0) (a b : S) (words : Line) → puts a (line_tokens words) b →
    puts a (tokens_of_lines (words ∷ [])) b
one_line_put puts a b words put = subst (λ tokens. puts a tokens b) (sym (append-nil (line_tokens words))) put

pub one_value_put : {S : Type 0} (puts : S → List JsonToken → S → Type 0) (a b : S) (value : Json) → puts a (json_tokens value) b →
    puts a (value_tokens (value ∷ [])) b
one_value_put puts a b value put = subst (λ tokens. puts a tokens b) (sym (append-nil (json_tokens value))) put

pub list_member_put : {S : Type 0} (puts : S → List JsonToken → S → Type 0) → PutsInTurn puts → (a b c d e : S) (name : List ℕ)
    (values : List Json) → puts a (one (MemberName name)) b → puts b (one BeginArray) c → puts c (value_tokens values) d →
    puts d (one EndArray) e → puts a (member_tokens ((name, json_array values) ∷ [])) e
list_member_put puts in_turn a b c d e name values first begins put ends = search (rules, append-nil)
