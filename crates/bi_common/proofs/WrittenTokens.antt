use Rattle.std.proofs.Common.{◌≤◌, length, take, take_all}
use Rattle.std.proofs.Common.{◌≡◌, ℕ, Bool, true, false, List, [], ◌∷◌, ◌++◌}
use Rattle.std.proofs.Common.{append-nil, append_assoc, refl, sym, ap, ◌∙◌, flat_map, map, subst}
use Rattle.bi_common.specs.Json.{Json, JsonValues, JsonMembers, Member, comma, json_text, members_text, string_text, values_text}
use Rattle.bi_common.specs.Json.{json_null, json_bool, json_number, json_string, array_of}
use Rattle.bi_common.specs.Json.{object_of, no_value, next_value, no_member, next_member}
use Rattle.bi_common.specs.JsonTokens.{JsonToken, EndArray, EndObject, MemberName}
use Rattle.bi_common.specs.JsonTokens.{json_writing, one, json_tokens, tokens_of_members, tokens_of_values}
use Rattle.bi_common.specs.JsonTokens.{member_tokens, value_tokens}
use Rattle.bi_common.specs.Tokens.{tokens_text}

-- The text that is put for the tokens of a value is the text of the value.

-- The parts of a member and the text after it.
member_parts : (before name value later rest : List ℕ) →
    (before ++ (name ++ (58 ∷ []))) ++ (value ++ (later ++ rest)) ≡ (before ++ (name ++ (58 ∷ (value ++ later)))) ++ rest
member_parts before name value later rest = simp append_assoc refl

mutual
  unfolding one

  value_written : (value : Json) (is_later : Bool) (rest : List JsonToken) →
      tokens_text json_writing is_later (json_tokens value ++ rest)
      ≡ (comma is_later ++ json_text value) ++ tokens_text json_writing true rest
  value_written json_null is_later rest = refl
  value_written (json_bool value) is_later rest = refl
  value_written (json_number number) is_later rest = refl
  value_written (json_string bytes) is_later rest = refl
  value_written (array_of values) is_later rest =
      simp append_assoc (ap (λ (text : List ℕ). comma is_later ++ (91 ∷ text)) (values_written values false rest))
  value_written (object_of members) is_later rest =
      simp append_assoc (ap (λ (text : List ℕ). comma is_later ++ (123 ∷ text)) (members_written members false rest))

  values_written : (values : JsonValues) (is_later : Bool) (rest : List JsonToken) →
      tokens_text json_writing is_later (tokens_of_values values ++ (EndArray ∷ rest))
      ≡ values_text is_later values ++ (93 ∷ tokens_text json_writing true rest)
  values_written no_value is_later rest = refl
  values_written (next_value value later) is_later rest =
      ap (tokens_text json_writing is_later) (append_assoc (json_tokens value) (tokens_of_values later) (EndArray ∷ rest))
      ∙ value_written value is_later (tokens_of_values later ++ (EndArray ∷ rest))
      ∙ ap (λ (text : List ℕ). (comma is_later ++ json_text value) ++ text) (values_written later true rest)
      ∙ simp append_assoc refl

  members_written : (members : JsonMembers) (is_later : Bool) (rest : List JsonToken) →
      tokens_text json_writing is_later (tokens_of_members members ++ (EndObject ∷ rest))
      ≡ members_text is_later members ++ (125 ∷ tokens_text json_writing true rest)
  members_written no_member is_later rest = refl
  members_written (next_member name value later) is_later rest =
      ap (λ (text : List ℕ). (comma is_later ++ (string_text name ++ (58 ∷ []))) ++ text)
      (ap (tokens_text json_writing false) (append_assoc (json_tokens value) (tokens_of_members later) (EndObject ∷ rest))
      ∙ value_written value false (tokens_of_members later ++ (EndObject ∷ rest))
      ∙ ap (λ (text : List ℕ). json_text value ++ text) (members_written later true rest))
      ∙ member_parts (comma is_later) (string_text name) (json_text value) (members_text true later) _

pub text_of_value : (value : Json) → tokens_text json_writing false (json_tokens value) ≡ json_text value
text_of_value value =
    ap (tokens_text json_writing false) (sym (append-nil (json_tokens value))) ∙ value_written value false [] ∙ append-nil (json_text value)

-- A new pen for JSON was put the tokens of a value: its text was put to the pen below.
pub value_put : {P : Type 0} (puts : P → List ℕ → P → Type 0) (old new begin end : P) (before : Bool) (value : Json) → before ≡ false →
    old ≡ begin → new ≡ end → puts old (tokens_text json_writing before (json_tokens value)) new → puts begin (json_text value) end
value_put puts old new begin end before value first begins ends put =
    rw (sym begins, sym ends)
    (subst (λ (text : List ℕ). puts old text new)
    (ap (λ b. tokens_text json_writing b (json_tokens value)) first ∙ text_of_value value) put)

-- The tokens of values, and of members, for the elements of a list.
values_each : {X : Type 0} (f : X → Json) (xs : List X) → value_tokens (map f xs) ≡ flat_map (λ x. json_tokens (f x)) xs
values_each f [] = refl
values_each f (x ∷ xs) = ap (λ (tokens : List JsonToken). json_tokens (f x) ++ tokens) (values_each f xs)

-- They were put for all elements of a list.
pub values_put : {S X : Type 0} (puts : S → List JsonToken → S → Type 0) (f : X → Json) (xs : List X) (n : ℕ) (old new : S) →
    length xs ≤ n → puts old (flat_map (λ x. json_tokens (f x)) (take n xs)) new → puts old (value_tokens (map f xs)) new
values_put puts f xs n old new all put =
    subst (λ (tokens : List JsonToken). puts old tokens new)
    (ap (flat_map (λ x. json_tokens (f x))) (take_all n xs all) ∙ sym (values_each f xs)) put

members_each : {X : Type 0} (f : X → Member) (xs : List X) → member_tokens (map f xs) ≡ flat_map (λ x. member_tokens (f x ∷ [])) xs
members_each f [] = refl
members_each f (x ∷ xs) =
    ap (λ (tokens : List JsonToken). one (MemberName (f x).0) ++ (json_tokens (f x).1 ++ tokens)) (members_each f xs)
    ∙ sym (append_assoc (one (MemberName (f x).0)) (json_tokens (f x).1 ++ []) _
    ∙ ap (λ (tokens : List JsonToken). one (MemberName (f x).0) ++ tokens) (append_assoc (json_tokens (f x).1) [] _))

pub members_put : {S X : Type 0} (puts : S → List JsonToken → S → Type 0) (f : X → Member) (xs : List X) (n : ℕ) (old new : S) →
    length xs ≤ n → puts old (flat_map (λ x. member_tokens (f x ∷ [])) (take n xs)) new → puts old (member_tokens (map f xs)) new
members_put puts f xs n old new all put =
    subst (λ (tokens : List JsonToken). puts old tokens new)
    (ap (flat_map (λ x. member_tokens (f x ∷ []))) (take_all n xs all) ∙ sym (members_each f xs)) put

-- The tokens of values, and of members, in two parts.
pub value_tokens-append : (xs ys : List Json) → value_tokens (xs ++ ys) ≡ value_tokens xs ++ value_tokens ys
value_tokens-append [] ys = refl
value_tokens-append (x ∷ xs) ys =
    ap (λ (tokens : List JsonToken). json_tokens x ++ tokens) (value_tokens-append xs ys)
    ∙ sym (append_assoc (json_tokens x) (value_tokens xs) (value_tokens ys))

pub member_tokens-append : (xs ys : List Member) → member_tokens (xs ++ ys) ≡ member_tokens xs ++ member_tokens ys
member_tokens-append [] ys = refl
member_tokens-append (x ∷ xs) ys =
    ap (λ (tokens : List JsonToken). one (MemberName x.0) ++ (json_tokens x.1 ++ tokens)) (member_tokens-append xs ys)
    ∙ sym (append_assoc (one (MemberName x.0)) (json_tokens x.1 ++ member_tokens xs) (member_tokens ys)
    ∙ ap (λ (tokens : List JsonToken). one (MemberName x.0) ++ tokens)
    (append_assoc (json_tokens x.1) (member_tokens xs) (member_tokens ys)))
