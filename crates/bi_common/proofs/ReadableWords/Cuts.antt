use Rattle.std.proofs.Common.{◌≡◌, ℕ, Bool, true, false, not, eqb, List, [], ◌∷◌, ◌++◌, refl, sym, ap, ◌∙◌, true≢false}
use Rattle.std.specs.Prelude.{⊤}
use Rattle.std.proofs.lemmas.Bool.{not-true, and_parts, eqb-false}
use Rattle.std.specs.List.{AllByRecursion, list_all, flat_map}

-- A list that goes on to the first byte that ends it is read back from what follows it.

-- None of these bytes ends a list.
abbrev pub HasNoEnd : (ℕ → Bool) → List ℕ → Type 0
HasNoEnd ends bytes = AllByRecursion (λ byte. ends byte ≡ false) bytes

-- Nothing, or a byte that ends a list and what follows it.
abbrev pub Ends : (ℕ → Bool) → List ℕ → Type 0
Ends ends [] = ⊤
Ends ends (byte ∷ later) = ends byte ≡ true

-- Two lists that go on, each with an end, are equal if they are equal with their ends.
pub cut_agrees : (ends : ℕ → Bool) (one other x y : List ℕ) → HasNoEnd ends one → HasNoEnd ends other → Ends ends x → Ends ends y →
    one ++ x ≡ other ++ y → (one ≡ other) × (x ≡ y)
cut_agrees ends [] [] x y goes others end ending same = (refl, same)
cut_agrees ends [] (b ∷ other) [] y goes others end ending same = absurd cc
cut_agrees ends [] (b ∷ other) (c ∷ x) y goes others end ending same =
    let first : c ≡ b = cc in absurd (true≢false (sym end ∙ ap ends first ∙ others.0))
cut_agrees ends (a ∷ one) [] x [] goes others end ending same = absurd cc
cut_agrees ends (a ∷ one) [] x (c ∷ y) goes others end ending same =
    let first : a ≡ c = cc in absurd (true≢false (sym ending ∙ ap ends (sym first) ∙ goes.0))
cut_agrees ends (a ∷ one) (b ∷ other) x y goes others end ending same =
    let first : a ≡ b = cc in
    let rest = cut_agrees ends one other x y goes.1 others.1 end ending cc in
    (cc, rest.1)

-- Bytes that pass the test.
pub has_no_end : (ends : ℕ → Bool) (bytes : List ℕ) → list_all (λ byte. not (ends byte)) bytes ≡ true → HasNoEnd ends bytes
has_no_end ends [] passes = tt
has_no_end ends (byte ∷ later) passes =
    let both = and_parts (not (ends byte)) (list_all (λ byte. not (ends byte)) later) passes in
    (not-true (ends byte) both.0, has_no_end ends later both.1)

-- Two lists that go on.
pub goes_on-append : (ends : ℕ → Bool) (one other : List ℕ) → HasNoEnd ends one → HasNoEnd ends other → HasNoEnd ends (one ++ other)
goes_on-append ends [] other goes others = others
goes_on-append ends (byte ∷ later) other goes others = (goes.0, goes_on-append ends later other goes.1 others)

-- Lists that go on, one after the other.
pub goes_on-flat_map : {X : Type 0} (ends : ℕ → Bool) (f : X → List ℕ) (xs : List X) → AllByRecursion (λ x. HasNoEnd ends (f x)) xs →
    HasNoEnd ends (flat_map f xs)
goes_on-flat_map ends f [] each = tt
goes_on-flat_map ends f (x ∷ xs) each = goes_on-append ends (f x) (flat_map f xs) each.0 (goes_on-flat_map ends f xs each.1)

-- The code of each element is read back from what follows it.
abbrev pub IsReadBack : {X : Type 0} → (X → List ℕ) → Type 0
IsReadBack {X} code = (a b : X) (x y : List ℕ) → code a ++ x ≡ code b ++ y → (a ≡ b) × (x ≡ y)

-- Of two lists that are nothing together, the first is.
pub nothing_before : {X : Type 0} (one other : List X) → one ++ other ≡ [] → one ≡ []
nothing_before [] other same = refl
nothing_before (x ∷ one) other same = absurd cc

-- So are the elements of lists from their codes one after the other, if no code is empty.
pub codes_agree : {X : Type 0} (code : X → List ℕ) → IsReadBack code → ((x : X) → code x ≡ [] → ⊥) → (xs ys : List X) →
    flat_map code xs ≡ flat_map code ys → xs ≡ ys
codes_agree code reads some [] [] same = refl
codes_agree code reads some [] (y ∷ ys) same = absurd (some y (nothing_before (code y) (flat_map code ys) (sym same)))
codes_agree code reads some (x ∷ xs) [] same = absurd (some x (nothing_before (code x) (flat_map code xs) same))
codes_agree code reads some (x ∷ xs) (y ∷ ys) same =
    let first = reads x y (flat_map code xs) (flat_map code ys) same in
    let rest = codes_agree code reads some xs ys first.1 in
    let head : x ≡ y = first.0 in
    cc

-- The first elements of equal lists are equal.
pub first_same : {X : Type 0} {a b : X} {xs ys : List X} → a ∷ xs ≡ b ∷ ys → a ≡ b
first_same same = cc

-- So are the elements after them.
pub later_same : {X : Type 0} {a b : X} {xs ys : List X} → a ∷ xs ≡ b ∷ ys → xs ≡ ys
later_same same = cc

-- Lists that begin with different bytes differ.
pub begin_apart : (a b : ℕ) (xs ys : List ℕ) → eqb a b ≡ false → a ∷ xs ≡ b ∷ ys → ⊥
begin_apart a b xs ys differ same = eqb-false a b differ (first_same same)
