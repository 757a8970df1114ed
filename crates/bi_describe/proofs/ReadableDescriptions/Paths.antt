use Rattle.std.proofs.Common.{◌≡◌, ℕ, List, [], ◌∷◌, refl, sym}
use Rattle.std.specs.List.{AllByRecursion, flat_map}
use Rattle.bi_blob.specs.Tree.{IsChildName}
use Rattle.bi_common.specs.Shown.{shown_text}
use Rattle.bi_common.specs.Shown.{path}
use Rattle.bi_common.proofs.ReadableWords.Cuts.{Ends, cut_agrees, nothing_before, later_same}
use Rattle.bi_common.proofs.ReadableWords.ShownNames.{is_slash, same_shown, shown_no_slash, some_shown}

-- The names on the way to a node are read back from its path.

-- A slash and a shown name, for each of these names.
abbrev steps : List (List ℕ) → List ℕ
steps names = flat_map (λ name. 47 ∷ shown_text name) names

-- Steps end the name before them.
ends-steps : (names : List (List ℕ)) → Ends is_slash (steps names)
ends-steps [] = tt
ends-steps (name ∷ names) = refl

-- Names are read back from their steps.
same_steps : (one other : List (List ℕ)) → AllByRecursion IsChildName one → AllByRecursion IsChildName other → steps one ≡ steps other →
    one ≡ other
same_steps [] [] are also same = refl
same_steps [] (b ∷ other) are also same = absurd cc
same_steps (a ∷ one) [] are also same = absurd cc
same_steps (a ∷ one) (b ∷ other) are also same =
    let first = cut_agrees is_slash (shown_text a) (shown_text b) (steps one) (steps other)
    (shown_no_slash a are.0.no_slash) (shown_no_slash b also.0.no_slash) (ends-steps one) (ends-steps other) cc in
    let head : a ≡ b = same_shown a b first.0 in
    let tail : one ≡ other = same_steps one other are.1 also.1 first.1 in
    cc

-- The path of the root is that of no other node.
not_root : (name : List ℕ) (names : List (List ℕ)) → 47 ∷ [] ≡ steps (name ∷ names) → ⊥
not_root name names same = some_shown name (nothing_before (shown_text name) (steps names) (sym (later_same same)))

-- Names are read back from their path.
pub same_path : (one other : List (List ℕ)) → AllByRecursion IsChildName one → AllByRecursion IsChildName other → path one ≡ path other →
    one ≡ other
same_path [] [] are also same = refl
same_path [] (b ∷ other) are also same = absurd (not_root b other same)
same_path (a ∷ one) [] are also same = absurd (not_root a one (sym same))
same_path (a ∷ one) (b ∷ other) are also same = same_steps (a ∷ one) (b ∷ other) are also same
