use Rattle.std.proofs.Common.{◌≡◌, ℕ, zero, suc, ◌+◌, Bool, true, false, List, [], ◌∷◌, ◌++◌, Some, get_or, length, slice_get}
use Rattle.std.proofs.Common.{refl, sym, subst, ◌∙◌, true≢false, append_assoc, length-append}
use Rattle.std.specs.Prelude.{slice_index_or}
use Rattle.std.specs.List.{AllByRecursion}
use Rattle.bi_blob.specs.Tree.{AreDistinct, IsNew}
use Rattle.bi_fdt.specs.Numbers.{AreNumbered, IsNumberOf}
use Rattle.bi_plain.specs.Ranked.{marked_names, marked_numbers, marked_table}

-- The names that have marks, and their numbers.

-- A name is at the number after those before it.
at_end : (front : List (List ℕ)) (name : List ℕ) (later : List (List ℕ)) → slice_get (front ++ (name ∷ later)) (length front) ≡ Some name
at_end [] name later = refl
at_end (first ∷ front) name later = at_end front name later

-- The numbers are those of the names.
numbered_after : (front all names : List (List ℕ)) (marks : List Bool) → all ≡ front ++ marked_names names marks →
    AreNumbered all (marked_table names marks) (marked_numbers (length front) names marks)
numbered_after front all [] marks is = tt
numbered_after front all (name ∷ names) [] is = tt
numbered_after front all (name ∷ names) (true ∷ marks) is =
    let longer : length (front ++ name ∷ []) ≡ length front + 1 = length-append front (name ∷ []) in (
      subst (λ list. slice_get list (length front) ≡ Some name) (sym is) (at_end front name (marked_names names marks)),
      subst (λ n. AreNumbered all (marked_table names marks) (marked_numbers n names marks)) longer
          (numbered_after (front ++ name ∷ []) all names marks (is ∙ sym (append_assoc front (name ∷ []) (marked_names names marks)))),
    )
numbered_after front all (name ∷ names) (false ∷ marks) is = (tt, numbered_after front all names marks is)

pub marked_are_numbered : (names : List (List ℕ)) (marks : List Bool) →
    AreNumbered (marked_names names marks) (marked_table names marks) (marked_numbers 0 names marks)
marked_are_numbered names marks = numbered_after [] (marked_names names marks) names marks refl

-- They stay distinct.
new_marked : (name : List ℕ) (names : List (List ℕ)) (marks : List Bool) → IsNew name names → IsNew name (marked_names names marks)
new_marked name [] marks new = tt
new_marked name (first ∷ names) [] new = tt
new_marked name (first ∷ names) (true ∷ marks) new = (new.0, new_marked name names marks new.1)
new_marked name (first ∷ names) (false ∷ marks) new = new_marked name names marks new.1

pub marked_are_distinct : (names : List (List ℕ)) (marks : List Bool) → AreDistinct names → AreDistinct (marked_names names marks)
marked_are_distinct [] marks distinct = tt
marked_are_distinct (name ∷ names) [] distinct = tt
marked_are_distinct (name ∷ names) (true ∷ marks) distinct =
    (new_marked name names marks distinct.0, marked_are_distinct names marks distinct.1)
marked_are_distinct (name ∷ names) (false ∷ marks) distinct = marked_are_distinct names marks distinct.1

-- A name that has a mark has the rank at its number.
pub rank_there : (sorted names : List (List ℕ)) (marks : List Bool) (ranks : List ℕ) (name : List ℕ) (number : ℕ) →
    AreNumbered sorted (marked_table names marks) ranks → IsNumberOf names name number → get_or marks number false ≡ true →
    IsNumberOf sorted name (slice_index_or ranks number 0)
rank_there sorted [] marks ranks name number are is mark = absurd cc
rank_there sorted (first ∷ names) [] ranks name number are is mark = absurd (true≢false (sym mark))
rank_there sorted (first ∷ names) (true ∷ marks) [] name number are is mark = absurd are
rank_there sorted (first ∷ names) (false ∷ marks) [] name number are is mark = absurd are
rank_there sorted (first ∷ names) (true ∷ marks) (rank ∷ ranks) name zero are is mark =
    let same : first ≡ name = cc in subst (λ n. IsNumberOf sorted n rank) same are.0
rank_there sorted (first ∷ names) (false ∷ marks) (rank ∷ ranks) name zero are is mark = absurd (true≢false (sym mark))
rank_there sorted (first ∷ names) (true ∷ marks) (rank ∷ ranks) name (suc number) are is mark =
    rank_there sorted names marks ranks name number are.1 is mark
rank_there sorted (first ∷ names) (false ∷ marks) (rank ∷ ranks) name (suc number) are is mark =
    rank_there sorted names marks ranks name number are.1 is mark

-- Each of them has a mark at its number.
abbrev pub HasMark : List (List ℕ) → List Bool → List ℕ → Type 0
HasMark names marks name = (number : ℕ) × IsNumberOf names name number × (get_or marks number false ≡ true)

has_mark_later : (first : List ℕ) (mark : Bool) (names : List (List ℕ)) (marks : List Bool) (kept : List (List ℕ)) →
    AllByRecursion (HasMark names marks) kept → AllByRecursion (HasMark (first ∷ names) (mark ∷ marks)) kept
has_mark_later first mark names marks [] all = tt
has_mark_later first mark names marks (name ∷ kept) all =
    ((suc all.0.0, all.0.1, all.0.2), has_mark_later first mark names marks kept all.1)

pub each_has_mark : (names : List (List ℕ)) (marks : List Bool) → AllByRecursion (HasMark names marks) (marked_names names marks)
each_has_mark [] marks = tt
each_has_mark (name ∷ names) [] = tt
each_has_mark (name ∷ names) (true ∷ marks) =
    ((zero, refl, refl), has_mark_later name true names marks (marked_names names marks) (each_has_mark names marks))
each_has_mark (name ∷ names) (false ∷ marks) =
    has_mark_later name false names marks (marked_names names marks) (each_has_mark names marks)
