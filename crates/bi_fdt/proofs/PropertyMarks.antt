use Rattle.std.proofs.Common.{◌≡◌, ℕ, zero, suc, ◌<◌, ◌≤◌, inl, inr, Bool, true, false, List, [], ◌∷◌, ◌++◌, length, rules}
use Rattle.std.proofs.Common.{refl, sym, ap, subst, ◌∙◌, arith, true≢false, Some, None}
use Rattle.std.proofs.Math.Path.{ap₂}
use Rattle.std.specs.Prelude.{◌||◌, ◌==◌, if◌then◌else◌, bytes_eq, slice_index_or, slice_set}
use Rattle.std.specs.List.{AllByRecursion}
use Rattle.std.specs.Cmp.{unsigned_Decides}
use Rattle.std.proofs.Math.Bool.{or-false}
use Rattle.std.proofs.lemmas.Option.{none-some, same_Some, slice_get_within}
use Rattle.std.proofs.lemmas.Slice.Eq.{bytes_eq-Decides}
use Rattle.std.proofs.lemmas.Grind.{common_steps}
use Rattle.std.proofs.lemmas.List.Folds.{list_any-append}
use Rattle.bi_blob.specs.Layout.{is_among}
use Rattle.bi_blob.specs.Tree.{AreDistinct, IsNew}
use Rattle.bi_blob.proofs.NameSets.{new_by_test, held_by_test}
use Rattle.bi_fdt.specs.Numbers.{IsNumberOf, with_used_name}
use Rattle.bi_fdt.specs.PropertyMarks.{MarkedNames, has_mark, HasMarked, AreMarksBelow, AddsName}
use Rattle.bi_fdt.proofs.NameParts.{slice_get-pushed}
use Rattle.bi_fdt.proofs.UsedNames.{numbered_old}

-- A node has exactly the names that have its mark.

or_true : (b : Bool) → (b || true) ≡ true
or_true true = refl
or_true false = refl

-- Two names that differ.
differ : (a b : List ℕ) → ¬ (a ≡ b) → bytes_eq a b ≡ false
differ a b apart = search (rules, bytes_eq-Decides)

same_bytes : (name : List ℕ) → bytes_eq name name ≡ true
same_bytes name = (bytes_eq-Decides name name).1 refl

-- A name that was not used has no mark.
pub no_mark : (used : List (List ℕ)) (marks : List ℕ) (mark : ℕ) (name : List ℕ) → IsNew name used → has_mark used marks mark name ≡ false
no_mark [] marks mark name new = refl
no_mark (first ∷ later) [] mark name new = refl
no_mark (first ∷ later) (own ∷ marks) mark name new = rw (differ first name new.0) (no_mark later marks mark name new.1)

-- No name has a mark that is greater than all marks.
pub no_greater_mark : (used : List (List ℕ)) (marks : List ℕ) (mark : ℕ) (name : List ℕ) → AllByRecursion (λ other. other < mark) marks →
    has_mark used marks mark name ≡ false
no_greater_mark [] marks mark name less = refl
no_greater_mark (first ∷ later) [] mark name less = refl
no_greater_mark (first ∷ later) (own ∷ marks) mark name less = search (rules, no_greater_mark later marks mark name less.1)

-- The mark of a name is at its number.
pub mark_at : (used : List (List ℕ)) (marks : List ℕ) (mark : ℕ) (name : List ℕ) (number d : ℕ) → AreDistinct used →
    length marks ≡ length used → IsNumberOf used name number → has_mark used marks mark name ≡ (slice_index_or marks number d == mark)
mark_at [] marks mark name number d distinct long is = absurd (none-some name is)
mark_at (first ∷ later) [] mark name number d distinct long is = absurd (omega (arith, long))
mark_at (first ∷ later) (own ∷ marks) mark name zero d distinct long is =
    rw ((bytes_eq-Decides first name).1 (same_Some _ _ is)) refl
mark_at (first ∷ later) (own ∷ marks) mark name (suc number) d distinct long is =
    search (rules, differ, numbered_old, mark_at later marks mark name number d distinct.1 (omega (arith, long)) is)

-- The marks after a name gets another.
pub mark_set : (used : List (List ℕ)) (marks : List ℕ) (mark : ℕ) (name other : List ℕ) (number : ℕ) → AreDistinct used →
    length marks ≡ length used → IsNumberOf used name number →
    has_mark used (slice_set marks number mark) mark other ≡ (has_mark used marks mark other || bytes_eq name other)
mark_set [] marks mark name other number distinct long is = absurd (none-some name is)
mark_set (first ∷ later) [] mark name other number distinct long is = absurd (omega (arith, long))
mark_set (first ∷ later) (own ∷ marks) mark name other zero distinct long is = by (bytes_eq first other) refl
  where
    same : bytes_eq first other ≡ bytes_eq name other
    same = ap (λ l. bytes_eq l other) (same_Some _ _ is)

    by : (e : Bool) → bytes_eq first other ≡ e → has_mark (first ∷ later) (mark ∷ marks) mark other
        ≡ (has_mark (first ∷ later) (own ∷ marks) mark other || bytes_eq name other)
    by true one =
        rw (one, sym same ∙ one) ((unsigned_Decides mark mark).1 refl ∙ sym (or_true (own == mark)))
    by false apart =
        rw (apart, sym same ∙ apart) (sym (or-false (has_mark later marks mark other)))
mark_set (first ∷ later) (own ∷ marks) mark name other (suc number) distinct long is =
    by (bytes_eq first other) refl (mark_set later marks mark name other number distinct.1 (omega (arith, long)) is)
  where
    apart : ¬ (first ≡ name)
    apart same = numbered_old later name number is (subst (λ n. IsNew n later) same distinct.0)

    by : (e : Bool) → bytes_eq first other ≡ e →
        has_mark later (slice_set marks number mark) mark other ≡ (has_mark later marks mark other || bytes_eq name other) →
        has_mark (first ∷ later) (own ∷ slice_set marks number mark) mark other
        ≡ (has_mark (first ∷ later) (own ∷ marks) mark other || bytes_eq name other)
    by true one behind =
        let no = differ name other (λ same. apart ((bytes_eq-Decides first other).0 one ∙ sym same)) in
        rw (one, no) (sym (or-false (own == mark)))
    by false two behind = rw two behind

-- The marks with that of a new name.
pub mark_push : (used : List (List ℕ)) (marks : List ℕ) (mark : ℕ) (name other : List ℕ) → length marks ≡ length used → IsNew name used →
    has_mark (used ++ name ∷ []) (marks ++ mark ∷ []) mark other ≡ (has_mark used marks mark other || bytes_eq name other)
mark_push [] [] mark name other long new = search rules
mark_push [] (own ∷ marks) mark name other long new = absurd (omega (arith, long))
mark_push (first ∷ later) [] mark name other long new = absurd (omega (arith, long))
mark_push (first ∷ later) (own ∷ marks) mark name other long new =
    search (rules, differ, bytes_eq-Decides, or-false, mark_push later marks mark name other (omega (arith, long)) new.1)

-- A name is among names with one more if it was among them or is that.
among_push : (held : List (List ℕ)) (name other : List ℕ) →
    is_among other (held ++ name ∷ []) ≡ (is_among other held || bytes_eq name other)
among_push held name other = search (rules, list_any-append, or-false)

-- A name that comes next was not used before, and any other was.
pub next_is_new : (used : List (List ℕ)) (name : List ℕ) (number : ℕ) → IsNumberOf (with_used_name used name) name number →
    number ≡ length used → is_among name used ≡ false
next_is_new used name number is last = search (rules, slice_get_within)

other_is_old : (used : List (List ℕ)) (name : List ℕ) (number : ℕ) → IsNumberOf (with_used_name used name) name number →
    ¬ (number ≡ length used) → with_used_name used name ≡ used
other_is_old used name number is elsewhere = by (is_among name used) refl
  where
    by : (b : Bool) → is_among name used ≡ b → with_used_name used name ≡ used
    by true old = ap (λ b. if b then used else used ++ name ∷ []) old
    by false new =
        elim (slice_get-pushed used name number name
        (subst (λ l. IsNumberOf l name number) (ap (λ b. if b then used else used ++ name ∷ []) new) is)) [
          | inl there ↦ absurd (numbered_old used name number there (new_by_test name used new))
          | inr last ↦ absurd (elsewhere last.0)
        ]

pub used_before : (old new : List (List ℕ)) (name : List ℕ) (number : ℕ) → new ≡ with_used_name old name → IsNumberOf new name number →
    ¬ (number ≡ length old) → (new ≡ old) × (number < length old)
used_before old new name number used is elsewhere =
    let same = used ∙ other_is_old old name number (subst (λ l. IsNumberOf l name number) used is) elsewhere in
    (same, slice_get_within old number name (subst (λ l. IsNumberOf l name number) same is))

-- Whether a node has a name, by its mark.
pub new_without_mark : (names : MarkedNames) (mark : ℕ) (held : List (List ℕ)) (name : List ℕ) → HasMarked names mark held →
    has_mark names.used names.marks mark name ≡ false → IsNew name held
new_without_mark names mark held name has lacks = new_by_test name held (has name ∙ lacks)

pub old_with_mark : (names : MarkedNames) (mark : ℕ) (held : List (List ℕ)) (name : List ℕ) → HasMarked names mark held →
    has_mark names.used names.marks mark name ≡ true → ¬ (IsNew name held)
old_with_mark names mark held name has marked = held_by_test name held (has name ∙ marked)

-- A node that begins, with a mark greater than all, has no name.
pub begins_without_names : (names : MarkedNames) (mark : ℕ) → AreMarksBelow mark names → HasMarked names mark []
begins_without_names names mark below name = sym (no_greater_mark names.used names.marks mark name below)

-- A greater bound.
pub bound_more : (bound more : ℕ) (marks : List ℕ) → bound ≤ more → AllByRecursion (λ other. other < bound) marks →
    AllByRecursion (λ other. other < more) marks
bound_more bound more [] most all = tt
bound_more bound more (other ∷ marks) most all = (omega (arith, all.0, most), bound_more bound more marks most all.1)

-- What a name's number and mark tell. There are as many marks as names were used before.
module _ (old new : MarkedNames) (mark number : ℕ) (name : List ℕ) (long : length old.marks ≡ length old.used)
    (used : new.used ≡ with_used_name old.used name) (is : IsNumberOf new.used name number) where
  -- A name that was not used before.
  pub adds_next : number ≡ length old.marks → new.marks ≡ old.marks ++ mark ∷ [] → AddsName old name mark (Some number) new
  adds_next last pushed = record {
    is_number = is;
    used = used;
    is_new = λ held has. (
      (λ _. new_without_mark old mark held name has (no_mark old.used old.marks mark name first)),
      (λ _. refl),
    );
    marked = λ _ held has other.
        among_push held name other ∙ ap (λ b. b || bytes_eq name other) (has other)
        ∙ sym (mark_push old.used old.marks mark name other long first)
        ∙ ap₂ (λ used marks. has_mark used marks mark other) (sym next_used) (sym pushed);
    marks = λ bound less below. rw pushed (grind (arith, common_steps));
  } where
    new_name : is_among name old.used ≡ false
    new_name = next_is_new old.used name number (subst (λ l. IsNumberOf l name number) used is) (last ∙ long)

    first : IsNew name old.used
    first = new_by_test name old.used new_name

    next_used : new.used ≡ old.used ++ name ∷ []
    next_used = used ∙ ap (λ b. if b then old.used else old.used ++ name ∷ []) new_name

  module _ (elsewhere : ¬ (number ≡ length old.marks)) (distinct : AreDistinct new.used) (d : ℕ) where
    same : new.used ≡ old.used
    same = (used_before old.used new.used name number used is (λ last. elsewhere (last ∙ sym long))).0

    known_is : IsNumberOf old.used name number
    known_is = subst (λ l. IsNumberOf l name number) same is

    by_mark : has_mark old.used old.marks mark name ≡ (slice_index_or old.marks number d == mark)
    by_mark = mark_at old.used old.marks mark name number d (subst AreDistinct same distinct) long known_is

    -- A name that the node has.
    pub adds_nothing : slice_index_or old.marks number d ≡ mark → new.marks ≡ old.marks → AddsName old name mark None new
    adds_nothing one kept = record {
      is_number = tt;
      used = used;
      is_new = λ held has. (
        (λ some. absurd (true≢false (sym some))),
        (λ new. absurd (old_with_mark old mark held name has (by_mark ∙ (unsigned_Decides _ mark).1 one) new)),
      );
      marked = λ some. absurd (true≢false (sym some));
      marks = search rules;
    }

    -- A name that another node has.
    pub adds_known : ¬ (slice_index_or old.marks number d ≡ mark) → new.marks ≡ slice_set old.marks number mark →
        AddsName old name mark (Some number) new
    adds_known apart set = record {
      is_number = is;
      used = used;
      is_new = λ held has. (
        (λ _. new_without_mark old mark held name has (by_mark ∙ by (slice_index_or old.marks number d == mark) refl)),
        (λ _. refl),
      );
      marked = λ _ held has other.
          among_push held name other ∙ ap (λ b. b || bytes_eq name other) (has other)
          ∙ sym (mark_set old.used old.marks mark name other number (subst AreDistinct same distinct) long known_is)
          ∙ ap₂ (λ used marks. has_mark used marks mark other) (sym same) (sym set);
      marks = λ bound less below. rw set (grind (arith, common_steps));
    } where
      by : (b : Bool) → (slice_index_or old.marks number d == mark) ≡ b → (slice_index_or old.marks number d == mark) ≡ false
      by true one = absurd (apart ((unsigned_Decides _ mark).0 one))
      by false two = two
