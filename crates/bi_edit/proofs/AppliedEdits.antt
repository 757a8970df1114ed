use Rattle.std.proofs.Common.{◌≡◌, ℕ, zero, suc, ◌+◌, ◌<◌, ◌==◌, true, false, List, [], ◌∷◌, ◌++◌, drop, take, flat_map, Some, slice_get}
use Rattle.std.proofs.Common.{inl}
use Rattle.std.proofs.Common.{inr, refl, sym, ap}
use Rattle.std.proofs.Common.{◌∙◌, arith, rules, subst, length, get_or, Result, Ok, Err, IfErr, IsErrAnd}
use Rattle.std.proofs.lemmas.List.{append-nil, append_assoc, drop_more}
use Rattle.std.proofs.lemmas.Option.{slice_get_read}
use Rattle.bi_edit.specs.declared.applying.ApplyError.{ApplyError}
use Rattle.bi_edit.specs.declared.applying.ApplyError.TheVariants as error
use Rattle.bi_edit.specs.declared.edit.Edit.{Edit}
use Rattle.bi_edit.specs.Applying.{IsApplyError, IsErrorAt}
use Rattle.bi_edit.specs.Edits.{IsFirstRefusedBy, NoneIsRefusedBy, after_each, before_digests, edits_of_turn, in_edit_order, turn_of, turns}

-- Edits that are made one after the other.

module _ {Made : Type 0} (Refused : Made → Edit → Type 0) (edited : Made → Edit → Made) where
  pub after-append : (made : Made) (first second : List Edit) →
      after_each edited made (first ++ second) ≡ after_each edited (after_each edited made first) second
  after-append made [] second = refl
  after-append made (edit ∷ first) second = after-append (edited made edit) first second

  pub none_refused-append : (made : Made) (first second : List Edit) → NoneIsRefusedBy Refused edited made first →
      NoneIsRefusedBy Refused edited (after_each edited made first) second → NoneIsRefusedBy Refused edited made (first ++ second)
  none_refused-append made [] second one other = other
  none_refused-append made (edit ∷ first) second one other = (one.0, none_refused-append (edited made edit) first second one.1 other)

  refused_later : (made : Made) (first second : List Edit) (refused : Edit) → NoneIsRefusedBy Refused edited made first →
      IsFirstRefusedBy Refused edited (after_each edited made first) second refused →
      IsFirstRefusedBy Refused edited made (first ++ second) refused
  refused_later made [] second refused all is = is
  refused_later made (edit ∷ first) second refused all is =
      inr (all.0, refused_later (edited made edit) first second refused all.1 is)

  pub refused_more : (made : Made) (first second : List Edit) (refused : Edit) → IsFirstRefusedBy Refused edited made first refused →
      IsFirstRefusedBy Refused edited made (first ++ second) refused
  refused_more made [] second refused is = absurd is
  refused_more made (edit ∷ first) second refused (inl here) = inl here
  refused_more made (edit ∷ first) second refused (inr later) =
      inr (later.0, refused_more (edited made edit) first second refused later.1)

  -- If none is refused, none is the first that is.
  pub none_is_first : (made : Made) (all : List Edit) (refused : Edit) → NoneIsRefusedBy Refused edited made all →
      IsFirstRefusedBy Refused edited made all refused → ⊥
  none_is_first made [] refused none is = is
  none_is_first made (edit ∷ later) refused none (inl is) = none.0 is.0
  none_is_first made (edit ∷ later) refused none (inr is) = none_is_first (edited made edit) later refused none.1 is.1

  -- To make the edits that are left of what was made is to make all edits of what was there first.
  pub record HasSameEnd (made : Made) (left : List Edit) (first : Made) (all : List Edit) : Type 0 where
    pub made_all : after_each edited made left ≡ after_each edited first all
    pub find : NoneIsRefusedBy Refused edited made left → NoneIsRefusedBy Refused edited first all
    pub refused : (edit : Edit) → IsFirstRefusedBy Refused edited made left edit → IsFirstRefusedBy Refused edited first all edit

  pub continues_first : (made : Made) (all : List Edit) → HasSameEnd made all made all
  continues_first made all = record { made_all = refl; find = λ is. is; refused = λ edit is. is }

  -- Some of those that are left were made.
  pub continues_after : (made first : Made) (now left all : List Edit) → HasSameEnd made (now ++ left) first all →
      NoneIsRefusedBy Refused edited made now → HasSameEnd (after_each edited made now) left first all
  continues_after made first now left all continues found = record {
    made_all = sym (after-append made now left) ∙ continues.made_all;
    find = λ more. continues.find (none_refused-append made now left found more);
    refused = λ edit is. continues.refused edit (refused_later made now left edit found is);
  }

  -- One of the next that are left is refused.
  pub refused_of : (made first : Made) (now left all edits : List Edit) (error : ApplyError) →
      HasSameEnd made (now ++ left) first all → IsApplyError (IsFirstRefusedBy Refused edited made now) edits error →
      IsApplyError (IsFirstRefusedBy Refused edited first all) edits error
  refused_of made first now left all edits (error.FindsNothing index) continues is =
      (is.0, is.1, continues.refused is.0 (refused_more made now left is.0 is.2))
  refused_of made first now left all edits error.OutOfMemory continues is = tt

  -- The next one is refused.
  pub refused_next : (made : Made) (edit : Edit) (edits : List Edit) (index : ℕ) (error : ApplyError) →
      slice_get edits index ≡ Some edit → IsErrorAt index (Refused made edit) error →
      IsApplyError (IsFirstRefusedBy Refused edited made (edit ∷ [])) edits error
  refused_next made edit edits index (error.FindsNothing at) there is =
      (edit, ap (λ n. slice_get edits n) is.0 ∙ there, inl (is.1, refl))
  refused_next made edit edits index error.OutOfMemory there is = tt

  -- All are made.
  pub continues_to_end : (made first : Made) (all : List Edit) → HasSameEnd made [] first all →
      (made ≡ after_each edited first all) × NoneIsRefusedBy Refused edited first all
  continues_to_end made first all continues = (continues.made_all, continues.find tt)

-- An error that is passed on.
pub error_of_edit : {T : Type 0} (Is : ApplyError → Type 0) (result : Result T ApplyError) (error : ApplyError) →
    IsErrAnd result (λ given. given ≡ error) → Is error → IfErr result Is
error_of_edit Is (Ok value) error same is = absurd same
error_of_edit Is (Err given) error same is = subst Is (sym same) is

-- The edits of a turn among those that are left.
pub next_of_turn : (turn : ℕ) (edit : Edit) (later : List Edit) → (turn_of edit == turn) ≡ true →
    edits_of_turn turn (edit ∷ later) ≡ edit ∷ edits_of_turn turn later
next_of_turn turn edit later same = rw same refl

pub other_of_turn : (turn : ℕ) (edit : Edit) (later : List Edit) → (turn_of edit == turn) ≡ false →
    edits_of_turn turn (edit ∷ later) ≡ edits_of_turn turn later
other_of_turn turn edit later other = rw other refl

-- The edit at an index is the first of those that are left there.
pub next_at : (edits : List Edit) (index : ℕ) (edit : Edit) → index < length edits → edit ≡ get_or edits index edit →
    drop index edits ≡ edit ∷ drop (index + 1) edits
next_at edits index edit within is =
    drop_more edits index edit within ∙ ap (λ first. first ∷ drop (index + 1) edits) (sym is)

pub edit_read_at : (edits : List Edit) (index : ℕ) (edit : Edit) → index < length edits → edit ≡ get_or edits index edit →
    slice_get edits index ≡ Some edit
edit_read_at edits index edit within is = slice_get_read edits (length edits) index edit refl within is

pub same_turn : (one other : ℕ) → one ≡ other → (one == other) ≡ true
same_turn one other is = subst (λ n. (one == n) ≡ true) is (grind arith)

-- The turns that are left begin with the next one.
next_turn : (turn : ℕ) → turn < 5 → drop turn turns ≡ turn ∷ drop (turn + 1) turns
next_turn zero within = refl
next_turn (suc zero) within = refl
next_turn (suc (suc zero)) within = refl
next_turn (suc (suc (suc zero))) within = refl
next_turn (suc (suc (suc (suc zero)))) within = refl
next_turn (suc (suc (suc (suc (suc turn))))) within = absurd (omega (arith, within))

-- The edits of the turns that are left.
abbrev pub edits_from : (turn : ℕ) → List Edit → List Edit
edits_from turn edits = flat_map (λ t. edits_of_turn t edits) (drop turn turns)

pub edits_from_next : (turn : ℕ) (edits : List Edit) → turn < 5 →
    edits_from turn edits ≡ edits_of_turn turn edits ++ edits_from (turn + 1) edits
edits_from_next turn edits within = ap (λ left. flat_map (λ t. edits_of_turn t edits) left) (next_turn turn within)

-- The edits of digests are the last ones.
pub order_split : (edits : List Edit) → in_edit_order edits ≡ before_digests edits ++ edits_of_turn 4 edits
order_split edits =
    let part = λ (turn : ℕ). edits_of_turn turn edits in
    ap (λ last. part 0 ++ (part 1 ++ (part 2 ++ (part 3 ++ last)))) (append-nil (part 4))
    ∙ search (rules, append_assoc, append-nil)

-- Those of the turns that are left but the last.
next_early : (turn : ℕ) → turn < 4 → drop turn (take 4 turns) ≡ turn ∷ drop (turn + 1) (take 4 turns)
next_early zero within = refl
next_early (suc zero) within = refl
next_early (suc (suc zero)) within = refl
next_early (suc (suc (suc zero))) within = refl
next_early (suc (suc (suc (suc turn)))) within = absurd (omega (arith, within))

abbrev pub early_from : (turn : ℕ) → List Edit → List Edit
early_from turn edits = flat_map (λ t. edits_of_turn t edits) (drop turn (take 4 turns))

pub early_from_next : (turn : ℕ) (edits : List Edit) → turn < 4 →
    early_from turn edits ≡ edits_of_turn turn edits ++ early_from (turn + 1) edits
early_from_next turn edits within = ap (λ left. flat_map (λ t. edits_of_turn t edits) left) (next_early turn within)
