use Rattle.std.proofs.Common.{◌≡◌, ◌↔◌, ◌⊎◌, ℕ, false, List, [], ◌∷◌, ◌++◌, Option, Some, None, Contains, IsTrue, inl, inr, sym, subst, ◌∙◌}
use Rattle.std.proofs.Common.{true≢false}
use Rattle.std.proofs.lemmas.List.Elements.{Contains-append_left, Contains-append_right, Contains-append_cases}
use Rattle.bi_base.proofs.ListMembers.{Contains-none, Contains-cases, Contains-first, each-append, each-contains}
use Rattle.bi_report.specs.Checking.{kind_word, allows}
use Rattle.bi_report.specs.declared.check.Allowed.{Allowed}
use Rattle.bi_report.specs.declared.check.ConcernKind.{ConcernKind}
use Rattle.bi_report.specs.declared.check.ConcernKind.TheVariants as kind
use Rattle.bootimg.specs.CommandLine.{IsAllowed, IsKindWord, NoneIs}

-- Words allow the kinds that they are the words for. No words allow no kind, and a word for no kind allows nothing.

-- Nothing is allowed if each kind is not.
pub allows_nothing : (allowed : Allowed)
    → (allowed.bad_hash ≡ false) × ((allowed.skipped_hash ≡ false) × ((allowed.unhashed ≡ false) × ((allowed.weak_hash ≡ false)
    × ((allowed.bad_list ≡ false) × ((allowed.missing ≡ false) × ((allowed.unsigned ≡ false) × ((allowed.no_nodes ≡ false)
    × ((allowed.no_images ≡ false) × ((allowed.uncovered ≡ false) × ((allowed.foreign ≡ false) × ((allowed.strings ≡ false)
    × ((allowed.unit_address ≡ false) × ((allowed.bad_default ≡ false) × ((allowed.trailing ≡ false)))))))))))))))
    → (kind : ConcernKind) → allows allowed kind ≡ false
allows_nothing allowed none kind.BadHash = none.0
allows_nothing allowed none kind.SkippedHash = none.1.0
allows_nothing allowed none kind.Unhashed = none.1.1.0
allows_nothing allowed none kind.WeakHash = none.1.1.1.0
allows_nothing allowed none kind.BadList = none.1.1.1.1.0
allows_nothing allowed none kind.Missing = none.1.1.1.1.1.0
allows_nothing allowed none kind.Unsigned = none.1.1.1.1.1.1.0
allows_nothing allowed none kind.NoNodes = none.1.1.1.1.1.1.1.0
allows_nothing allowed none kind.NoImages = none.1.1.1.1.1.1.1.1.0
allows_nothing allowed none kind.Uncovered = none.1.1.1.1.1.1.1.1.1.0
allows_nothing allowed none kind.Foreign = none.1.1.1.1.1.1.1.1.1.1.0
allows_nothing allowed none kind.Strings = none.1.1.1.1.1.1.1.1.1.1.1.0
allows_nothing allowed none kind.UnitAddress = none.1.1.1.1.1.1.1.1.1.1.1.1.0
allows_nothing allowed none kind.BadDefault = none.1.1.1.1.1.1.1.1.1.1.1.1.1.0
allows_nothing allowed none kind.Trailing = none.1.1.1.1.1.1.1.1.1.1.1.1.1.1

-- No words allow no kind.
pub none_allowed : (allowed : Allowed) → ((kind : ConcernKind) → allows allowed kind ≡ false) → IsAllowed [] allowed
none_allowed allowed none = record {
  known = tt;
  allows = λ kind. (λ is. absurd (true≢false (sym is ∙ none kind)), λ has. absurd (Contains-none (kind_word kind) has));
}

-- The kind that a word was parsed as is the only one that it is the word for.
pub only_kind : (word : List ℕ) (kind : ConcernKind) (result : Option ConcernKind) → result ≡ Some kind
    → ((other : ConcernKind) → word ≡ kind_word other → result ≡ Some other) → (other : ConcernKind) → word ≡ kind_word other → other ≡ kind
only_kind word kind result was exactly other same = let e : Some other ≡ Some kind = sym (exactly other same) ∙ was in cc

-- A word that was not parsed is that for no kind.
pub no_kind : (word : List ℕ) (result : Option ConcernKind) → result ≡ None →
    ((other : ConcernKind) → word ≡ kind_word other → result ≡ Some other)
    → (kind : ConcernKind) → word ≡ kind_word kind → ⊥
no_kind word result was exactly kind same = absurd (let e : None ≡ Some kind = sym was ∙ exactly kind same in cc)

-- One more word allows its kind beside the others.
pub one_more_allowed : (words : List (List ℕ)) (word : List ℕ) (kind : ConcernKind) (old new : Allowed) → IsAllowed words old
    → word ≡ kind_word kind → ((other : ConcernKind) → word ≡ kind_word other → other ≡ kind)
    → ((other : ConcernKind) → IsTrue (allows new other) ↔ (IsTrue (allows old other) ⊎ (other ≡ kind))) →
    IsAllowed (words ++ word ∷ []) new
one_more_allowed words word kind old new is same only more = record {
  known = each-append IsKindWord words (word ∷ []) is.known ((kind, same), tt);
  allows = λ other. (
    λ now. is_there other ((more other).0 now),
    λ has. (more other).1 (was_there other (Contains-append_cases words (word ∷ []) (kind_word other) has)),
  );
}
  where
    is_there : (other : ConcernKind) → IsTrue (allows old other) ⊎ (other ≡ kind) → Contains (words ++ word ∷ []) (kind_word other)
    is_there other (inl before) = Contains-append_left words (word ∷ []) (kind_word other) ((is.allows other).0 before)
    is_there other (inr it) =
        Contains-append_right words (word ∷ []) (kind_word other)
        (subst (λ k. Contains (word ∷ []) (kind_word k)) (sym it) (subst (Contains (word ∷ [])) same (Contains-first word [])))

    was_there : (other : ConcernKind) → Contains words (kind_word other) ⊎ Contains (word ∷ []) (kind_word other) →
        IsTrue (allows old other) ⊎ (other ≡ kind)
    was_there other (inl has) = inl ((is.allows other).1 has)
    was_there other (inr has) = inr (only other (one_word other (Contains-cases word [] (kind_word other) has)))
      where
        one_word : (other : ConcernKind) → (word ≡ kind_word other) ⊎ Contains [] (kind_word other) → word ≡ kind_word other
        one_word other (inl it) = it
        one_word other (inr has) = absurd (Contains-none (kind_word other) has)

-- Words among which one is that for no kind allow nothing.
pub unknown_word : (words : List (List ℕ)) (word : List ℕ) → Contains words word → ((kind : ConcernKind) → word ≡ kind_word kind → ⊥) →
    NoneIs (IsAllowed words)
unknown_word words word has none allowed is = let known = each-contains IsKindWord words word is.known has in none known.0 known.1
