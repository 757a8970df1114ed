use Rattle.std.proofs.Common.{◌≡◌, ◌⊎◌, ℕ, ◌+◌, Bool, true, false, cond, List, [], ◌∷◌, ◌++◌, length, Contains, bytes_eq, inl, inr, refl}
use Rattle.std.proofs.Common.{ap, subst, ◌∙◌, sym, arith, append_assoc, append-nil, length-append, true≢false, rules}
use Rattle.std.proofs.lemmas.Slice.Eq.{bytes_eq-Decides}
use Rattle.std.proofs.lemmas.List.{length_push}
use Rattle.std.proofs.lemmas.List.Concat.{flat_map-append}
use Rattle.bi_base.proofs.ListMembers.{Contains-none, Contains-cases, Contains-first, Contains-others}
use Rattle.bi_blob.specs.Layout.{distinct_names, strings_of, offset_in}
use Rattle.bi_blob.specs.TextLaws.{OffsetsStay, NewOffsetIsAtEnd}
use Rattle.bi_blob.proofs.Texts.NamesOnce.{distinct_names-all, distinct_names-only}
use Rattle.bi_blob.proofs.Texts.FirstUse.{distinct_names-push, distinct_names-new, used_names-push}

-- The offset of a name in a strings block stays as further names are added, and a new name is at the end of the block.

-- What is among the elements of a list is among those of a longer one.
pub Contains-front : {X : Type 0} (front later : List X) (x : X) → Contains front x → Contains (front ++ later) x
Contains-front [] later x has = absurd (Contains-none x has)
Contains-front {X = X} (first ∷ others) later x has =
    where_first (Contains-cases first others x has) (λ has. Contains-front others later x has)
  where
    where_first : (first ≡ x) ⊎ Contains others x → (Contains others x → Contains (others ++ later) x) →
        Contains (first ∷ (others ++ later)) x
    where_first (inl same) among = subst (λ y. Contains (first ∷ (others ++ later)) y) same (Contains-first first (others ++ later))
    where_first (inr has) among = Contains-others first (others ++ later) x (among has)

-- The offset of a name among names stays with further names at their end.
offset_in-front : (names later : List (List ℕ)) (name : List ℕ) → Contains names name →
    offset_in (names ++ later) name ≡ offset_in names name
offset_in-front [] later name has = absurd (Contains-none name has)
offset_in-front (first ∷ others) later name has =
    where_first (bytes_eq first name) refl (Contains-cases first others name has) (λ has. offset_in-front others later name has)
  where
    where_first : (b : Bool) → bytes_eq first name ≡ b → (first ≡ name) ⊎ Contains others name →
        (Contains others name → offset_in (others ++ later) name ≡ offset_in others name) →
        offset_in (first ∷ (others ++ later)) name ≡ offset_in (first ∷ others) name
    where_first true is has same = rw is refl
    where_first false is (inl equal) same = absurd (true≢false (sym ((bytes_eq-Decides first name).1 equal) ∙ is))
    where_first false is (inr has) same = rw is (ap (λ n. length first + 1 + n) (same has))

-- The offset of a name that is not among names, and is put after them, is their length.
offset_in-last : (names : List (List ℕ)) (name : List ℕ) → ¬ (Contains names name) →
    offset_in (names ++ name ∷ []) name ≡ length (strings_of names)
offset_in-last [] name lacks = ap (λ b. cond b 0 (length name + 1 + 0)) ((bytes_eq-Decides name name).1 refl)
offset_in-last (first ∷ others) name lacks =
    where_first (bytes_eq first name) refl (offset_in-last others name (λ has. lacks (Contains-others first others name has)))
  where
    where_first : (b : Bool) → bytes_eq first name ≡ b → offset_in (others ++ name ∷ []) name ≡ length (strings_of others) →
        offset_in (first ∷ (others ++ name ∷ [])) name ≡ length (strings_of (first ∷ others))
    where_first true is rest =
        absurd (lacks (subst (λ n. Contains (first ∷ others) n) ((bytes_eq-Decides first name).0 is) (Contains-first first others)))
    where_first false is rest =
        rw is (omega (arith, rest, length-append (first ++ 0 ∷ []) (strings_of others), length_push first 0))

-- One more name changes no offset of a name that was there.
offset-push : (names : List (List ℕ)) (other name : List ℕ) → Contains names name →
    offset_in (distinct_names (names ++ other ∷ [])) name ≡ offset_in (distinct_names names) name
offset-push names other name has = search (rules, distinct_names-push, offset_in-front, distinct_names-all)

-- Nor do further names.
offset-append : (names later : List (List ℕ)) (name : List ℕ) → Contains names name →
    offset_in (distinct_names (names ++ later)) name ≡ offset_in (distinct_names names) name
offset-append names [] name has = ap (λ l. offset_in (distinct_names l) name) (append-nil names)
offset-append names (other ∷ later) name has =
    ap (λ l. offset_in (distinct_names l) name) (sym (append_assoc names (other ∷ []) later))
    ∙ offset-append (names ++ other ∷ []) later name (Contains-front names (other ∷ []) name has)
    ∙ offset-push names other name has

-- The offset of a name that events use stays with further events.
pub offsets_stay : OffsetsStay
offsets_stay events later name has = search (rules, flat_map-append, offset-append)

-- The offset of a name that is used for the first time is the length of the strings block before it.
pub new_offset_is_at_end : NewOffsetIsAtEnd
new_offset_is_at_end events property lacks = search (rules, used_names-push, distinct_names-new, offset_in-last, distinct_names-only)
