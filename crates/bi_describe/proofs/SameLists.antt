use Rattle.std.proofs.Common.{◌≡◌, ◌<◌, ◌≤◌, ◌+◌, ℕ, List, [], ◌∷◌, ◌++◌, get_or, length, map, take, refl, sym, ap, ap₂, ◌∙◌, arith, subst}
use Rattle.std.proofs.lemmas.List.{get_or-map, length-map, map-append, take_more}
use Rattle.std.proofs.Math.Seq.{take-length}

-- Lists of the same length are compared element by element.

module _ {X Y : Type 0} (f : X → Y) where
  -- First elements that are the same, and one more.
  pub same_more : (one other : List X) (index : ℕ) (a b : X) → index < length one → index < length other →
      map f (take index one) ≡ map f (take index other) → f (get_or one index a) ≡ f (get_or other index b) →
      map f (take (index + 1) one) ≡ map f (take (index + 1) other)
  same_more one other index a b within also same next =
      ap (map f) (take_more one index a within) ∙ map-append f (take index one) (get_or one index a ∷ [])
      ∙ ap₂ (λ (first : List Y) (last : Y). first ++ last ∷ []) same next
      ∙ sym (ap (map f) (take_more other index b also) ∙ map-append f (take index other) (get_or other index b ∷ []))

  -- An element that differs.
  pub same_at : (one other : List X) (index : ℕ) (a b : X) → index < length one → index < length other → map f one ≡ map f other →
      f (get_or one index a) ≡ f (get_or other index b)
  same_at one other index a b within also same =
      sym (get_or-map f one index a (f a) within) ∙ ap (λ (items : List Y). get_or items index (f a)) same
      ∙ get_or-map f other index b (f a) also

  -- Lists of different lengths.
  pub same_length : (one other : List X) → map f one ≡ map f other → length one ≡ length other
  same_length one other same = sym (length-map one f) ∙ ap length same ∙ length-map other f

  -- All elements.
  pub all_same : (one other : List X) (index : ℕ) → length one ≡ index → length other ≡ index →
      map f (take index one) ≡ map f (take index other) → map f one ≡ map f other
  all_same one other index long also same =
      ap (map f) (sym (ap (λ n. take n one) (sym long) ∙ take-length one)) ∙ same
      ∙ ap (map f) (ap (λ n. take n other) (sym also) ∙ take-length other)
