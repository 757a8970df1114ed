use Rattle.std.proofs.Common.{◌≡◌, ◌∙◌, ◌<◌, ◌≤◌, ◌+◌, ℕ, zero, suc, Bor, List, [], ◌∷◌, ◌++◌, get_or, length, map, take, drop, ap, refl}
use Rattle.std.proofs.Common.{sym, subst, arith, add-one}
use Rattle.std.proofs.Math.Seq.{drop-cons}
use Rattle.std.proofs.lemmas.List.{map-append, take-append-drop, take_all, take_more}
use Rattle.std.specs.List.{AllZip}
use Rattle.bi_blob.specs.Tree.{AreDistinct, IsNew}
use Rattle.bootimg.specs.CommandLine.{texts_of}
use Rattle.bootimg.proofs.ListedTexts.{distinct_here}

-- Values that are of distinct places, one after another.

module _ {T : Type 0} (place : T → List ℕ) where
  -- The places of values, and of one more.
  pub places_more : (values : List T) (index : ℕ) (d : T) → index < length values →
      map place (take (index + 1) values) ≡ map place (take index values) ++ place (get_or values index d) ∷ []
  places_more values index d within =
      ap (map place) (take_more values index d within) ∙ map-append place (take index values) (get_or values index d ∷ [])

  -- Of distinct places each is new among those before it.
  pub new_distinct_place : (values : List T) (index : ℕ) (d : T) → index < length values → AreDistinct (map place values) →
      IsNew (place (get_or values index d)) (map place (take index values))
  new_distinct_place values index d within distinct =
      let cut : drop index values ≡ get_or values index d ∷ drop (index + 1) values = rw add-one (drop-cons values index d within) in
      let around : map place values ≡ map place (take index values) ++
      (place (get_or values index d) ∷ map place (drop (index + 1) values)) =
      ap (map place) (sym (take-append-drop index values))
      ∙ ap (λ later. map place (take index values ++ later)) cut
      ∙ map-append place (take index values) (get_or values index d ∷ drop (index + 1) values) in
      distinct_here (map place (take index values)) (place (get_or values index d)) (map place (drop (index + 1) values))
      (subst AreDistinct around distinct)

  -- Those of all values.
  pub all_places : (values : List T) (index : ℕ) → length values ≤ index → AreDistinct (map place (take index values)) →
      AreDistinct (map place values)
  all_places values index end distinct = subst (λ values. AreDistinct (map place values)) (take_all index values end) distinct

-- What words are for, word by word.
module _ {T : Type 0} (Is : List ℕ → T → Type 0) where
  pub zip_at : (words : List (Bor (List ℕ))) (values : List T) (index : ℕ) (d : Bor (List ℕ)) (e : T) → index < length words →
      AllZip Is (texts_of words) values → (index < length values) × Is (get_or words index d).now (get_or values index e)
  zip_at [] values index d e within are = absurd (omega (arith, within))
  zip_at (word ∷ words) [] index d e within are = absurd are
  zip_at (word ∷ words) (value ∷ values) zero d e within are = (omega arith, are.0)
  zip_at (word ∷ words) (value ∷ values) (suc index) d e within are =
      let later = zip_at words values index d e (omega (arith, within)) are.1 in (omega (arith, later.0), later.1)

  pub zip_long : (words : List (Bor (List ℕ))) (values : List T) → AllZip Is (texts_of words) values → length values ≡ length words
  zip_long [] [] are = refl
  zip_long [] (value ∷ values) are = absurd are
  zip_long (word ∷ words) [] are = absurd are
  zip_long (word ∷ words) (value ∷ values) are = ap suc (zip_long words values are.1)
