use Rattle.std.proofs.Common.{◌≡◌, ℕ, ◌+◌, ◌<◌, Bool, true, false, List, [], ◌∷◌, ◌++◌, Bor, drop, get_or, length, sym, ap, ◌∙◌}
use Rattle.std.proofs.Common.{append_assoc, length-append}
use Rattle.std.proofs.lemmas.List.{drop_more}
use Rattle.bi_base.specs.Slices.{bytes_of}
use Rattle.bi_tree.proofs.NumberedNames.{bytes_with}
use Rattle.bi_plain.specs.Ranked.{marked_names, marked_numbers}

-- One more name is kept, or left out.

module _ (names : List (Bor (List ℕ))) (marks : List Bool) (index : ℕ) (name : Bor (List ℕ)) (within : index < length names)
    (marked_within : index < length marks) (mark : Bool) (is : get_or marks index false ≡ mark) where
  abbrev first : Bor (List ℕ)
  first = get_or names index name

  abbrev later : List (List ℕ)
  later = bytes_of (drop (index + 1) names)

  abbrev rest : List Bool
  rest = drop (index + 1) marks

  left : {A : Type 0} (f : List (List ℕ) → List Bool → A) →
      f (bytes_of (drop index names)) (drop index marks) ≡ f (first.now ∷ later) (mark ∷ rest)
  left f =
      ap (λ l. f (bytes_of l) (drop index marks)) (drop_more names index name within)
      ∙ ap (λ l. f (first.now ∷ later) l) (drop_more marks index false marked_within)
      ∙ ap (λ b. f (first.now ∷ later) (b ∷ rest)) is

module _ (names : List (Bor (List ℕ))) (marks : List Bool) (index : ℕ) (name : Bor (List ℕ)) (within : index < length names)
    (marked_within : index < length marks) (kept : List (Bor (List ℕ))) where
  pub kept_more : get_or marks index false ≡ true → (more : List (Bor (List ℕ))) → more ≡ kept ++ get_or names index name ∷ [] →
      bytes_of more ++ marked_names (bytes_of (drop (index + 1) names)) (drop (index + 1) marks)
      ≡ bytes_of kept ++ marked_names (bytes_of (drop index names)) (drop index marks)
  kept_more is more are =
      ap (λ l. bytes_of l ++ marked_names (bytes_of (drop (index + 1) names)) (drop (index + 1) marks)) are
      ∙ ap (λ l. l ++ marked_names (bytes_of (drop (index + 1) names)) (drop (index + 1) marks)) (bytes_with kept (get_or names index name))
      ∙ append_assoc (bytes_of kept) ((get_or names index name).now ∷ [])
      (marked_names (bytes_of (drop (index + 1) names)) (drop (index + 1) marks))
      ∙ ap (λ l. bytes_of kept ++ l) (sym (left names marks index name within marked_within true is marked_names))

  pub left_out : get_or marks index false ≡ false → (more : List (Bor (List ℕ))) → more ≡ kept →
      bytes_of more ++ marked_names (bytes_of (drop (index + 1) names)) (drop (index + 1) marks)
      ≡ bytes_of kept ++ marked_names (bytes_of (drop index names)) (drop index marks)
  left_out is more are =
      ap (λ l. bytes_of l ++ marked_names (bytes_of (drop (index + 1) names)) (drop (index + 1) marks)) are
      ∙ ap (λ l. bytes_of kept ++ l) (sym (left names marks index name within marked_within false is marked_names))

  module _ (numbers : List ℕ) (all : List ℕ) (number : ℕ) (are_all : all ≡ numbers ++ number ∷ []) (counted : number ≡ length kept) where
    numbers_more : (count : ℕ) → marked_numbers (length kept) (bytes_of (drop index names)) (drop index marks)
        ≡ length kept ∷ marked_numbers count (bytes_of (drop (index + 1) names)) (drop (index + 1) marks) →
        all ++ marked_numbers count (bytes_of (drop (index + 1) names)) (drop (index + 1) marks)
        ≡ numbers ++ marked_numbers (length kept) (bytes_of (drop index names)) (drop index marks)
    numbers_more count step =
        ap (λ l. l ++ marked_numbers count (bytes_of (drop (index + 1) names)) (drop (index + 1) marks)) are_all
        ∙ append_assoc numbers (number ∷ []) (marked_numbers count (bytes_of (drop (index + 1) names)) (drop (index + 1) marks))
        ∙ ap (λ n. numbers ++ n ∷ marked_numbers count (bytes_of (drop (index + 1) names)) (drop (index + 1) marks)) counted
        ∙ ap (λ l. numbers ++ l) (sym step)

    pub numbers_kept : get_or marks index false ≡ true → (more : List (Bor (List ℕ))) → more ≡ kept ++ get_or names index name ∷ [] →
        all ++ marked_numbers (length more) (bytes_of (drop (index + 1) names)) (drop (index + 1) marks)
        ≡ numbers ++ marked_numbers (length kept) (bytes_of (drop index names)) (drop index marks)
    numbers_kept is more are =
        ap (λ count. all ++ marked_numbers count (bytes_of (drop (index + 1) names)) (drop (index + 1) marks))
        (ap length are ∙ length-append kept (get_or names index name ∷ []))
        ∙ numbers_more (length kept + 1) (left names marks index name within marked_within true is (marked_numbers (length kept)))

    pub numbers_left : get_or marks index false ≡ false → (more : List (Bor (List ℕ))) → more ≡ kept →
        all ++ marked_numbers (length more) (bytes_of (drop (index + 1) names)) (drop (index + 1) marks)
        ≡ numbers ++ marked_numbers (length kept) (bytes_of (drop index names)) (drop index marks)
    numbers_left is more are =
        ap (λ count. all ++ marked_numbers count (bytes_of (drop (index + 1) names)) (drop (index + 1) marks)) (ap length are)
        ∙ numbers_more (length kept) (left names marks index name within marked_within false is (marked_numbers (length kept)))
