use Rattle.std.proofs.Common.{◌≡◌, ℕ, zero, suc, ◌<◌, List, [], ◌∷◌, ◌++◌, get_or, length, sym, ap, ◌∙◌, append-nil, append_assoc, arith}
use Rattle.std.proofs.Common.{rules}
use Rattle.std.specs.List.{AllZip}
use Rattle.bi_fit.specs.HashNodes.{flat_map_pairs}

-- What holds of the items of two lists, place by place, holds at each place.
pub AllZip-at : {A B : Type 0} (R : A → B → Type 0) (xs : List A) (ys : List B) (place : ℕ) (d : A) (e : B) → AllZip R xs ys →
    place < length xs → R (get_or xs place d) (get_or ys place e)
AllZip-at R [] [] place d e all within = absurd (omega (arith, within))
AllZip-at R [] (y ∷ ys) place d e all within = absurd all
AllZip-at R (x ∷ xs) [] place d e all within = absurd all
AllZip-at R (x ∷ xs) (y ∷ ys) zero d e all within = all.0
AllZip-at R (x ∷ xs) (y ∷ ys) (suc place) d e all within = AllZip-at R xs ys place d e all.1 (omega (arith, within))

module _ {A B C : Type 0} (f : A → B → List C) (left : List A) (others : List B) (done all : List C)
    (so_far : done ++ flat_map_pairs f left others ≡ all) where
  -- What two lists give so far and what is left are all: also with one more of each,
  pub one_pair_more : (x : A) (y : B) (later : List A) (rest : List B) (now : List C) → left ≡ x ∷ later → others ≡ y ∷ rest →
      now ≡ done ++ f x y → now ++ flat_map_pairs f later rest ≡ all
  one_pair_more x y later rest now first second more = search (rules, append_assoc)

  -- and with none more.
  pub no_pair_more : left ≡ [] → done ≡ all
  no_pair_more none = sym (append-nil done) ∙ ap (λ l. done ++ flat_map_pairs f l others) (sym none) ∙ so_far
