use Rattle.std.proofs.Common.{◌≡◌, ◌+◌, ◌<◌, ℕ, List, [], ◌∷◌, ◌++◌, Option, Some, slice_get, get_or, length, map, sym, ap, ◌∙◌}
use Rattle.std.proofs.Common.{arith, rules}
use Rattle.std.proofs.lemmas.List.{length-map, get_or-map}
use Rattle.std.proofs.lemmas.Option.{slice_get-get_or}
use denote.Ref.{Bor}
use Rattle.bi_fdt.specs.NameParts.{NamePart, AreOnce, AreAfterTails}
use Rattle.bi_fdt.specs.OtherNames.{HasOtherNumber, FindsTail}
use Rattle.bi_fdt.proofs.OtherNames.{others_more}
use Rattle.bi_fdt.proofs.other_names.tails_among.Goals as goal

-- The part of an item.
abbrev part_of : ℕ × Bor (List ℕ) → NamePart
part_of part = (part.0, part.1.now)

-- The numbers with that of the next part.
next : (items : List (ℕ × Bor (List ℕ))) (d : ℕ × Bor (List ℕ)) (parts others : List NamePart)
    (numbers now more : List (Option ℕ)) (index : ℕ)
    (tail found : Option ℕ) → map part_of items ≡ parts → index < length items → AreOnce others → AreAfterTails parts
    → length numbers ≡ index + 1 →
    ((number : ℕ) (found : Option ℕ) → slice_get numbers number ≡ Some found → HasOtherNumber parts others number found) →
    now ≡ numbers → ((value : Option ℕ) → slice_get now (get_or items index d).0 ≡ Some value → tail ≡ value) →
    FindsTail others tail (get_or items index d).1.now found → more ≡ numbers ++ found ∷ [] →
    (number : ℕ) (other : Option ℕ) → slice_get more number ≡ Some other → HasOtherNumber parts others number other
next items d parts others numbers now more index tail found is within once order long each same value =
    others_more parts others numbers more index (get_or items index d).0 (get_or items index d).1.now tail found once order there long each
    (λ kept at. value kept (ap (λ l. slice_get l (get_or items index d).0) same ∙ at)) where
      there : slice_get parts index ≡ Some (part_of (get_or items index d))
      there =
          ap (λ l. slice_get l index) (sym is)
          ∙ slice_get-get_or (map part_of items) index (part_of d) (omega (arith, within, length-map items part_of))
          ∙ ap Some (get_or-map part_of items index d (part_of d) within)

pub loop-tail-preserved : goal.loop-tail-preserved
loop-tail-preserved c = search (rules, next)
