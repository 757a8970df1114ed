use Rattle.std.proofs.Common.{◌≡◌, ◌+◌, ◌<◌, ◌++◌, ◌∷◌, [], ℕ, suc, List, Some, slice_get, get_or, length, take, drop, inl, inr, sym, ap}
use Rattle.std.proofs.Common.{◌∙◌, arith}
use Rattle.std.proofs.Math.Seq.{take-suc}
use Rattle.std.proofs.lemmas.List.{length-map, length-take-le, map-append, take-append-drop, get_or-map}
use Rattle.std.proofs.lemmas.Option.{slice_get-get_or, slice_get_within}
use denote.Ref.{Bor}
use Rattle.bi_fdt.specs.NameParts.{NamePart, AreOnce, IsPlaced, parts_of_slices}
use Rattle.bi_fdt.proofs.NameParts.{slice_get-longer}
use Rattle.bi_fdt.proofs.name_parts.NameParts.of_parts.Goals as goal

-- The part of an item.
abbrev part_of : ℕ × Bor (List ℕ) → NamePart
part_of part = (part.0, part.1.now)

-- The next of distinct parts is placed at the end.
next_placed : (parts : List (ℕ × Bor (List ℕ))) (d : ℕ × Bor (List ℕ)) (made new : List NamePart) (index number : ℕ)
    → AreOnce (parts_of_slices parts) →
    made ≡ parts_of_slices (take index parts) → index < length parts → IsPlaced made (part_of (get_or parts index d)) number new →
    new ≡ parts_of_slices (take (index + 1) parts)
next_placed parts d made new index number once is within placed = elim placed [
  | inl there ↦ absurd (omega (
    arith,
    slice_get_within made number (part_of (get_or parts index d)) there.0,
    ap length is,
    count,
    once (part_of (get_or parts index d)) number index
        (ap (λ l. slice_get l number) whole
        ∙ slice_get-longer made (parts_of_slices (drop index parts)) number (part_of (get_or parts index d)) there.0) here,
  ))
  | inr added ↦ added.2 ∙ ap (λ l. l ++ part_of (get_or parts index d) ∷ []) is
      ∙ sym (map-append part_of (take index parts) (get_or parts index d ∷ []))
      ∙ ap parts_of_slices (sym (take-suc parts index d within)) ∙ ap (λ n. parts_of_slices (take n parts)) one_more
] where
  one_more : suc index ≡ index + 1
  one_more = omega arith

  count : length (parts_of_slices (take index parts)) ≡ index
  count = length-map (take index parts) part_of ∙ length-take-le index parts (omega (arith, within))

  whole : parts_of_slices parts ≡ made ++ parts_of_slices (drop index parts)
  whole =
      ap parts_of_slices (sym (take-append-drop index parts)) ∙ map-append part_of (take index parts) (drop index parts)
      ∙ ap (λ l. l ++ parts_of_slices (drop index parts)) (sym is)

  here : slice_get (parts_of_slices parts) index ≡ Some (part_of (get_or parts index d))
  here =
      slice_get-get_or (parts_of_slices parts) index (part_of d) (omega (arith, within, length-map parts part_of))
      ∙ ap Some (get_or-map part_of parts index d (part_of d) within)

pub loop-tail-preserved : goal.loop-tail-preserved
loop-tail-preserved c =
    next_placed c.args.parts.now _ c.loop-tail.made c.add.new.self c.loop-tail.tail-index _ c.requires c.loop-tail.invariant
    c.loop-tail-test.true c.in_ok-add.ensures.added
