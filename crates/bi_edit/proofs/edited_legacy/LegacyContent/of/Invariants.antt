use Rattle.std.proofs.Common.{◌≡◌, ◌++◌, map, ℕ, List}
use Rattle.std.proofs.Common.{Bor}
use Rattle.bi_legacy.specs.PlacedParts.{PartModel}
use Rattle.bi_edit.proofs.edited_legacy.LegacyContent.of.Given as goal

-- The parts that were taken and those that are left are those of the image.
abbrev pub invariant-loop-part : goal.invariant-loop-part
invariant-loop-part l =
    map (λ (part : Bor (List ℕ)). part.now) l.parts.items
    ++ map (λ (placed : PartModel). placed.bytes) l.part-iterator ≡ l.image.image.parts
