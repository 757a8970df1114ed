use Rattle.std.proofs.Common.{◌≡◌, ◌+◌, ◌∷◌, [], ◌++◌, Bor, List, ℕ, drop, get_or, map, add-one, drop-cons, append_assoc, ap}
use Rattle.std.proofs.Common.{refl, length, sym, subst, ◌∙◌}
use Rattle.std.proofs.lemmas.List.{map-append}
use Rattle.bi_base.specs.Slices.{bytes_of}
use Rattle.bi_c.specs.declared.region.Region.{Region}
use Rattle.bi_c.specs.PieceBuilding.{IsPieceInside, bytes_of_piece}
use Rattle.bi_c.specs.Checks.{IsFirstWrong}
use Rattle.bi_c.proofs.CheckFacts.{counted_more, wrong_at}
use Rattle.bi_c.proofs.PlanBuilding.{one_more_inside}
use Rattle.bi_c.proofs.building.pieces.Goals as goal

-- A list of regions has no region past its end.
abbrev no_region : Region
no_region = record { offset = 0; size = 0 }

pub loop-region-init : goal.loop-region-init
loop-region-init c = record {
  so_far = ap (λ items. bytes_of items ++ map (bytes_of_piece c.args.input.now) c.args.regions.now) c.new-pieces.ensures.items;
  counted = ap length c.new-pieces.ensures.items;
  inside = tt;
}

pub loop-region-preserved : goal.loop-region-preserved
loop-region-preserved c =
    let input = c.args.input.now in
    let regions = c.args.regions.now in
    let index = c.loop-region.region-index in
    let region = get_or regions index no_region in
    let later : List Region = drop (index + 1) regions in
    let first : drop index regions ≡ region ∷ later = rw add-one (drop-cons regions index no_region c.loop-region-test.true) in
    let before = bytes_of c.loop-region.pieces.items in
    let after = map (bytes_of_piece input) later in
    let pushed : c.push.new.self.items ≡ c.loop-region.pieces.items ++ c.in-Some.bytes ∷ [] = rw c.in-Ok.is at c.push.ensures.items in
    let items : bytes_of c.push.new.self.items ≡ before ++ bytes_of_piece input region ∷ [] =
    ap bytes_of pushed
    ∙ map-append (λ (slice : Bor (List ℕ)). slice.now) c.loop-region.pieces.items (c.in-Some.bytes ∷ [])
    ∙ ap (λ one. before ++ one ∷ []) c.in-Some.ensures.bytes in
    let loop = c.loop-region.invariant in
    record {
      so_far = ap (λ l. l ++ after) items ∙ append_assoc before (bytes_of_piece input region ∷ []) after
          ∙ ap (λ left. before ++ map (bytes_of_piece input) left) (sym first) ∙ loop.so_far;
      counted = counted_more c.loop-region.pieces.items c.push.new.self.items c.in-Some.bytes index pushed loop.counted;
      inside = one_more_inside (IsPieceInside input) regions index no_region c.loop-region-test.true loop.inside c.in-Some.ensures.inside;
    }

pub returns-in_default-clause-failed : goal.returns-in_default-clause-failed
returns-in_default-clause-failed c = (
  refl,
  subst (IsFirstWrong (IsPieceInside c.args.input.now) c.args.regions.now) (sym (c.len.ensures ∙ c.loop-region.pieces.ok.0 ∙
      c.loop-region.invariant.counted))
      (wrong_at (IsPieceInside c.args.input.now) c.args.regions.now c.loop-region.region-index no_region c.loop-region-test.true
      c.loop-region.invariant.inside c.in_default.ensures.none),
)
