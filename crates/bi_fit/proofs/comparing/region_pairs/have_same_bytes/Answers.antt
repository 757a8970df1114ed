use Rattle.std.proofs.Common.{◌≡◌, suc, ◌+◌, ◌∷◌, drop, get_or, refl, sym, ap, subst, ◌∙◌, arith}
use Rattle.std.proofs.Math.Seq.{drop-cons}
use Rattle.std.specs.List.{AllByRecursion}
use Rattle.bi_fit.specs.declared.comparing.region_pairs.RegionPair.{RegionPair}
use Rattle.bi_fit.specs.RegionPairs.{AreInFiles, HasSameBytes}
use Rattle.bi_fit.proofs.comparing.region_pairs.have_same_bytes.Goals as goal

pub loop-pair-preserved : goal.loop-pair-preserved
loop-pair-preserved c =
    let index = c.loop-pair.pair-index in
    let pairs = c.args.pairs.now in
    let invariant = c.loop-pair.invariant in
    let none : RegionPair = record { distance = 0; begin = 0; end = 0 } in
    let next : suc index ≡ index + 1 = omega arith in
    let rest : drop index pairs ≡ get_or pairs index none ∷ drop (index + 1) pairs =
    drop-cons pairs index none c.loop-pair-test.true ∙ ap (λ k. get_or pairs index none ∷ drop k pairs) next in (
      c.in-Some.ensures.within,
      c.in-Some.ensures.same,
      (subst (AllByRecursion (AreInFiles c.args.file.now c.args.other.now)) rest invariant.2).1,
      (
        (λ all. (subst (AllByRecursion (HasSameBytes c.args.file.now c.args.other.now)) rest (invariant.3.0 all)).1),
        (λ all. invariant.3.1 (subst (AllByRecursion (HasSameBytes c.args.file.now c.args.other.now)) (sym rest)
            (c.in-Some.ensures.some.0 refl, all))),
      ),
    )
