use Rattle.std.proofs.Common.{◌≡◌, ◌≢◌, ◌≤◌, ◌/◌, ◌%◌, ℕ, true, false, List, Option, Some, None, is_some, sym, ◌∙◌, arith, refl, true≢false}
use Rattle.std.specs.Prelude.{IfNone, IfSome}
use Rattle.bi_fit.specs.Kept.{AreAlignedInFile, IsPower, PlacedPayload}
use Rattle.bi_fit.proofs.PowersOfTwo.{half-power, le-half, power-small}
use Rattle.bi_edit.specs.PlacedPayloads.{placed_list}
use Rattle.bi_edit.proofs.outside_payloads.alignment_of.Goals as goal

pub loop-power-init : goal.loop-power-init
loop-power-init c = record {
  is_power = record { exponent = 20; most = omega arith; is_power = refl };
  most = λ other is all. power-small other is;
}

-- A half, if an offset is between multiples.
halved : (placed : List PlacedPayload) (power : ℕ) (found : Option ℕ) →
    IfSome found (λ offset. (offset % power ≢ 0) × ((other : ℕ) → AreAlignedInFile other placed → offset % other ≡ 0)) →
    is_some found ≡ true → IsPower power → ((other : ℕ) → IsPower other → AreAlignedInFile other placed → other ≤ power) →
    IsPower (power / 2) × ((other : ℕ) → IsPower other → AreAlignedInFile other placed → other ≤ power / 2)
halved placed power None has there is most = absurd (true≢false (sym there))
halved placed power (Some offset) has there is most = (
  half-power power offset is has.0,
  λ other power_is all. le-half other power offset power_is is has.0 (most other power_is all)
      (has.1 other all),
)

none_holds : (found : Option ℕ) (A : Type 0) → IfNone found A → is_some found ≡ false → A
none_holds None A holds is = holds
none_holds (Some offset) A holds is = absurd (true≢false is)

pub loop-power-preserved : goal.loop-power-preserved
loop-power-preserved c =
    let both = halved (placed_list c.args.placed.now) c.loop-power.power c.first_between.result c.first_between.ensures.some
    (sym c.is_some.ensures ∙ c.loop-power-test.true) c.loop-power.invariant.is_power c.loop-power.invariant.most in
    record { is_power = both.0; most = both.1 }

pub returns : goal.returns
returns c = record {
  is_power = c.loop-power.invariant.is_power;
  divides = none_holds c.first_between.result (AreAlignedInFile c.loop-power.power (placed_list c.args.placed.now))
      c.first_between.ensures.none (sym c.is_some.ensures ∙ c.loop-power-test.false);
  greatest = c.loop-power.invariant.most;
}
