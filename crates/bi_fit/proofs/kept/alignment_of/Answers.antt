use Rattle.std.proofs.Common.{◌≡◌, ℕ, get_or, Some, None, refl, subst, sym, ◌∙◌, arith}
use Rattle.bi_fit.specs.Content.{image_model}
use Rattle.bi_fit.specs.KeptImages.{placed_offset as offset_of}
use Rattle.bi_fit.proofs.PayloadEnds.{no_image}
use Rattle.bi_fit.specs.KeptImages.{AreAlignedImages}
use Rattle.bi_fit.proofs.PowersOfTwo.{power-small}
use Rattle.bi_fit.proofs.KeptPayloads.{aligned_some, aligned_none, none_from}
use Rattle.bi_fit.proofs.kept.alignment_of.Goals.{in-Some, in_default}
use Rattle.bi_fit.proofs.kept.alignment_of.Goals as goal

pub loop-image-init : goal.loop-image-init
loop-image-init c = record {
  is_power = record { exponent = 20; most = omega arith; is_power = refl };
  same = λ other is. (λ both. both.1, λ all. (power-small other is, all));
}

pub loop-image-preserved : goal.loop-image-preserved
loop-image-preserved c =
    let images = c.args.images.now in
    let i = c.loop-image.image-index in
    let before = c.loop-image.invariant in
    elim c.match-placed_offset.branch [
      | in-Some w ↦
          let offset = w.in-Some.offset in
          let within = w.power_within-power.ensures in
          let is : offset_of (image_model (get_or images i no_image)) ≡ Some offset = sym c.placed_offset.ensures ∙ w.in-Some.is in
          let step = λ (other : ℕ). aligned_some images i no_image c.loop-image-test.true other offset is in
          rw w.power-is (record {
            is_power = within.is_power;
            same = λ other is_power. (
              λ both.
                  let old = (within.same other is_power).1 both.0 in
                  (before.same other is_power).0 (old.0, (step other).1 (old.1, both.1)),
              λ all.
                  let old = (before.same other is_power).1 all in
                  let parts = (step other).0 old.1 in
                  ((within.same other is_power).0 (old.0, parts.0), parts.1),
            );
          })
      | in_default w ↦
          let is : offset_of (image_model (get_or images i no_image)) ≡ None = sym c.placed_offset.ensures ∙ w.in_default.is in
          let step = λ (other : ℕ). aligned_none images i no_image c.loop-image-test.true other is in
          rw w.power-is (record {
            is_power = before.is_power;
            same = λ other is_power. (
              λ both. (before.same other is_power).0 (both.0, (step other).1 both.1),
              λ all.
                  let old = (before.same other is_power).1 all in
                  (old.0, (step other).0 old.1),
            );
          })
    ]

pub returns : goal.returns
returns c =
    let images = c.args.images.now in
    let i = c.loop-image.image-index in
    let before = c.loop-image.invariant in
    let none = none_from images i (omega (arith, c.loop-image-test.false)) in
    record {
      is_power = before.is_power;
      divides = (before.same c.loop-image.power before.is_power).0
          (omega arith, subst (AreAlignedImages c.loop-image.power) (sym none) tt);
      greatest = λ other is_power all. ((before.same other is_power).1 all).0;
    }
