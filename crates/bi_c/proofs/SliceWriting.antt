use Rattle.std.proofs.Common.{◌≡◌, ◌≤◌, ◌-◌, ℕ, List, ◌++◌, length, drop, refl, sym, ap, subst, ◌∙◌, arith}
use Rattle.bi_base.specs.SliceSinks.{slice_of, filled_of, SliceGrows}
use Rattle.bi_base.specs.declared.slice_sink.SliceSink.{SliceSink}
use Rattle.bi_base.proofs.SliceSinkLaws.{slice_has_text}
use Rattle.bi_base.specs.Limits.{Limits}
use Rattle.bi_legacy.specs.Reading.{LegacyModel, IsReadLegacy}
use Rattle.bi_legacy.specs.Text.{legacy_text}
use Rattle.bi_legacy.proofs.NormalLength.{length-legacy_text}
use Rattle.bi_c.specs.declared.failure.Failure.{Failure}
use Rattle.bi_c.specs.declared.answer.Answer.{Answer}
use Rattle.bi_c.specs.Answers.{FillsBuffer, Filled, FilledNothing, IsThisOutput, answer_of, answer_of_failure, status_of_failure}

-- A text that fits a buffer is written to its beginning, and a call that fails before it writes leaves the buffer as it was.

-- A text was written to the beginning of a buffer that a sink had borrowed.
pub filled_with : (HasFailed : Failure → Type 0) (text : List ℕ) (value : ℕ) (old new : SliceSink) (before after : List ℕ) (name : ℕ)
    (answer : Answer) → filled_of old ≡ 0 → (slice_of old).now ≡ before → (slice_of old).ghost_name ≡ name
    → length text ≤ length before → SliceGrows old text new → (name ≡ (slice_of new).ghost_name → after ≡ (slice_of new).now) →
    answer ≡ answer_of (length text) value → FillsBuffer (IsThisOutput text value) HasFailed before after answer 0
filled_with HasFailed text value old new before after name answer empty is_before is_name room grows is_after told =
    Filled text value (record { is_text = refl; is_number = refl }) room
    (is_after (sym (grows.same_slice ∙ is_name))
    ∙ slice_has_text old new text empty (subst (λ (l : List ℕ). length text ≤ length l) (sym is_before) room) grows
    ∙ ap (λ (l : List ℕ). text ++ drop (length text) l) is_before)
    told refl

-- The call failed before it began to write.
pub fills_nothing : (IsOutput : List ℕ → ℕ → Type 0) (HasFailed : Failure → Type 0) (failure : Failure) (old new : SliceSink)
    (before after : List ℕ) (name : ℕ) (answer : Answer) (status : ℕ) → HasFailed failure → (slice_of old).now ≡ before →
    (slice_of old).ghost_name ≡ name
    → new ≡ old → (name ≡ (slice_of new).ghost_name → after ≡ (slice_of new).now) → answer ≡ answer_of_failure failure →
    status ≡ status_of_failure failure → FillsBuffer IsOutput HasFailed before after answer status
fills_nothing IsOutput HasFailed failure old new before after name answer status is is_before is_name same is_after told is_status =
    FilledNothing failure is
    (is_after (sym (ap (λ (sink : SliceSink). (slice_of sink).ghost_name) same ∙ is_name))
    ∙ ap (λ (sink : SliceSink). (slice_of sink).now) same ∙ is_before)
    told is_status

-- The normal text of a legacy image is as long as what its parts end before.
pub legacy_size : (limits : Limits) (file : List ℕ) (value : LegacyModel) (unused : ℕ) → IsReadLegacy limits file value →
    unused ≡ value.unused → length file - unused ≡ length (legacy_text value.image)
legacy_size limits file value unused parsed is_unused =
    omega (arith, is_unused, parsed.unused, length-legacy_text value.image parsed.means.is_file.name.is_name)
