use Rattle.std.proofs.Common.{◌≡◌, ◌≤◌, ℕ, List, ◌++◌, Result, Ok, Err, length, take, drop, ap, ◌∙◌, ◌+◌, subst, arith}
use Rattle.bi_base.specs.declared.fault.Error.{Error}
use Rattle.bi_base.specs.declared.slice_sink.SliceSink.{SliceSink}
use Rattle.bi_base.specs.Commands.{AppendFailed, WasRefused, SinkFailed}
use Rattle.bi_base.specs.Sinks.{Wrote}
use Rattle.bi_base.specs.SliceSinks.{slice_of, filled_of, SliceGrows, SliceFails}

-- A text that fits a slice is written to its beginning by a sink that has written nothing yet, and writing it cannot fail.

-- A text is written to the beginning of a slice,
pub slice_has_text : (old new : SliceSink) (text : List ℕ) → filled_of old ≡ 0 → length text ≤ length (slice_of old).now →
    SliceGrows old text new →
    (slice_of new).now ≡ text ++ drop (length text) (slice_of old).now
slice_has_text old new text empty room grows =
    let bytes = (slice_of old).now in
    let size : 0 + length text ≡ length text = omega arith in
    grows.is ∙ ap (λ (n : ℕ). take n bytes ++ (text ++ drop (n + length text) bytes)) empty
    ∙ ap (λ (n : ℕ). text ++ drop n bytes) size

-- which cannot fail if there is room.
pub not_full : (old new : SliceSink) (text : List ℕ) (error : Error) → filled_of old ≡ 0 → length text ≤ length (slice_of old).now →
    ¬ (SliceFails old text new error)
not_full old new text error empty room failed = failed.no_room (omega (arith, empty, room))

-- So a call that appends a text to a sink with room did so.
pub grew : {V : Type 0} (old new : SliceSink) (text : List ℕ) (result : Result V Error) → filled_of old ≡ 0 →
    length text ≤ length (slice_of old).now → Wrote SliceGrows SliceFails old text result new → SliceGrows old text new
grew old new text (Ok value) empty room wrote = wrote
grew old new text (Err error) empty room wrote = absurd (not_full old new text error empty room wrote)

-- Or it failed before it began.
pub slice_is_unchanged : (old new : SliceSink) (text : List ℕ) (HasError : Error → Type 0) (error : Error) → filled_of old ≡ 0 →
    length text ≤ length (slice_of old).now → AppendFailed SliceFails (λ other. other ≡ text) HasError old new error → new ≡ old
slice_is_unchanged old new text HasError error empty room (WasRefused is same) = same
slice_is_unchanged old new text HasError error empty room (SinkFailed other cause is failed same) =
    absurd (not_full old new text cause empty room (subst (λ (l : List ℕ). SliceFails old l new cause) is failed))
