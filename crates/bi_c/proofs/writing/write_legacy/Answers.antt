use Rattle.std.proofs.Common.{◌≡◌, ◌≤◌, length, ℕ, refl, ap, sym, subst, ◌∙◌, arith, List}
use Rattle.bi_legacy.specs.Meaning.{with_new_time}
use Rattle.bi_legacy.specs.Text.{legacy_text}
use Rattle.bi_c.specs.Answers.{HadNoRoom, answer_of}
use Rattle.bi_base.specs.SliceSinks.{SliceGrows}
use Rattle.bi_c.specs.declared.failure.Failure.TheVariants.{OutOfMemory}
use Rattle.bi_base.proofs.SliceSinkLaws.{slice_is_unchanged}
use Rattle.bi_c.proofs.SliceWriting.{filled_with, fills_nothing, legacy_size}
use Rattle.bi_c.proofs.writing.write_legacy.Goals as goal

pub returns-then-buffer-size : goal.returns-then-buffer-size
returns-then-buffer-size c =
    let size = legacy_size c.args.limits c.args.file.now c.args.image.now c.unused.result c.requires c.unused.ensures in
    HadNoRoom (legacy_text c.args.image.now.image) 0 (record { is_text = refl; is_number = refl })
    (omega (arith, c.if-buffer-size.true, size)) refl
    (c.answer_with.ensures ∙ ap (λ (n : ℕ). answer_of n 0) size) refl

pub returns-in-Ok : goal.returns-in-Ok
returns-in-Ok c =
    let image = c.args.image.now.image in
    let text = legacy_text image in
    let size = legacy_size c.args.limits c.args.file.now c.args.image.now c.unused.result c.requires c.unused.ensures in
    let is_time : c.fields.result.time ≡ image.time = search in
    let same : legacy_text (with_new_time c.fields.result.time image)
    ≡ text = ap (λ (time : ℕ). legacy_text (with_new_time time image)) is_time in
    let room : length text ≤ length c.args.buffer.now = omega (arith, c.if-buffer-size.false, size) in
    let grows = subst (λ (l : List ℕ). SliceGrows c.new-sink.result l c.append_legacy.new.sink) same
    (c.in-Ok.ensures.appended c.args.file.now c.requires) in
    filled_with _ text 0 c.new-sink.result c.append_legacy.new.sink c.args.buffer.now _ _ c.answer_with.result
    c.new-sink.ensures.none_filled c.new-sink.ensures.value
    c.new-sink.ensures.same_slice room grows (search) (c.answer_with.ensures ∙ ap (λ (n : ℕ). answer_of n 0) size)

pub returns-in-Err : goal.returns-in-Err
returns-in-Err c =
    let image = c.args.image.now.image in
    let text = legacy_text image in
    let size = legacy_size c.args.limits c.args.file.now c.args.image.now c.unused.result c.requires c.unused.ensures in
    let is_time : c.fields.result.time ≡ image.time = search in
    let same : legacy_text (with_new_time c.fields.result.time image)
    ≡ text = ap (λ (time : ℕ). legacy_text (with_new_time time image)) is_time in
    let room : length (legacy_text (with_new_time c.fields.result.time image)) ≤ length c.args.buffer.now = omega (
      arith,
      c.if-buffer-size.false,
      size,
      ap length same,
    ) in
    let unchanged = slice_is_unchanged c.new-sink.result c.append_legacy.new.sink
    (legacy_text (with_new_time c.fields.result.time image)) _ _ c.new-sink.ensures.none_filled
    (subst (λ (l : List ℕ). length (legacy_text (with_new_time c.fields.result.time image)) ≤ length l) (sym c.new-sink.ensures.value) room)
    (c.in-Err.ensures.failed c.args.file.now c.requires) in
    fills_nothing _ _ OutOfMemory c.new-sink.result c.append_legacy.new.sink c.args.buffer.now _ _ c.fail.new.answer
    c.fail.result refl c.new-sink.ensures.value
    c.new-sink.ensures.same_slice unchanged (search) c.fail.ensures.answer c.fail.ensures.status
