use Rattle.std.proofs.Common.{◌≤◌, length, ℕ, refl, ap, sym, subst, ◌∙◌, arith, List}
use Rattle.bi_c.specs.Answers.{HadNoRoom, answer_of}
use Rattle.bi_base.proofs.SliceSinkLaws.{grew}
use Rattle.bi_c.proofs.SliceWriting.{filled_with}
use Rattle.bi_c.proofs.writing.write_tree.Goals as goal

pub returns-then-buffer-size : goal.returns-then-buffer-size
returns-then-buffer-size c =
    HadNoRoom c.args.text.now c.args.value (record { is_text = refl; is_number = refl })
    (omega (arith, c.if-buffer-size.true, c.size-size.ensures.size)) refl
    (c.answer_with.ensures ∙ ap (λ (n : ℕ). answer_of n c.args.value) c.size-size.ensures.size) refl

pub returns : goal.returns
returns c =
    let text = c.args.text.now in
    let old = c.new-sink.result in
    let new = c.emit.new.sink in
    let room : length text ≤ length c.args.buffer.now = omega (arith, c.if-buffer-size.false, c.size-size.ensures.size) in
    let grows = grew old new text c.emit.result c.new-sink.ensures.none_filled
    (subst (λ (l : List ℕ). length text ≤ length l) (sym c.new-sink.ensures.value) room) c.emit.ensures in
    filled_with _ text c.args.value old new c.args.buffer.now _ _ c.answer_with.result
    c.new-sink.ensures.none_filled c.new-sink.ensures.value
    c.new-sink.ensures.same_slice room grows (search)
    (c.answer_with.ensures ∙ ap (λ (n : ℕ). answer_of n c.args.value) c.size-size.ensures.size)
