use Rattle.std.proofs.Common.{Some, ap, arith, length, refl, sym, ◌∙◌}
use Rattle.std.proofs.lemmas.Option.{slice_get_past, slice_get_read}
use Rattle.std.specs.Vec.{with_item}
use Rattle.bi_describe.specs.declared.describe.insides.Insides.{Insides as MadeInsides}
use Rattle.bi_describe.specs.MadeInsides.{tree_or_none, tree_with_index}
use Rattle.bi_describe.specs.MadeWords.{ignored_words, place_of_payload}
use Rattle.bi_describe.proofs.HeldInsides.{left_out_held, none_held}
use Rattle.bi_describe.proofs.describe.insides.Insides.leave_out_at.Goals as goal

pub returns-in_ok-leave_out_of : goal.returns-in_ok-leave_out_of
returns-in_ok-leave_out_of c = λ insides trees whole held.
    let self = c.args.self.now in
    let new : MadeInsides = record self { trees = with_item self.trees c.in-Some.index c.leave_out_of.new.tree } in
    left_out_held (ignored_words c.args.words.now) insides trees (place_of_payload c.args.place.now) self new c.in-Some.index
    c.index_mut.result.now c.leave_out_of.new.tree whole (sym c.index_of.ensures ∙ c.in-Some.is)
    (record {
      same_index = refl;
      there = slice_get_read self.trees.items (length self.trees.items) c.in-Some.index c.index_mut.result.now refl
          (omega (arith, c.if-index-len.true, c.len.ensures, self.trees.ok.0)) c.index_mut.ensures.value;
      trees = refl;
    }) (λ found. c.in_ok-leave_out_of.ensures found) held

pub returns-else-index-len : goal.returns-else-index-len
returns-else-index-len c = λ insides trees whole held.
    let self = c.args.self.now in
    none_held (ignored_words c.args.words.now) insides trees (place_of_payload c.args.place.now) self whole
    (ap (tree_with_index self.trees.items) (sym c.index_of.ensures ∙ c.in-Some.is)
    ∙ ap tree_or_none (slice_get_past self.trees.items c.in-Some.index (omega (arith, c.if-index-len.false, c.len.ensures, self.trees.ok.0))))
    held
