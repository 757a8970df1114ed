use Rattle.std.proofs.Common.{ℕ, List, ◌++◌, rules, false, sym, ap, ◌∙◌, append_assoc, subst}
use Rattle.std.specs.Slice.Iter.{chunks_rest}
use Rattle.std.proofs.lemmas.Grind.{flat_map-append}
use Rattle.bi_common.specs.Shown.{digits_of_byte}
use Rattle.bi_common.proofs.fields.put_digits.Goals as goal

pub loop-piece-preserved : goal.loop-piece-preserved
loop-piece-preserved g c =
    let (bytes, written, parts) = c.loop-piece.invariant.done in
    let steps = c.in-Some.ensures.steps in
    let piece = c.in-Some.piece.now in
    record {
      can_next = search rules;
      is_finite = search rules;
      size = steps.0 ∙ c.loop-piece.invariant.size;
      done = (
        bytes ++ piece,
        subst (λ digits. g.P.Pen.puts c.args.pen.now digits c.put_digits_of_piece.new.pen)
            (sym (flat_map-append (digits_of_byte false) bytes piece))
            (g.met.P.Pen.puts_in_turn _ _ _ _ _ written c.put_digits_of_piece.ensures),
        append_assoc bytes piece (chunks_rest c.next.new.self) ∙ ap (λ (later : List ℕ). bytes ++ later) (sym steps.1.0) ∙ parts,
      );
    }
