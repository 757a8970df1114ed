use Rattle.std.proofs.Common.{◌∷◌, [], ◌++◌, ◌∙◌, List, ℕ, ap, append_assoc, flat_map, subst, sym}
use Rattle.std.proofs.lemmas.Grind.{flat_map-append}
use Rattle.std.proofs.lemmas.List.{append-nil}
use Rattle.bi_common.specs.Shown.{shown_text}
use Rattle.bi_labels.specs.LabelledTexts.{labelled_line, lines_in}
use Rattle.bi_labels.proofs.labelled_text.put_labelled.Goals as goal

pub loop-line-preserved : goal.loop-line-preserved
loop-line-preserved g c =
    let before = c.loop-line.invariant.0 in
    let line = c.in-Some.line.now in
    let labelled : List ℕ → List ℕ = labelled_line c.args.format (shown_text c.args.name.now) in (
      before ++ line ∷ [],
      c.loop-line.invariant.1 ∙ ap (λ lines. before ++ lines) c.in-Some.ensures.some
          ∙ sym (append_assoc before (line ∷ []) (lines_in c.in-Some.later.now)),
      subst (λ (text : List ℕ). g.P.Pen.puts c.args.pen.now text c.put_line.new.pen)
          (sym (flat_map-append labelled before (line ∷ []) ∙ ap (λ (text : List ℕ). flat_map labelled before ++ text)
          (append-nil (labelled line))))
          (g.met.P.Pen.puts_in_turn _ _ _ _ _ c.loop-line.invariant.2 c.put_line.ensures),
    )
