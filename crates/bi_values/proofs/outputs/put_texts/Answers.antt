use Rattle.std.proofs.Common.{◌≡◌, ◌∷◌, [], ◌++◌, ◌∙◌, List, ℕ, ap, append_assoc, map, subst, sym}
use Rattle.std.proofs.lemmas.Grind.{flat_map-append}
use Rattle.std.proofs.lemmas.List.{map-append}
use Rattle.bi_fit.specs.Judgement.{listed_names}
use Rattle.bi_common.specs.Lines.{Line, Text, line_text, text_of_lines}
use Rattle.bi_values.specs.ValueResults.{text_lines, word_line}
use Rattle.bi_values.proofs.outputs.put_texts.Goals as goal

-- A line of one more text.
text_lines-snoc : (texts : List (List ℕ)) (text : List ℕ) → text_lines (texts ++ text ∷ []) ≡ text_lines texts ++ word_line (Text text)
text_lines-snoc texts text =
    let line_of : List ℕ → Line = λ one. Text one ∷ [] in
    ap text_of_lines (map-append line_of texts (text ∷ []))
    ∙ flat_map-append line_text (map line_of texts) (line_of text ∷ [])

pub loop-text-preserved : goal.loop-text-preserved
loop-text-preserved g c =
    let before = c.loop-text.invariant.0 in
    let text = c.in-Some.text.now in (
      before ++ text ∷ [],
      c.loop-text.invariant.1 ∙ ap (λ names. before ++ names) c.in-Some.ensures.listed
          ∙ sym (append_assoc before (text ∷ []) (listed_names c.in-Some.later.now)),
      subst (λ (lines : List ℕ). g.P.Pen.puts c.args.pen.now lines c.put_word.new.pen) (sym (text_lines-snoc before text))
          (g.met.P.Pen.puts_in_turn _ _ _ _ _ c.loop-text.invariant.2 c.put_word.ensures),
    )
