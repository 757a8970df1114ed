use Rattle.std.proofs.Common.{ap, ◌∙◌, sym, subst, true≢false}
use Rattle.std.specs.Prelude.{IsAscii, IsOk}
use Rattle.std.proofs.lemmas.Str.{IsUtf8-from_ascii}
use Rattle.bi_describe.specs.DeepDescriptions.{lines_with_inside}
use Rattle.bi_describe.specs.MadeInsides.{shown_by}
use Rattle.bi_describe.specs.ReducedMeanings.{reduced_lines}
use Rattle.bi_describe.proofs.KeptLines.{lines_fit, put_kept}
use Rattle.bi_describe.proofs.compare.kept_lines.KeptLines.of_kept_deep.Goals as goal

pub invariant_of-result : goal.invariant_of-result
invariant_of-result c =
    let lines = lines_with_inside (shown_by c.requires.trees c.args.opened.now) (reduced_lines c.requires.meaning) in
    let kept = put_kept lines c.new-keeper.result c.put_deep_lines.new.pen _ _ c.new-keeper.ensures
    (c.in_ok-put_deep_lines.ensures c.requires.meaning c.requires.trees c.requires.is_kept c.requires.are_held) c.in_ok-text.ensures in
    let text = ap (λ bytes. bytes.items) c.in-Ok.ensures.ok ∙ kept.0 in
    record {
      ascii = subst IsAscii (sym text) c.requires.ascii;
      fit = rw (text, kept.1) (lines_fit lines);
    }

pub unreachable-requires : goal.unreachable-requires
unreachable-requires c =
    let lines = lines_with_inside (shown_by c.requires.trees c.args.opened.now) (reduced_lines c.requires.meaning) in
    let kept = put_kept lines c.new-keeper.result c.put_deep_lines.new.pen _ _ c.new-keeper.ensures
    (c.in_ok-put_deep_lines.ensures c.requires.meaning c.requires.trees c.requires.is_kept c.requires.are_held) c.in_ok-text.ensures in
    true≢false (sym (subst IsOk c.in-Err.is (c.from_utf8.ensures.succeeds (IsUtf8-from_ascii _
    (subst IsAscii (sym kept.0) c.requires.ascii)))))

pub returns : goal.returns
returns c meaning trees is held =
    let lines = lines_with_inside (shown_by trees c.args.opened.now) (reduced_lines meaning) in
    let kept = put_kept lines c.new-keeper.result c.put_deep_lines.new.pen _ _ c.new-keeper.ensures
    (c.in_ok-put_deep_lines.ensures meaning trees is held) c.in_ok-text.ensures in
    record { text = ap (λ bytes. bytes.items) c.in-Ok.ensures.ok ∙ kept.0; marks = kept.1 }
