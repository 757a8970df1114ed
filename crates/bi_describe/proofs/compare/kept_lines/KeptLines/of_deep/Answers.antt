use Rattle.std.proofs.Common.{ap, ◌∙◌, sym, subst, true≢false}
use Rattle.std.specs.Prelude.{IsAscii, IsOk}
use Rattle.std.proofs.lemmas.Str.{IsUtf8-from_ascii}
use Rattle.bi_describe.specs.DeepDescriptions.{deep_lines}
use Rattle.bi_describe.proofs.KeptLines.{lines_fit, put_kept}
use Rattle.bi_describe.proofs.compare.kept_lines.KeptLines.of_deep.Goals as goal

pub invariant_of-result : goal.invariant_of-result
invariant_of-result c =
    let lines = deep_lines c.requires.deep in
    let kept = put_kept lines c.with_limit-keeper.result c.put_lines.new.pen _ _ c.with_limit-keeper.ensures
    (c.put_lines.ensures.put c.requires.deep c.requires.holds) c.in_ok-text.ensures in
    let text = ap (λ bytes. bytes.items) c.in-Ok.ensures.ok ∙ kept.0 in
    record {
      ascii = subst IsAscii (sym text) c.requires.ascii;
      fit = rw (text, kept.1) (lines_fit lines);
    }

pub unreachable-requires : goal.unreachable-requires
unreachable-requires c =
    let kept = put_kept (deep_lines c.requires.deep) c.with_limit-keeper.result c.put_lines.new.pen _ _ c.with_limit-keeper.ensures
    (c.put_lines.ensures.put c.requires.deep c.requires.holds) c.in_ok-text.ensures in
    true≢false (sym (subst IsOk c.in-Err.is (c.from_utf8.ensures.succeeds (IsUtf8-from_ascii _
    (subst IsAscii (sym kept.0) c.requires.ascii)))))

pub returns-clause-kept : goal.returns-clause-kept
returns-clause-kept c deep holds =
    let kept = put_kept (deep_lines deep) c.with_limit-keeper.result c.put_lines.new.pen _ _ c.with_limit-keeper.ensures
    (c.put_lines.ensures.put deep holds) c.in_ok-text.ensures in
    record { text = ap (λ bytes. bytes.items) c.in-Ok.ensures.ok ∙ kept.0; marks = kept.1 }
