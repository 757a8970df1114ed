use Rattle.std.proofs.Common.{ap, ◌∙◌, sym, subst, true≢false}
use Rattle.std.specs.Prelude.{IsAscii, IsOk}
use Rattle.std.proofs.lemmas.Str.{IsUtf8-from_ascii}
use Rattle.bi_describe.specs.DescribedImages.{described_lines}
use Rattle.bi_describe.proofs.KeptLines.{lines_fit, put_kept}
use Rattle.bi_describe.proofs.compare.kept_lines.KeptLines.new.Goals as goal

pub invariant_of-result : goal.invariant_of-result
invariant_of-result c =
    let kept = put_kept (described_lines c.args.described.now) c.new-keeper.result c.put_lines.new.pen _ _ c.new-keeper.ensures
    c.put_lines.ensures.put c.in_ok-text.ensures in
    let text = ap (λ bytes. bytes.items) c.in-Ok.ensures.ok ∙ kept.0 in
    record {
      ascii = subst IsAscii (sym text) c.requires;
      fit = rw (text, kept.1) (lines_fit (described_lines c.args.described.now));
    }

pub unreachable-requires : goal.unreachable-requires
unreachable-requires c =
    let kept = put_kept (described_lines c.args.described.now) c.new-keeper.result c.put_lines.new.pen _ _ c.new-keeper.ensures
    c.put_lines.ensures.put c.in_ok-text.ensures in
    true≢false (sym (subst IsOk c.in-Err.is (c.from_utf8.ensures.succeeds (IsUtf8-from_ascii _ (subst IsAscii (sym kept.0) c.requires)))))

pub returns : goal.returns
returns c =
    let kept = put_kept (described_lines c.args.described.now) c.new-keeper.result c.put_lines.new.pen _ _ c.new-keeper.ensures
    c.put_lines.ensures.put c.in_ok-text.ensures in
    record { text = ap (λ bytes. bytes.items) c.in-Ok.ensures.ok ∙ kept.0; marks = kept.1 }
