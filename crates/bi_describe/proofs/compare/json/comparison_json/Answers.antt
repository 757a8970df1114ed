use Rattle.std.proofs.Common.{sym, subst, true≢false}
use Rattle.std.specs.Prelude.{IsAscii, IsOk}
use Rattle.std.proofs.lemmas.Str.{IsUtf8-from_ascii}
use Rattle.bi_common.proofs.PrintedTexts.{json_lines_are_ascii}
use Rattle.bi_describe.specs.ComparisonJson.{comparison_object}
use Rattle.bi_describe.specs.MadeLines.{made_lines}
use Rattle.bi_describe.proofs.compare.json.comparison_json.Goals as goal

pub unreachable-requires : goal.unreachable-requires
unreachable-requires c =
    let is_ascii = subst IsAscii (sym c.in_ok-json_bytes.ensures)
    (json_lines_are_ascii (comparison_object c.args.same (made_lines c.args.lines.now))) in
    true≢false (sym (subst IsOk c.in-Err.is (c.from_utf8.ensures.succeeds (IsUtf8-from_ascii _ is_ascii))))
