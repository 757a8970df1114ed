use Rattle.std.proofs.Common.{sym, ◌∙◌}
use Rattle.bi_fdt.specs.Properties.{file_property_of}
use Rattle.bi_coverage.proofs.Ends.{payload_name_end, counted_name_end}
use Rattle.bi_coverage.proofs.strings.counted_end.Goals as goal

pub returns-then-is_payload_name : goal.returns-then-is_payload_name
returns-then-is_payload_name c =
    payload_name_end c.args.file.now (file_property_of c.args.property) (sym c.is_payload_name.ensures ∙ c.if-is_payload_name.true)

pub returns : goal.returns
returns c =
    counted_name_end c.args.file.now (file_property_of c.args.property) c.name_end.result
    (sym c.is_payload_name.ensures ∙ c.if-is_payload_name.false) c.name_end.ensures
