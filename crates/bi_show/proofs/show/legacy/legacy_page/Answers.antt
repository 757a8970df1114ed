use Rattle.std.proofs.Common.{ap, sym, subst, string_bytes, rules}
use Rattle.bi_legacy.specs.Meaning.{LegacyImage}
use Rattle.bi_common.specs.declared.format.Format.TheVariants.{Lines}
use Rattle.bi_report.specs.Checking.{allowed_by_default}
use Rattle.bi_report.proofs.AsciiReports.{checked_is_ascii}
use Rattle.bi_report.proofs.CheckedFiles.{legacy_has}
use Rattle.bi_show.specs.Dates.{IsTimeText}
use Rattle.bi_show.specs.Rows.{cells_of_rows}
use Rattle.bi_show.specs.ShownFiles.{AreConcernLines}
use Rattle.bi_show.proofs.ShownPages.{lines_of_concerns}
use Rattle.bi_show.proofs.show.legacy.legacy_page.Goals as goal

pub concern_lines-requires : goal.concern_lines-requires
concern_lines-requires c =
    let limits = c.args.limits in
    let file = c.args.file.now in
    checked_is_ascii Lines allowed_by_default limits file _
    (lines_of_concerns limits file _ _ c.of_legacy.ensures (legacy_has limits file c.args.image.now c.requires.read))

pub returns : goal.returns
returns c =
    let limits = c.args.limits in
    let file = c.args.file.now in
    let time = string_bytes c.in_ok-time.time in
    record {
      parsed = c.args.image.now;
      is_read = c.requires.read;
      time = time;
      is_time = subst (λ seconds. IsTimeText seconds time) (ap (λ (image : LegacyImage). image.time) c.fields.ensures) c.in_ok-time.ensures;
      regions = cells_of_rows c.in_ok-legacy_layout.field-0.items;
      are_regions = c.in_ok-legacy_layout.ensures;
      concerns = string_bytes c.in_ok-concerns.concerns;
      are_concerns = subst (AreConcernLines limits file) (sym c.in_ok-concerns.ensures)
          (lines_of_concerns limits file _ _ c.of_legacy.ensures (legacy_has limits file c.args.image.now c.requires.read));
      is = search rules;
    }
