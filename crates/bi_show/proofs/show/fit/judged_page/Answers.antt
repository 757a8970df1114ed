use Rattle.std.proofs.Common.{ap, sym, ◌∙◌, List, Option, ℕ, string_bytes, subst, rules}
use Rattle.bi_blob.specs.Lookups.{Sibling, root_node}
use Rattle.bi_blob.specs.Tree.{FileNode}
use Rattle.bi_fdt.specs.Content.{Blob, root_of}
use Rattle.bi_fit.specs.Content.{tree_of}
use Rattle.bi_fit.specs.Names.{timestamp_name}
use Rattle.bi_common.specs.declared.format.Format.TheVariants.{Lines}
use Rattle.bi_report.specs.Checking.{allowed_by_default}
use Rattle.bi_report.proofs.AsciiReports.{checked_is_ascii}
use Rattle.bi_report.proofs.CheckedFiles.{tree_has}
use Rattle.bi_show.specs.FitPages.{timestamp_in, value_in}
use Rattle.bi_show.specs.PageCells.{IsTimeCell}
use Rattle.bi_show.specs.Pages.{Table}
use Rattle.bi_show.specs.Rows.{cells_of_rows}
use Rattle.bi_show.specs.ShownFiles.{AreConcernLines}
use Rattle.bi_show.proofs.LayoutsOfFiles.{layout_found}
use Rattle.bi_show.proofs.ShownPages.{lines_of_concerns, tables_of_file}
use Rattle.bi_show.proofs.show.fit.judged_page.Goals as goal

pub concern_lines-requires : goal.concern_lines-requires
concern_lines-requires c =
    let limits = c.args.limits in
    let file = c.args.file.now in
    checked_is_ascii Lines allowed_by_default limits file _
    (lines_of_concerns limits file _ _ c.of_fit.ensures (tree_has limits file c.args.fit.now c.requires.read c.requires.within))

pub returns : goal.returns
returns c =
    let limits = c.args.limits in
    let file = c.args.file.now in
    let read = c.requires.read in
    let time : List ℕ = string_bytes c.in_ok-time.time in
    let regions : Table = cells_of_rows c.in_ok-fit_layout.field-0.items in
    record {
      tree = tree_of c.args.fit.now;
      means = read.means;
      time = time;
      is_time = subst (λ (value : Option (List ℕ)). IsTimeCell value time)
          (c.property.ensures
          ∙ ap (λ (node : Sibling FileNode). value_in node.own timestamp_name)
          (c.root.ensures.root ∙ ap (λ (blob : Blob). root_node (root_of blob)) c.blob.ensures)
          ∙ ap timestamp_in (sym read.same_root))
          c.in_ok-time.ensures;
      regions = regions;
      are_regions = layout_found c.args.layout limits file c.args.fit.now read regions c.in_ok-fit_layout.ensures;
      concerns = string_bytes c.in_ok-concerns.concerns;
      are_concerns = subst (AreConcernLines limits file) (sym c.in_ok-concerns.ensures)
          (lines_of_concerns limits file _ _ c.of_fit.ensures (tree_has limits file c.args.fit.now read c.requires.within));
      is = rw (c.in_ok-page.ensures) (search (rules, tables_of_file limits file c.args.fit.now read time regions));
    }
