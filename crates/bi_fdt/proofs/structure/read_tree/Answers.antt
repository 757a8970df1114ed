use Rattle.std.proofs.Common.{sym, subst}
use Rattle.bi_base.proofs.Refusals.{refused_by}
use Rattle.bi_fdt.specs.Reading.{IsTable}
use Rattle.bi_fdt.specs.TableNames.{AreTableNames}
use Rattle.bi_fdt.proofs.structure.read_tree.Goals as goal

pub returns-in_err-check_after_root-clause-failed : goal.returns-in_err-check_after_root-clause-failed
returns-in_err-check_after_root-clause-failed c =
    let after = c.in_ok-read_root.ensures.ok in
    refused_by _ c.in_err-check_after_root.field-0.0 _ c.from_residual-in_err-check_after_root.ensures.1
    (c.in_err-check_after_root.ensures.fault c.args.depth_limit after.root after.position)

pub returns-clause-ok : goal.returns-clause-ok
returns-clause-ok c =
    let after = c.in_ok-read_root.ensures.ok in
    let whole = c.in_ok-check_after_root.ensures.ok c.args.depth_limit after.root after.position in
    let file = c.args.blocks.file.now in
    let growing = c.read_root.new.reading.growing in
    record {
      root = after.root;
      holds = whole.0;
      shallow = whole.1;
      is_table = subst (λ entries. IsTable file entries.items after.root) (sym c.into_table.ensures.entries) after.is_table;
      named = subst (AreTableNames file c.into_table.result.0.items) (sym c.into_table.ensures.names)
          (subst (λ entries. AreTableNames file entries.items growing.names.used) (sym c.into_table.ensures.entries) after.named);
    }
