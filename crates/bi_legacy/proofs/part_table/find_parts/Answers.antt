use Rattle.std.proofs.Common.{◌≡◌, [], Bool, true, IfErr, OnOk, sym, subst, if◌then◌else◌}
use Rattle.bi_base.specs.Checks.{IsFirstFault, HasNoFault}
use Rattle.bi_legacy.specs.Meaning.{has_part_table}
use Rattle.bi_legacy.specs.PartTables.{TablePasses, table_fault, table_checks}
use Rattle.bi_legacy.proofs.part_table.find_parts.Goals as goal

pub returns-then-has_part_table-clause-ok : goal.returns-then-has_part_table-clause-ok
returns-then-has_part_table-clause-ok c =
    let body = c.args.body.now in
    let e : has_part_table c.args.image_type ≡ true = cc in
    let P : Bool → Type 0 = λ has_table. OnOk c.read_part_table.result
    (HasNoFault (TablePasses body) (if has_table then table_checks body else [])) in
    subst P (sym e) c.read_part_table.ensures.ok

pub returns-then-has_part_table-clause-fault : goal.returns-then-has_part_table-clause-fault
returns-then-has_part_table-clause-fault c =
    let body = c.args.body.now in
    let e : has_part_table c.args.image_type ≡ true = cc in
    let P : Bool → Type 0 = λ has_table. IfErr c.read_part_table.result
    (IsFirstFault (TablePasses body) table_fault (if has_table then table_checks body else [])) in
    subst P (sym e) c.read_part_table.ensures.fault
