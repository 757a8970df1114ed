use Rattle.std.proofs.Common.{◌≡◌, ℕ, List, sym, subst, arith, rules}
use Rattle.bi_base.specs.Cells.{AreBytes}
use Rattle.bi_base.proofs.Refusals.{error_passed_on}
use Rattle.bi_blob.specs.Blob.{tree_blocks}
use Rattle.bi_fdt.specs.Reading.{HasTable}
use Rattle.bi_fdt.specs.TableNames.{AreTableNames}
use Rattle.bi_fdt.specs.declared.table.Entry.{Entry}
use Rattle.bi_fdt.proofs.BlobViews.{only_fault, refused_in_tree, is_held, is_read_blob}
use Rattle.bi_blob.proofs.Blobs.BeforeTree.{first_fault}
use Rattle.bi_fdt.proofs.blob.Blob.read.Goals as goal

pub returns-in_err-reservation_count-clause-failed : goal.returns-in_err-reservation_count-clause-failed
returns-in_err-reservation_count-clause-failed c =
    error_passed_on _ _ _ c.from_residual.ensures.1
    (only_fault c.args.limits c.args.file.now c.in_err-reservation_count.field-0.0
    (first_fault c.args.limits c.args.file.now c.in_err-reservation_count.field-0.0 c.in_err-reservation_count.ensures.fault))

pub returns-in_err-entries-clause-failed : goal.returns-in_err-entries-clause-failed
returns-in_err-entries-clause-failed c = search (rules, error_passed_on, refused_in_tree)

pub invariant_of-result : goal.invariant_of-result
invariant_of-result c =
    let depth : c.from.result ≡ c.args.limits.depth = search rules in
    let entries : List Entry = c.in_ok-entries.entries.items in
    let used : List (List ℕ) = c.in_ok-entries.names.used in
    let table : HasTable (tree_blocks c.args.file.now) c.args.limits.depth entries used =
    subst (λ n. HasTable (tree_blocks c.args.file.now) n entries used) depth
    (subst (λ b. HasTable b c.from.result entries used) c.tree_blocks-blocks.ensures.blocks c.in_ok-entries.ensures.ok) in (
      is_held c.args.limits c.args.file.now c.in_ok-reservation_count.reservation_count entries used
          c.in_ok-reservation_count.ensures.header c.in_ok-reservation_count.ensures.reservations table,
      subst (AreTableNames c.args.file.now entries) (sym c.into_kept.ensures) table.named,
    )

pub returns-clause-read : goal.returns-clause-read
returns-clause-read c =
    let depth : c.from.result ≡ c.args.limits.depth = search rules in
    let bytes : AreBytes c.args.file.now = record { each = λ i. omega (arith, c.type_inv.file i) } in
    let entries : List Entry = c.in_ok-entries.entries.items in
    let used : List (List ℕ) = c.in_ok-entries.names.used in
    is_read_blob c.args.limits c.args.file.now c.in_ok-reservation_count.reservation_count entries used bytes
    c.in_ok-reservation_count.ensures.header c.in_ok-reservation_count.ensures.reservations
    (subst (λ n. HasTable (tree_blocks c.args.file.now) n entries used) depth
    (subst (λ b. HasTable b c.from.result entries used) c.tree_blocks-blocks.ensures.blocks c.in_ok-entries.ensures.ok))
