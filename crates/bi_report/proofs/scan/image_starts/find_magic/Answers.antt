use Rattle.std.proofs.Common.{List, ℕ, ◌-◌, Some, None, subst, arith}
use Rattle.bi_base.specs.Cells.{slice}
use Rattle.bi_report.proofs.ImageStarts.{end_is_next, found_is_next}
use Rattle.memchr.specs.Find.{FindsNeedle}
use Rattle.bi_report.proofs.scan.image_starts.find_magic.Goals as goal

pub returns-in-Some : goal.returns-in-Some
unfolding Rattle.bi_base.specs.Cells.cell
returns-in-Some c =
    let searched = slice c.args.file.now c.args.from (c.min-last.result - c.args.from) in
    found_is_next c.args.file.now c.args.magic c.args.from c.args.end c.min-last.result c.in-Some.place
    (record { each = λ i. omega (arith, c.type_inv.file i) }) (omega arith) (omega arith) (omega arith) (omega arith)
    (subst (λ (needle : List ℕ). FindsNeedle searched needle 0 (Some c.in-Some.place)) c.to_be_bytes.ensures c.in-Some.ensures)

pub returns-in-None : goal.returns-in-None
unfolding Rattle.bi_base.specs.Cells.cell
returns-in-None c =
    let searched = slice c.args.file.now c.args.from (c.min-last.result - c.args.from) in
    end_is_next c.args.file.now c.args.magic c.args.from c.args.end c.min-last.result
    (record { each = λ i. omega (arith, c.type_inv.file i) }) (omega arith) (omega arith) (λ offset before whole. omega arith)
    (subst (λ (needle : List ℕ). FindsNeedle searched needle 0 None) c.to_be_bytes.ensures c.in-None.ensures)
