use Rattle.std.proofs.Common.{◌+◌, ◌*◌, ℕ, length, subst, refl, inl, inr}
use Rattle.std.proofs.lemmas.Result.{err_from_is_err_and}
use Rattle.bi_legacy.specs.PartTables.{table_sizes}
use Rattle.bi_legacy.specs.PartRanges.{FitWithin}
use Rattle.bi_legacy.proofs.PartSlices.{ends_pass}
use Rattle.bi_legacy.proofs.part_table.read_part_table.Goals as goal

pub returns-in_default-clause-fault : goal.returns-in_default-clause-fault
returns-in_default-clause-fault c =
    rw c.refuse.ensures (inl ((λ there. let some = c.in_default.ensures.ends.1 there in absurd cc), refl))

pub returns-in_err-end-clause-fault : goal.returns-in_err-end-clause-fault
returns-in_err-end-clause-fault c =
    let p = err_from_is_err_and c.from_residual.result c.from_residual.ensures.1 in
    rw (p.1, p.2) (inr (c.in-Some.ensures.ends.0 refl, rw (← c.in-Some.ensures.count) c.in_err-end.ensures.fault))

pub returns-clause-ok : goal.returns-clause-ok
returns-clause-ok c =
    let P : ℕ → Type 0 = λ count. FitWithin (length c.args.body.now) (4 * (count + 1)) (table_sizes c.args.body.now) in (
      c.in-Some.ensures.ends.0 refl,
      ends_pass c.args.body.now 0 _ (table_sizes c.args.body.now) (subst P c.in-Some.ensures.count c.in_ok-end.ensures.fit),
    )
