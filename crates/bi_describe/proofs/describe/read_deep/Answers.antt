use Rattle.std.proofs.lemmas.Result.{err_from_is_err_and}
use Rattle.bi_describe.proofs.describe.read_deep.Goals as goal

pub returns-in_err-insides-clause-failed : goal.returns-in_err-insides-clause-failed
returns-in_err-insides-clause-failed c =
    let p = err_from_is_err_and c.from_residual.result c.from_residual.ensures.1 in
    rw (p.1, p.2) c.in_err-insides.ensures.failed

pub returns-in_err-described-clause-failed : goal.returns-in_err-described-clause-failed
returns-in_err-described-clause-failed c =
    let p = err_from_is_err_and c.from_residual-in_err-described.result c.from_residual-in_err-described.ensures.1 in
    let read = c.in_ok-insides.ensures.read in
    rw (p.1, p.2) (λ format. c.in_err-described.ensures.deep_failed format read.insides read.are_inside)

pub returns-clause-read : goal.returns-clause-read
returns-clause-read c =
    let read = c.in_ok-insides.ensures.read in
    record {
      insides = read.insides;
      are_inside = read.are_inside;
      payloads = c.in_ok-insides.ensures.within;
      holds = record { holds = c.in_ok-described.ensures.described.holds; are_held = read.are_held };
    }
