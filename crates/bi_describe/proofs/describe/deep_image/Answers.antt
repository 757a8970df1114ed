use Rattle.std.proofs.Common.{rules}
use Rattle.std.proofs.lemmas.Result.{err_from_is_err_and}
use Rattle.bi_norm.specs.Reading.{meaning_of}
use Rattle.bi_describe.specs.DeepDescribing.{HasLongDeepText}
use Rattle.bi_describe.proofs.describe.deep_image.Goals as goal

pub returns-in_err-deep-clause-failed : goal.returns-in_err-deep-clause-failed
returns-in_err-deep-clause-failed c =
    let p = err_from_is_err_and c.from_residual.result c.from_residual.ensures.1 in
    rw (p.1, p.2) (c.in_err-deep.ensures.failed c.args.format)

pub returns-in_err-check_deep_length-clause-failed : goal.returns-in_err-check_deep_length-clause-failed
returns-in_err-check_deep_length-clause-failed c =
    let read = c.in_ok-deep.ensures.read in
    let fault = c.in_err-check_deep_length.ensures.fault in
    let is : HasLongDeepText c.args.format c.args.limits (meaning_of c.args.image.now) =
    record { insides = read.insides; are_inside = read.are_inside; is_long = fault.1 _ read.holds } in
    search (rules, is, fault)

pub returns-clause-described : goal.returns-clause-described
returns-clause-described c =
    let read = c.in_ok-deep.ensures.read in
    record {
      insides = read.insides;
      are_inside = read.are_inside;
      within = record {
        payloads = read.payloads;
        short = c.in_ok-check_deep_length.ensures.within _ read.holds;
      };
      holds = c.check_deep_length.ensures.same _ read.holds;
    }
