use Rattle.std.proofs.Common.{ap, arith, length, rules}
use Rattle.std.proofs.lemmas.Result.{err_from_is_err_and}
use Rattle.bi_norm.specs.Reading.{meaning_of}
use Rattle.bi_common.specs.declared.format.Format.TheVariants.{Lines}
use Rattle.bi_describe.specs.DeepDescribing.{HasLongDeepText}
use Rattle.bi_describe.specs.DeepDescriptions.{deep_lines}
use Rattle.bi_describe.specs.Devicetrees.{DeepMeaning}
use Rattle.bi_describe.specs.KeptLines.{KeepsLines}
use Rattle.bi_describe.proofs.compare.deep.lines_of_deep.Goals as goal

pub returns-in_err-deep-clause-failed : goal.returns-in_err-deep-clause-failed
returns-in_err-deep-clause-failed c =
    let p = err_from_is_err_and c.from_residual.result c.from_residual.ensures.1 in
    rw (p.1, p.2) (c.in_err-deep.ensures.failed Lines)

pub of_deep-requires : goal.of_deep-requires
of_deep-requires c =
    let read = c.in_ok-deep.ensures.read in
    record {
      deep = record { meaning = meaning_of c.args.image.now; insides = read.insides };
      holds = read.holds;
      ascii = c.deep_is_ascii.ensures read.insides read.are_inside;
    }

pub returns-in-Ok-clause-kept : goal.returns-in-Ok-clause-kept
returns-in-Ok-clause-kept c =
    let read = c.in_ok-deep.ensures.read in
    let deep : DeepMeaning = record { meaning = meaning_of c.args.image.now; insides = read.insides } in
    let keeps : KeepsLines (deep_lines deep) c.in-Ok.kept = c.in-Ok.ensures.kept deep read.holds in
    let same = ap length keeps.text in
    record {
      described = record {
        insides = read.insides;
        are_inside = read.are_inside;
        within = record { payloads = read.payloads; short = omega (arith, same, c.in-Ok.ensures.within, c.file.ensures.value) };
      };
      keeps = keeps;
    }

pub returns-in_err-check_deep_length-in-Err-clause-failed : goal.returns-in_err-check_deep_length-in-Err-clause-failed
returns-in_err-check_deep_length-in-Err-clause-failed c =
    let read = c.in_ok-deep.ensures.read in
    let fault = c.in_err-check_deep_length-in-Err.ensures.fault in
    let is : HasLongDeepText Lines c.args.limits (meaning_of c.args.image.now) =
    record { insides = read.insides; are_inside = read.are_inside; is_long = fault.1 _ (c.of_deep.ensures.same _ read.holds) } in
    search (rules, is, fault)
