use Rattle.std.proofs.Common.{refl, rules}
use Rattle.bi_norm.specs.Reading.{meaning_of}
use Rattle.bi_fit.proofs.AppendedTexts.{wrote_none_of_kind}
use Rattle.bi_describe.specs.DeepDescribing.{IsDeepTextOf, deep_text}
use Rattle.bi_describe.specs.Devicetrees.{DeepMeaning}
use Rattle.bi_describe.proofs.describe.describe_deep_into.Goals as goal

pub returns-clause-failed : goal.returns-clause-failed
returns-clause-failed g c =
    let meaning = meaning_of c.args.image.now in
    let made = c.in_ok-deep.ensures.described in
    let deep : DeepMeaning = record { meaning = meaning; insides = made.insides } in
    let text = deep_text c.args.format deep in
    let is : IsDeepTextOf c.args.format c.args.limits meaning text =
    record { insides = made.insides; are_inside = made.are_inside; within = made.within; is_text = refl } in
    let wrote = c.result.ensures.wrote c.new-pen.result text c.new-pen.ensures.not_failed (c.put.ensures.put deep made.holds) in
    wrote_none_of_kind g.S.Sink.appends g.S.Sink.fails _ _ c.args.sink.now text c.result.result _ is (search (rules, wrote))

pub returns-clause-appended : goal.returns-clause-appended
returns-clause-appended g c =
    let meaning = meaning_of c.args.image.now in
    let made = c.in_ok-deep.ensures.described in
    let deep : DeepMeaning = record { meaning = meaning; insides = made.insides } in
    let text = deep_text c.args.format deep in
    let is : IsDeepTextOf c.args.format c.args.limits meaning text =
    record { insides = made.insides; are_inside = made.are_inside; within = made.within; is_text = refl } in
    let wrote = c.result.ensures.wrote c.new-pen.result text c.new-pen.ensures.not_failed (c.put.ensures.put deep made.holds) in
    search (rules, is, wrote)
