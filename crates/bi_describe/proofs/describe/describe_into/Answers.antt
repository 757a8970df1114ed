use Rattle.std.proofs.Common.{refl, rules}
use Rattle.bi_norm.specs.Reading.{meaning_of}
use Rattle.bi_describe.specs.DescribedImages.{IsDescriptionOf}
use Rattle.bi_describe.specs.Describing.{description_text}
use Rattle.bi_fit.proofs.AppendedTexts.{wrote_none_of_kind}
use Rattle.bi_describe.proofs.describe.describe_into.Goals as goal

pub returns-clause-failed : goal.returns-clause-failed
returns-clause-failed g c =
    let meaning = meaning_of c.args.image.now in
    let text = description_text c.args.format meaning in
    let is : IsDescriptionOf c.args.format c.args.limits meaning text = record {
      within = c.in_ok-described.ensures.within;
      is_text =
          refl;
    } in
    let wrote = c.result.ensures.wrote c.new-pen.result text c.new-pen.ensures.not_failed
    (c.put.ensures.put meaning c.in_ok-described.ensures.described) in
    wrote_none_of_kind g.S.Sink.appends g.S.Sink.fails _ _ c.args.sink.now text c.result.result _ is (search (rules, wrote))
