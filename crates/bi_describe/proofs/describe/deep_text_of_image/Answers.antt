use Rattle.std.proofs.Common.{ap, sym, subst, true≢false, ◌∙◌}
use Rattle.std.specs.Prelude.{IsOk}
use Rattle.bi_norm.specs.Reading.{meaning_of}
use Rattle.bi_describe.specs.DeepDescribing.{deep_text}
use Rattle.bi_describe.specs.Devicetrees.{DeepMeaning}
use Rattle.bi_describe.proofs.PrintedDescriptions.{written_text, written_utf8}
use Rattle.bi_describe.proofs.describe.deep_text_of_image.Goals as goal

pub unreachable-requires : goal.unreachable-requires
unreachable-requires c =
    let is = c.in_ok-deep.ensures.described in
    let deep : DeepMeaning = record { meaning = meaning_of c.args.image.now; insides = is.insides } in
    true≢false (sym (subst IsOk c.in-Err.is (c.from_utf8.ensures.succeeds
    (written_utf8 (deep_text c.args.format deep) c.new-pen.result c.put.new.pen c.in_ok-into_vec.field-0.items
    (c.deep_is_ascii.ensures is.insides is.are_inside) c.new-pen.ensures c.in_ok-into_vec.ensures.text
    (c.put.ensures.put deep is.holds)))))

pub returns-clause-described : goal.returns-clause-described
returns-clause-described c =
    let is = c.in_ok-deep.ensures.described in
    let deep : DeepMeaning = record { meaning = meaning_of c.args.image.now; insides = is.insides } in
    record {
      insides = is.insides;
      are_inside = is.are_inside;
      within = is.within;
      is_text = ap (λ bytes. bytes.items) c.in-Ok.ensures.ok
          ∙ written_text (deep_text c.args.format deep) c.new-pen.result c.put.new.pen c.in_ok-into_vec.field-0.items c.new-pen.ensures
          c.in_ok-into_vec.ensures.text (c.put.ensures.put deep is.holds);
    }
