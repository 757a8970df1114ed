use Rattle.std.proofs.Common.{sym, subst, true≢false}
use Rattle.std.specs.Prelude.{IsOk}
use Rattle.bi_norm.specs.Reading.{meaning_of}
use Rattle.bi_describe.specs.Describing.{description_text}
use Rattle.bi_describe.proofs.PrintedDescriptions.{written_utf8}
use Rattle.bi_describe.proofs.describe.text_of_image.Goals as goal

pub unreachable-requires : goal.unreachable-requires
unreachable-requires c =
    let meaning = meaning_of c.args.image.now in
    true≢false (sym (subst IsOk c.in-Err.is (c.from_utf8.ensures.succeeds
    (written_utf8 (description_text c.args.format meaning) c.new-pen.result c.put.new.pen c.in_ok-into_vec.field-0.items
    c.description_is_ascii.ensures c.new-pen.ensures c.in_ok-into_vec.ensures.text
    (c.put.ensures.put meaning c.in_ok-described.ensures.described)))))
