use Rattle.std.proofs.Common.{rules, arith}
use Rattle.bi_base.specs.Aligns.{align_bytes}
use Rattle.bi_base.proofs.AlignmentLaws.{alignment-positive}
use Rattle.bi_fit.proofs.PayloadEnds.{one_end-le, payloads_from, area_from}
use Rattle.bi_fit.proofs.payload_area.put_payloads.Goals as goal

pub put_payload-end-requires : goal.put_payload-end-requires
put_payload-end-requires g c =
    grind (arith, one_end-le, alignment-positive (align_bytes c.args.align) c.args.align.is_alignment)

pub loop-image-preserved : goal.loop-image-preserved
loop-image-preserved g c = search (rules, payloads_from, area_from, g.met.P.Pen.puts_in_turn)
