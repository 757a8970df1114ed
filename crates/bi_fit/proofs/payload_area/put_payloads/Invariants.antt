use Rattle.std.proofs.Common.{◌≤◌, drop}
use Rattle.bi_base.specs.Aligns.{align_bytes}
use Rattle.bi_blob.specs.Layout.{longest_text}
use Rattle.bi_fit.specs.NormalNodes.{payloads_of}
use Rattle.bi_fit.specs.Text.{payload_area, payloads_end}
use Rattle.bi_fit.proofs.payload_area.put_payloads.Given as goal

-- With the payloads from this image on, all payloads are put. They end within the longest text.
abbrev pub invariant-loop-image : goal.invariant-loop-image
invariant-loop-image g l = record {
  within : payloads_end (align_bytes l.align) l.end (payloads_of (drop l.image-index l.images)) ≤ longest_text;
  puts : (last : _) → g.P.Pen.puts l.pen (payload_area (align_bytes l.align) l.end (payloads_of (drop l.image-index l.images))) last
      → g.P.Pen.puts l.initial.pen (payload_area (align_bytes l.align) 0 (payloads_of l.images)) last;
}
