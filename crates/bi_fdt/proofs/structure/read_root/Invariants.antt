use Rattle.std.proofs.Common.{◌+◌, ◌-◌}
use Rattle.bi_fdt.specs.Blocks.{blocks_of}
use Rattle.bi_fdt.specs.Reading.{IsReading}
use Rattle.bi_fdt.proofs.structure.read_root.Given as goal

abbrev pub invariant-loop-has_ended : goal.invariant-loop-has_ended
invariant-loop-has_ended l = IsReading (blocks_of l.blocks) l.depth_limit l.reading

abbrev pub decreases-loop-has_ended : goal.decreases-loop-has_ended
decreases-loop-has_ended l = l.blocks.end + 4 - l.reading.place
