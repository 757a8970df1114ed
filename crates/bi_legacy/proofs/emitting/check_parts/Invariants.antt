use Rattle.std.proofs.Common.{drop}
use Rattle.bi_base.specs.declared.fault.Fault.{Fault}
use Rattle.bi_base.specs.Checks.{IsFirstFault, HasNoFault}
use Rattle.bi_base.specs.Slices.{bytes_of}
use Rattle.bi_legacy.specs.Emitting.{EmitPartPasses, emit_part_fault, emit_part_checks}
use Rattle.bi_legacy.proofs.emitting.check_parts.Given as goal

-- The parts that are left decide whether all pass, and what the first fault is.
abbrev pub invariant-loop-index : goal.invariant-loop-index
invariant-loop-index l =
    let parts = bytes_of l.parts in
    record {
      ok : HasNoFault EmitPartPasses (emit_part_checks l.index (drop l.index parts)) → HasNoFault EmitPartPasses (emit_part_checks 0 parts);
      fault : (fault : Fault) → IsFirstFault EmitPartPasses emit_part_fault (emit_part_checks l.index (drop l.index parts)) fault
          → IsFirstFault EmitPartPasses emit_part_fault (emit_part_checks 0 parts) fault;
    }
