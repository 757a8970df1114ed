use Rattle.bi_base.specs.declared.fault.Error.{Error}
use Rattle.bi_base.specs.declared.fault.Error.TheVariants as error
use Rattle.bi_base.specs.declared.fault.Fault.{Fault}

-- Errors of calls that read no stream and write to none.

-- The call fails with a fault for which this holds, or runs out of memory, which it does only if
-- memory is needed.
abbrev pub FailsWith : (IsFault : Fault → Type 0) → (NeedsMemory : Type 0) → Error → Type 0
FailsWith IsFault NeedsMemory (error.Refused fault) = IsFault fault
FailsWith IsFault NeedsMemory error.OutOfMemory = NeedsMemory
FailsWith IsFault NeedsMemory error.ReadFailed = ⊥
FailsWith IsFault NeedsMemory error.WriteFailed = ⊥

-- The call fails with a fault for which this holds, or runs out of memory.
abbrev pub IsFaultOrNoMemory : (Fault → Type 0) → Error → Type 0
IsFaultOrNoMemory IsFault = FailsWith IsFault (Unit {0})
