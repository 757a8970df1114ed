use Rattle.std.specs.Prelude.{ℕ, List}
use Rattle.bi_base.specs.declared.fault.Fault.{Fault}
use Rattle.bi_base.specs.Limits.{Limits}
use Rattle.bi_fit.specs.Faults.{IsFitFault}
use Rattle.bi_legacy.specs.Faults.{IsLegacyFault}
use Rattle.bi_norm.specs.declared.kind.Kind.TheVariants.{Legacy}
use Rattle.bi_norm.specs.Kinds.{BeginsAs}

-- The fault of a file of any kind (profile of this project).

-- The fault of a file: that of a legacy image if it begins as one, else that of a flattened image
-- tree.
pub data IsFileFault (limits : Limits) (file : List ℕ) (fault : Fault) : Type 0 where
  OfLegacyImage : BeginsAs file Legacy → IsLegacyFault limits file fault
      → IsFileFault limits file fault
  OfTree : ¬ (BeginsAs file Legacy) → IsFitFault limits file fault → IsFileFault limits file fault
