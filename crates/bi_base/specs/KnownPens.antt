use Rattle.std.specs.Prelude.{◌≡◌, ℕ, List, Option, Some, None, codes}
use Rattle.bi_base.specs.MemoryPens.{MemoryPuts}
use Rattle.bi_base.specs.Pens.{literal}
use Rattle.bi_base.specs.SinkPens.{KeptPuts}
use Rattle.bi_base.specs.VecSinks.{Grows, IsOutOfMemory}
use Rattle.bi_base.specs.Sinks.{FailsWithin}
use Rattle.bi_base.specs.declared.fault.Error.{Error}
use Rattle.bi_base.specs.declared.fault.Error.TheVariants.{OutOfMemory, WriteFailed}

-- What pens may do with a small text, and what they may not, by which a reader can judge the
-- definitions.

-- `ab` was put to a pen over a sink in memory, which held these bytes, and then those. The failure
-- before and the one after are kept beside it.
abbrev pub Put : (old : List ℕ) → Option Error → (new : List ℕ) → Option Error → Type 0
Put old before new after =
    KeptPuts Grows (FailsWithin Grows IsOutOfMemory) old before (codes "ab") new after

-- The text is appended, or the error of the sink is kept. After that neither the sink nor the
-- failure changes. A pen in memory has the whole text, or none.
pub record PutsAreKnown : Type 0 where
  pub appended : Put (codes "x") None (codes "xab") None
  pub not_appended : ¬ (Put (codes "x") None (codes "x") None)
  pub failed : Put (codes "x") None (codes "xa") (Some OutOfMemory)
  pub other_error : ¬ (Put (codes "x") None (codes "xa") (Some WriteFailed))
  pub after_failure : Put (codes "x") (Some OutOfMemory) (codes "x") (Some OutOfMemory)
  pub changed_sink : ¬ (Put (codes "x") (Some OutOfMemory) (codes "xab") (Some OutOfMemory))
  pub forgotten : ¬ (Put (codes "x") (Some OutOfMemory) (codes "x") None)
  pub replaced : ¬ (Put (codes "x") (Some OutOfMemory) (codes "x") (Some WriteFailed))
  pub in_memory : MemoryPuts (Some (codes "x")) (codes "ab") (Some (codes "xab"))
  pub not_in_memory : ¬ (MemoryPuts (Some (codes "x")) (codes "ab") (Some (codes "x")))
  pub no_memory : MemoryPuts (Some (codes "x")) (codes "ab") None
  pub begun_again : ¬ (MemoryPuts None (codes "ab") (Some (codes "ab")))
  pub literal_text : literal (codes "ab") ≡ codes "ab"
