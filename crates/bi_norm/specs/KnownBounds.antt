use Rattle.bi_fit.specs.declared.form.Form.TheVariants.{Embedded, External}
use Rattle.bi_fit.specs.KnownFiles.{shared_file}
use Rattle.bi_legacy.specs.KnownFaults.{limited_to}
use Rattle.bi_norm.specs.NormalForm.{IsTooLong}

-- A file whose normal texts are longer than it is, by which a reader can judge the definitions.

-- The texts of a file of 1,244 bytes, whose images share a region, have 3,168 and 3,244 bytes. A
-- text that is as long as the limit is within it.
pub record TextBoundsAreKnown : Type 0 where
  pub embedded : IsTooLong (limited_to 3167) Embedded (shared_file 0 1000)
  pub embedded_within : ¬ (IsTooLong (limited_to 3168) Embedded (shared_file 0 1000))
  pub external : IsTooLong (limited_to 3243) External (shared_file 0 1000)
  pub external_within : ¬ (IsTooLong (limited_to 3244) External (shared_file 0 1000))
