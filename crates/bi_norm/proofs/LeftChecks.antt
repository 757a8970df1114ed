use Rattle.std.proofs.Common.{List, ◌++◌}
use Rattle.bi_base.specs.declared.fault.Fault.{Fault}
use Rattle.bi_base.proofs.FirstFault.{IsFirstFault-front, IsFirstFault-after}
use Rattle.bi_base.proofs.ListMembers.{each-append}
use Rattle.bi_norm.specs.FitBuilding.{BuildCheck, BuildPasses, build_fault}
use Rattle.bi_norm.specs.BuildChecks.{AllPass, IsFirstFailure}

-- Once some checks have passed, those that are left decide.

-- Of all checks these are left: if they pass, all do, and their first fault is that of all.
pub record AreLeftChecks (all left : List BuildCheck) : Type 0 where
  pub passes : AllPass left → AllPass all
  pub fails : (fault : Fault) → IsFirstFailure left fault → IsFirstFailure all fault

-- A fault of the first that are left is that of all.
pub fails_first : (all front left : List BuildCheck) (fault : Fault) → AreLeftChecks all (front ++ left) → IsFirstFailure front fault →
    IsFirstFailure all fault
fails_first all front left fault are first =
    are.fails fault (λ limits form head plan images.
    IsFirstFault-front (BuildPasses limits form head plan images) (build_fault limits plan) front left fault
    (first limits form head plan images))

-- If they pass, the others are left.
pub left_after : (all front left : List BuildCheck) → AreLeftChecks all (front ++ left) → AllPass front → AreLeftChecks all left
left_after all front left are pass = record {
  passes = λ later.
      are.passes (λ limits form head plan images.
      each-append (BuildPasses limits form head plan images) front left (pass limits form head plan images)
      (later limits form head plan images));
  fails = λ fault later.
      are.fails fault (λ limits form head plan images.
      IsFirstFault-after (BuildPasses limits form head plan images) (build_fault limits plan) front left fault
      (pass limits form head plan images) (later limits form head plan images));
}
