use Rattle.std.specs.Prelude.{◌≡◌, ◌⊎◌, List, [], ◌∷◌}
use Rattle.std.specs.List.{AllByRecursion}
use Rattle.bi_base.specs.declared.fault.Fault.{Fault}

-- A format's checks, in the order in which they are made. Each format defines its checks, when each
-- of them passes, and its fault if it fails (profile of this project).

-- Some check fails, each one before it passes, and this is the fault of that first failing check.
abbrev pub IsFirstFault : {C : Type 0} → (C → Type 0) → (C → Fault) → List C → Fault → Type 0
IsFirstFault Passes fault_of [] fault = ⊥
IsFirstFault Passes fault_of (check ∷ later) fault =
    (¬ (Passes check) × (fault ≡ fault_of check))
    ⊎ (Passes check × IsFirstFault Passes fault_of later fault)

-- Each check passes.
abbrev pub HasNoFault : {C : Type 0} → (C → Type 0) → List C → Type 0
HasNoFault Passes checks = AllByRecursion Passes checks
