use Rattle.std.proofs.Common.{◌≡◌, ℕ, List, [], ◌∷◌, ◌++◌, map, slice_index, inl, inr, subst}
use Rattle.bi_base.specs.Checks.{IsFirstFault, HasNoFault}
use Rattle.bi_base.specs.Limits.{Limits}
use Rattle.bi_base.specs.declared.fault.Fault.{Fault}
use Rattle.bi_legacy.specs.Faults.{Passes, InPartTable, fault_of, header_and_data_checks, body_of, IsLegacyFault, HasNoLegacyFault}
use Rattle.bi_legacy.specs.PartTables.{TablePasses, table_fault, body_checks}
use Rattle.bi_base.proofs.FirstFault.{IsFirstFault-after}

-- Two lists of checks pass if each passes, and the checks of a header and of its data are those of the file.

-- Two lists pass where each passes.
pub HasNoFault-append : {C : Type 0} (P : C → Type 0) (front after : List C) → HasNoFault P front → HasNoFault P after →
    HasNoFault P (front ++ after)
HasNoFault-append P [] after none rest = rest
HasNoFault-append P (check ∷ front) after none rest = (none.0, HasNoFault-append P front after none.1 rest)

-- Checks that are embedded in checks of another type: all pass in both.
pub HasNoFault-map : {C D : Type 0} (P : D → Type 0) (g : C → D) (checks : List C) → HasNoFault (λ check. P (g check)) checks →
    HasNoFault P (map g checks)
HasNoFault-map P g [] none = tt
HasNoFault-map P g (check ∷ checks) none = (none.0, HasNoFault-map P g checks none.1)

pub HasNoFault-unmap : {C D : Type 0} (P : D → Type 0) (g : C → D) (checks : List C) → HasNoFault P (map g checks) →
    HasNoFault (λ check. P (g check)) checks
HasNoFault-unmap P g [] none = tt
HasNoFault-unmap P g (check ∷ checks) none = (none.0, HasNoFault-unmap P g checks none.1)

-- The first fault is the same in both.
pub IsFirstFault-map : {C D : Type 0} (P : D → Type 0) (f : D → Fault) (g : C → D) (checks : List C) (fault : Fault) →
    IsFirstFault (λ check. P (g check)) (λ check. f (g check)) checks fault → IsFirstFault P f (map g checks) fault
IsFirstFault-map P f g [] fault first = absurd first
IsFirstFault-map P f g (check ∷ checks) fault (inl here) = inl here
IsFirstFault-map P f g (check ∷ checks) fault (inr later) = inr (later.0, IsFirstFault-map P f g checks fault later.1)

-- A file whose header and whose data pass.
pub header_and_body_pass : (file : List ℕ) (limits : Limits) (image_type : ℕ) (body : List ℕ) → image_type ≡ slice_index file 30 →
    body ≡ body_of file → HasNoFault (Passes limits file) header_and_data_checks →
    HasNoFault (TablePasses body) (body_checks image_type body) →
    HasNoLegacyFault limits file
header_and_body_pass file limits image_type body type_is body_is none rest =
    let P : ℕ → Type 0 = λ n. HasNoFault (TablePasses body) (body_checks n body) in
    let Q : List ℕ → Type 0 = λ b. HasNoFault (TablePasses b) (body_checks (slice_index file 30) b) in
    HasNoFault-append (Passes limits file) header_and_data_checks _ none
    (HasNoFault-map (Passes limits file) InPartTable _ (subst Q body_is (subst P type_is rest)))

-- A file whose header passes and whose data does not.
pub fault_in_body : (file : List ℕ) (limits : Limits) (image_type : ℕ) (body : List ℕ) (fault : Fault) → image_type ≡ slice_index file 30 →
    body ≡ body_of file → HasNoFault (Passes limits file) header_and_data_checks →
    IsFirstFault (TablePasses body) table_fault (body_checks image_type body) fault → IsLegacyFault limits file fault
fault_in_body file limits image_type body fault type_is body_is none first =
    let P : ℕ → Type 0 = λ n. IsFirstFault (TablePasses body) table_fault (body_checks n body) fault in
    let Q : List ℕ → Type 0 = λ b. IsFirstFault (TablePasses b) table_fault (body_checks (slice_index file 30) b) fault in
    IsFirstFault-after (Passes limits file) (fault_of limits) header_and_data_checks _ fault none
    (IsFirstFault-map (Passes limits file) (fault_of limits) InPartTable _ fault (subst Q body_is (subst P type_is first)))
