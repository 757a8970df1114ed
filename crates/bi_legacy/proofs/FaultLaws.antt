use Rattle.std.proofs.Common.{◌≡◌, ℕ, ◌+◌, ◌≤◌, List, length, arith, subst, inl, inr, ◌⊎◌, ◌==◌, Contains, rules}
use Rattle.std.proofs.lemmas.Bool.{cases_lt, cases_eq, eqb-true}
use Rattle.std.proofs.lemmas.List.Elements.{Contains-get_or}
use Rattle.std.proofs.lemmas.List.Sums.{passes_at_first}
use Rattle.bi_base.specs.Cells.{u32_at}
use Rattle.bi_base.specs.Crc.{crc32}
use Rattle.bi_base.specs.Limits.{Limits}
use Rattle.bi_base.specs.declared.fault.Fault.{Fault}
use Rattle.bi_base.proofs.FirstFault.{one_fault, not_both, fault_or_none}
use Rattle.bi_legacy.specs.Faults.{Check, IsWithinLimit, HasMagicCell, HasMagic, HasHeader, HasHeaderChecksum, HasData, HasDataChecksum}
use Rattle.bi_legacy.specs.Faults.{InPartTable, Passes, fault_of, legacy_checks, IsLegacyFault, HasNoLegacyFault, body_of}
use Rattle.bi_legacy.specs.Faults.{header_without_checksum}
use Rattle.bi_legacy.specs.PartTables.{TableCheck, HasTableEnd, HasPart, TablePasses, cells_of}
use Rattle.bi_legacy.specs.File.{LegacyMeans}
use Rattle.bi_legacy.specs.Meaning.{LegacyImage}
use Rattle.bi_legacy.proofs.MeansNoFault.{means_no_fault}
use Rattle.bi_legacy.proofs.TableCells.{zero_within}
use Rattle.bi_base.proofs.NulLaws.{nul_index}

-- A file has a meaning if and only if no check fails, and at most one fault.

-- A number is at most another or not.
bound_decided : (a b : ℕ) → (a ≤ b) ⊎ (¬ (a ≤ b))
bound_decided a b = search (rules, cases_lt)

-- Numbers contain a zero or not.
zero_decided : (numbers : List ℕ) → Contains numbers 0 ⊎ (¬ (Contains numbers 0))
zero_decided numbers = elim (cases_lt (nul_index numbers) (length numbers)) [
  | inl within ↦ inl (subst (Contains numbers) (eqb-true _ _ (passes_at_first (λ number. number == 0) numbers 0 within))
      (Contains-get_or numbers (nul_index numbers) 0 within))
  | inr past ↦ inr (λ there. omega (arith, zero_within numbers there))
]

-- Each check of a part table passes or fails.
table_decided : (body : List ℕ) (check : TableCheck) → TablePasses body check ⊎ (¬ (TablePasses body check))
table_decided body HasTableEnd = zero_decided (cells_of body)
table_decided body (HasPart index end) = bound_decided end (length body)

-- Each check passes or fails.
check_decided : (file : List ℕ) (limits : Limits) (check : Check) → Passes limits file check ⊎ (¬ (Passes limits file check))
check_decided file limits IsWithinLimit = bound_decided (length file) limits.file
check_decided file limits HasMagicCell = bound_decided 4 (length file)
check_decided file limits HasMagic = cases_eq (u32_at file 0) 0x27051956
check_decided file limits HasHeader = bound_decided 64 (length file)
check_decided file limits HasHeaderChecksum = cases_eq (u32_at file 4) (crc32 (header_without_checksum file))
check_decided file limits HasData = bound_decided (64 + u32_at file 12) (length file)
check_decided file limits HasDataChecksum = cases_eq (u32_at file 24) (crc32 (body_of file))
check_decided file limits (InPartTable check) = table_decided (body_of file) check

-- A file has no fault or some fault.
pub fault_or_no_fault : (file : List ℕ) (limits : Limits) →
    HasNoLegacyFault limits file ⊎ ((fault : Fault) × IsLegacyFault limits file fault)
fault_or_no_fault file limits = fault_or_none (Passes limits file) (fault_of limits) (check_decided file limits) (legacy_checks file)

-- A file has at most one fault.
pub one_legacy_fault : (file : List ℕ) (limits : Limits) (a b : Fault) → IsLegacyFault limits file a → IsLegacyFault limits file b → a ≡ b
one_legacy_fault file limits a b is_a is_b = one_fault (Passes limits file) (fault_of limits) (legacy_checks file) a b is_a is_b

-- A file without a fault has no fault.
pub no_fault_no_fault : (file : List ℕ) (limits : Limits) (fault : Fault) → HasNoLegacyFault limits file → IsLegacyFault limits file fault →
    ⊥
no_fault_no_fault file limits fault none is = not_both (Passes limits file) (fault_of limits) (legacy_checks file) fault none is

-- A file with a fault means no image within the limits.
pub no_meaning_with_fault : (file : List ℕ) (image : LegacyImage) (limits : Limits) (fault : Fault) → IsLegacyFault limits file fault →
    LegacyMeans limits file image → ⊥
no_meaning_with_fault file image limits fault is means =
    no_fault_no_fault file limits fault (means_no_fault file image limits means) is
