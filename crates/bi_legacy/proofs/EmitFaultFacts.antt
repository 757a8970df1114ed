use Rattle.std.proofs.Common.{ℕ, ◌≢◌, refl, lit≤, replicate, zero, suc, rules}
use Rattle.std.proofs.lemmas.Bool.{eqb-false}
use Rattle.std.specs.List.{AllByRecursion}
use Rattle.bi_base.specs.Cells.{cell}
use Rattle.bi_legacy.specs.Meaning.{IsImageName}
use Rattle.bi_legacy.specs.File.{header}
use Rattle.bi_legacy.specs.Text.{legacy_text}
use Rattle.bi_legacy.specs.KnownImages.{kernel_image}
use Rattle.bi_legacy.specs.KnownFaults.{long_name, name_with_zero, EmitFaultsAreKnown, EmitChecksHaveOrder}
use Rattle.bi_legacy.proofs.LegacyFaultFacts.{past}

-- Small images to be written in which one check fails have known faults, and if two checks fail, the first gives the fault.

-- A name of 33 bytes is too long.
is_long : ¬ (IsImageName long_name)
is_long is = past 33 32 refl is.short

-- A zero byte is not a byte of a name.
has_zero : ¬ (IsImageName name_with_zero)
has_zero is = is.no_zero.1.0 refl

-- The names `k` and `kk..k`.
k_is_name : IsImageName kernel_image.name
k_is_name = record { short = lit≤ tt; no_zero = (eqb-false _ _ refl, tt) }

-- No byte of it is zero, however long it is.
all_nonzero : (n : ℕ) → AllByRecursion {X = ℕ} (λ byte. byte ≢ 0) (replicate n 0x6b)
all_nonzero zero = tt
all_nonzero (suc n) = (eqb-false _ _ refl, all_nonzero n)

pub emit_faults_are_known : EmitFaultsAreKnown
unfolding legacy_text header cell
emit_faults_are_known = search (rules, is_long, has_zero, all_nonzero, k_is_name)

pub emit_checks_have_order : EmitChecksHaveOrder
unfolding legacy_text header cell
emit_checks_have_order = search (rules, is_long, has_zero, k_is_name, past)
