use Rattle.std.proofs.Common.{◌≡◌, ℕ, zero, suc, ◌+◌, ◌*◌, ◌<◌, refl, lit≤, lit<, arith, rules}
use Rattle.bi_base.specs.Cells.{cell, u32_at, u64_at}
use Rattle.bi_blob.specs.BlobFaults.{IsEndPair, InReservations}
use Rattle.bi_blob.specs.KnownTexts.{smallest_text}
use Rattle.bi_base.specs.Limits.{widest}
use Rattle.bi_blob.specs.KnownBlobs.{with_cell}
use Rattle.bi_blob.specs.KnownFaults.{longer_file, HeadersHaveFaults, HeaderChecksHaveOrder, ReservationsHaveFaults}
use Rattle.bi_blob.proofs.CheckDecisions.{first_failing}
use Rattle.bi_blob.proofs.HeaderDecisions.{test, fine_by_test, in_header}

-- Small files with wrong headers or wrong memory reservation blocks have known faults, and if two checks of a header fail, the first gives
-- the fault.

-- In each header, the check that fails.
pub headers_have_faults : HeadersHaveFaults
unfolding u32_at cell test first_failing
headers_have_faults = search (rules, in_header)

-- Of two checks that fail, the first.
pub header_checks_have_order : HeaderChecksHaveOrder
unfolding u32_at cell test first_failing
header_checks_have_order = search (rules, in_header)

-- In each memory reservation block, the pairs up to the one that extends past its end.
pub reservations_have_faults : ReservationsHaveFaults
unfolding u32_at u64_at cell test
reservations_have_faults = record {
  past_end = InReservations (fine_by_test widest (with_cell smallest_text 16 80) refl) (record {
    index = 0;
    before = λ earlier below. omega arith;
    fits = lit≤ tt;
    past = lit< tt;
    is = refl;
  });
  at_end = InReservations (fine_by_test widest (with_cell smallest_text 16 88) refl) (record {
    index = 0;
    before = λ earlier below. omega arith;
    fits = lit≤ tt;
    past = lit< tt;
    is = refl;
  });
  past_total = InReservations (fine_by_test widest (with_cell longer_file 16 80) refl) (record {
    index = 0;
    before = λ earlier below. omega arith;
    fits = lit≤ tt;
    past = lit< tt;
    is = refl;
  });
  endless = InReservations (fine_by_test widest (with_cell smallest_text 44 1) refl) (record {
    index = 3;
    before = none;
    fits = lit≤ tt;
    past = lit< tt;
    is = refl;
  });
} where
  none : (earlier : ℕ) → earlier < 3 → ¬ (IsEndPair (with_cell smallest_text 44 1) (40 + 16 * earlier))
  none zero below = λ is. let wrong : ◌≡◌ {A = ℕ} 1 0 = is.address in omega arith
  none (suc zero) below = λ is. let wrong : ◌≡◌ {A = ℕ} 0x100000000 0 = is.address in omega arith
  none (suc (suc zero)) below = λ is. let wrong : ◌≡◌ {A = ℕ} 0x6573000000000002 0 = is.address in omega arith
  none (suc (suc (suc earlier))) below = absurd (omega arith)
