use Rattle.std.proofs.Common.{◌≡◌, ◌≢◌, ℕ, ◌-◌, ◌<◌, ◌≤◌, Option, Some, None, MatchOption, List, length, take, drop, get_or, arith, sym, ap}
use Rattle.std.proofs.Common.{subst, ◌∙◌}
use Rattle.std.specs.Prelude.{◌==◌}
use Rattle.std.specs.List.{position_or_len, HoldsAt, AllWithin}
use Rattle.std.proofs.lemmas.Bool.{eqb-true, eq-eqb, ne_eqb}
use Rattle.std.proofs.lemmas.List.{get_or-take, length-take, length-drop, take-take}
use Rattle.std.proofs.lemmas.List.Sums.{position_or_len_is, passes_at_first}
use Rattle.bi_blob.specs.Tokens.{name_from}
use Rattle.bi_blob.specs.Tree.{HasNoZero}
use Rattle.bi_blob.specs.BlobFaults.{HasName}
use Rattle.bi_blob.proofs.Blobs.BytesBeforeZero.{HasNoZero-before_zero}

-- A window of bytes has a name if and only if it has a zero byte, and the name is the bytes before the first one.

-- A list from an offset on and before an end.
abbrev pub window : List ℕ → ℕ → ℕ → List ℕ
window bytes at end = take (end - at) (drop at bytes)

-- What is known of the first zero of a list after looking for it.
abbrev pub IsFirstZero : List ℕ → Option ℕ → Type 0
IsFirstZero list found =
    MatchOption found (AllWithin (λ byte. byte ≢ 0) list 0 (length list))
    (λ n. (n < length list) × HoldsAt (λ byte. byte ≡ 0) list n × AllWithin (λ byte. byte ≢ 0) list 0 n)

-- A window with a zero has the name before it.
pub name_found : (bytes rest : List ℕ) (at end n : ℕ) → end ≤ length bytes → at ≤ end → rest ≡ window bytes at end →
    IsFirstZero rest (Some n) → HasName bytes at end × (take n rest ≡ name_from bytes at)
name_found bytes rest at end n fits ordered is first =
    let same : (k : ℕ) → k < end - at → get_or rest k 0 ≡ get_or (drop at bytes) k 0 =
    λ k below. ap (λ l. get_or l k 0) is ∙ get_or-take (end - at) (drop at bytes) k 0 below in
    let long : length rest ≡ end - at = ap length is ∙ simp (length-take, length-drop) (omega arith) in
    let dropped : length (drop at bytes) ≡ length bytes - at = length-drop at bytes in
    let within : n < length rest = first.0 in
    let place : position_or_len (λ byte. byte == 0) (drop at bytes) ≡ n =
    position_or_len_is (λ byte. byte == 0) (drop at bytes) n 0 (omega arith)
    (λ k below. ne_eqb _ 0 (λ e. first.2 k 0 (omega arith) below (same k (omega arith) ∙ e)))
    (λ _. eq-eqb _ 0 (sym (same n (omega arith)) ∙ first.1 0)) in
    let named : take n (drop at bytes) ≡ name_from bytes at = ap (λ m. take m (drop at bytes)) (sym place) in
    let short : length (name_from bytes at) ≡ n = ap length (sym named) ∙ simp length-take (omega arith) in
    (omega arith, ap (take n) is ∙ take-take n (end - at) (drop at bytes) (omega arith) ∙ named)

-- A window without a zero has no name.
pub no_name_found : (bytes rest : List ℕ) (at end : ℕ) → end ≤ length bytes → at ≤ end → rest ≡ window bytes at end →
    IsFirstZero rest None → HasName bytes at end → ⊥
no_name_found bytes rest at end fits ordered is nonzero has =
    let n : ℕ = position_or_len (λ byte. byte == 0) (drop at bytes) in
    let dropped : length (drop at bytes) ≡ length bytes - at = length-drop at bytes in
    let long : length rest ≡ end - at = ap length is ∙ simp (length-take, length-drop) (omega arith) in
    let short : length (name_from bytes at) ≡ _ = length-take n (drop at bytes) in
    let inside : n < end - at = omega arith in
    nonzero n 0 (omega arith) (omega arith)
    (ap (λ l. get_or l n 0) is ∙ get_or-take (end - at) (drop at bytes) n 0 inside
    ∙ eqb-true _ 0 (passes_at_first (λ byte. byte == 0) (drop at bytes) 0 (omega arith)))

-- What is read as a name has no zero.
pub no_zero_in_name : (bytes name : List ℕ) (at : ℕ) → name ≡ name_from bytes at → HasNoZero name
no_zero_in_name bytes name at is = subst HasNoZero (sym is) (HasNoZero-before_zero (drop at bytes))
