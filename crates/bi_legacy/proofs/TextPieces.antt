use Rattle.std.proofs.Common.{◌≡◌, ℕ, ◌<◌, ◌≤◌, List, [], ◌∷◌, ◌++◌, length, get_or, flat_map, append-nil, append_assoc, zero, suc, arith}
use Rattle.std.proofs.Common.{refl, sym, ap, rules}
use Rattle.std.specs.Borrow.{Bor}
use Rattle.std.proofs.lemmas.List.{length-append}
use Rattle.bi_base.specs.Slices.{bytes_of}
use Rattle.bi_legacy.specs.Text.{with_zeros, joined_parts}

-- Joined parts are the pieces that are put.

-- Joined parts are those before the last one, each padded, and then the last one.
pub joined_slices : (before : List (Bor (List ℕ))) (last : Bor (List ℕ)) →
    joined_parts (bytes_of (before ++ (last ∷ []))) ≡ flat_map with_zeros (bytes_of before) ++ last.now
joined_slices [] last = refl
joined_slices (part ∷ []) last = ap (λ l. l ++ last.now) (sym (append-nil (with_zeros part.now)))
joined_slices (part ∷ next ∷ later) last = search (rules, append_assoc, joined_slices (next ∷ later) last)

-- A part is no longer than the joined parts.
pub slice_within : (slices : List (Bor (List ℕ))) (i : ℕ) (d : Bor (List ℕ)) → i < length slices →
    length (get_or slices i d).now ≤ length (joined_parts (bytes_of slices))
slice_within [] i d within = absurd (omega arith)
slice_within (part ∷ []) zero d within = omega arith
slice_within (part ∷ []) (suc i) d within = absurd (omega arith)
slice_within (part ∷ next ∷ later) zero d within = search (rules, length-append)
slice_within (part ∷ next ∷ later) (suc i) d within =
    let rest = joined_parts (bytes_of (next ∷ later)) in
    omega (arith, length-append (with_zeros part.now) rest, slice_within (next ∷ later) i d (omega arith))
