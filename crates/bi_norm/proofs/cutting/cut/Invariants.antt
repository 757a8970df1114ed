use Rattle.std.proofs.Common.{◌≡◌, ◌≤◌, ℕ, List, Bor, length, map, take}
use Rattle.std.specs.List.{concat, sum}
use Rattle.bi_norm.proofs.cutting.cut.Given as goal

-- The pieces so far have the lengths so far, and together they are the input up to `start`.
abbrev pub invariant-loop-piece_length : goal.invariant-loop-piece_length
invariant-loop-piece_length l =
    let pieces : List (List ℕ) = map (λ (piece : Bor (List ℕ)). piece.now) l.pieces.items in
    record {
      within : l.start ≤ length l.input;
      is_sum : l.start ≡ sum (take l.piece_length-index l.lengths);
      have_lengths : map length pieces ≡ take l.piece_length-index l.lengths;
      are_before : concat pieces ≡ take l.start l.input;
    }
