use Rattle.std.proofs.Common.{◌≡◌, ◌++◌, List, ℕ}
use Rattle.std.specs.Slice.Iter.{chunks_rest, chunks_size}
use Rattle.bi_hash.proofs.pieces.digest_in_pieces.Given as goal

-- The hasher holds the bytes before the remaining ones.
abbrev pub invariant-loop-piece : goal.invariant-loop-piece
invariant-loop-piece g l = record {
  can_next : (goal.iterator-loop-piece g).can_next l.piece-iterator;
  is_finite : (goal.iterator-loop-piece g).is_finite l.piece-iterator;
  size : chunks_size l.piece-iterator ≡ 4096;
  held : (message : List ℕ) × g.H.Hasher.holds l.hasher message × (message ++ chunks_rest l.piece-iterator ≡ l.fn.payload);
}
