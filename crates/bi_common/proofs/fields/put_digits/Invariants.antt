use Rattle.std.proofs.Common.{◌≡◌, ◌++◌, List, ℕ}
use Rattle.std.specs.Slice.Iter.{chunks_rest, chunks_size}
use Rattle.bi_common.specs.ValueTexts.{hexadecimal_digits}
use Rattle.bi_common.proofs.fields.put_digits.Given as goal

-- The digits of the bytes before the remaining ones were put.
abbrev pub invariant-loop-piece : goal.invariant-loop-piece
invariant-loop-piece g l = record {
  can_next : (goal.iterator-loop-piece g).can_next l.piece-iterator;
  is_finite : (goal.iterator-loop-piece g).is_finite l.piece-iterator;
  size : chunks_size l.piece-iterator ≡ 512;
  done : (bytes : List ℕ) × g.P.Pen.puts l.initial.pen (hexadecimal_digits bytes) l.pen
      × (bytes ++ chunks_rest l.piece-iterator ≡ l.fn.bytes);
}
