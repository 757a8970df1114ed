use Rattle.std.proofs.Common.{◌≡◌, ◌≤◌, ◌+◌, ◌++◌, ◌∷◌, [], ℕ, List, Bor, length, map, get_or, ap, ◌∙◌, arith, rules}
use Rattle.std.specs.List.{concat, sum, slice_range}
use Rattle.std.proofs.lemmas.List.{map-append}
use Rattle.std.proofs.lemmas.List.Sums.{sum_by_more_le}
use Rattle.bi_norm.proofs.Pieces.{sum_more, lengths_more, pieces_more}
use Rattle.bi_norm.proofs.cutting.cut.Goals as goal

-- The bytes of a piece.
abbrev bytes_of_piece : Bor (List ℕ) → List ℕ
bytes_of_piece piece = piece.now

pub loop-piece_length-preserved : goal.loop-piece_length-preserved
loop-piece_length-preserved c =
    let input = c.args.input.now in
    let lengths = c.args.lengths.now in
    let i = c.loop-piece_length.piece_length-index in
    let loop = c.loop-piece_length.invariant in
    let within = c.loop-piece_length-test.true in
    let start = c.loop-piece_length.start in
    let end = start + get_or lengths i 0 in
    let all : sum lengths ≡ length input = c.in_ok-check_lengths.ensures.ok in
    let fits : end ≤ length input = omega (arith, all, loop.is_sum, sum_by_more_le (λ (n : ℕ). n) lengths i 0 within) in
    let piece = slice_range input start end in
    let size : length piece + start ≡ end = search rules in
    let before = map bytes_of_piece c.loop-piece_length.pieces.items in
    let items : map bytes_of_piece c.push.new.self.items ≡ before ++ piece ∷ [] =
    ap (map bytes_of_piece) c.in_ok-push.ensures.items ∙ map-append bytes_of_piece c.loop-piece_length.pieces.items (_ ∷ []) in
    record {
      within = fits;
      is_sum = omega (arith, loop.is_sum, sum_more lengths i within);
      have_lengths = ap (map length) items ∙ lengths_more before piece lengths i within loop.have_lengths (omega (arith, size));
      are_before =
          ap concat items
          ∙ pieces_more before input start end (omega arith) loop.are_before;
    }
