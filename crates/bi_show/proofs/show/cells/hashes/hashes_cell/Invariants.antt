use Rattle.std.proofs.Common.{◌≡◌, ◌++◌, length, map}
use Rattle.bi_common.specs.HashedImages.{found_left}
use Rattle.bi_show.specs.PageCells.{hash_word}
use Rattle.bi_show.specs.Rows.{cells_of_row}
use Rattle.bi_show.proofs.show.cells.hashes.hashes_cell.Given as goal

-- The words of the hash nodes before this one are there, and those of the others follow.
abbrev pub invariant-loop-node : goal.invariant-loop-node
invariant-loop-node l = cells_of_row l.words.items ++ map hash_word (found_left l.left) ≡ map hash_word (found_left l.hashes)

abbrev pub decreases-loop-node : goal.decreases-loop-node
decreases-loop-node l = length (found_left l.left)
