use Rattle.std.proofs.Common.{◌≡◌, ◌+◌, drop}
use Rattle.bi_fit.specs.PropertyMaps.{index_of_rank}
use Rattle.bi_fit.proofs.document.property_map.find_index.Given as goal

abbrev pub invariant-loop-index : goal.invariant-loop-index
invariant-loop-index l = l.index + index_of_rank (drop l.index l.entries) l.rank ≡ index_of_rank l.entries l.rank
