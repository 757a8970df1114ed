use Rattle.std.proofs.Common.{◌≡◌, ℕ, List, drop, map}
use Rattle.std.specs.Ordering.{nat_cmp}
use Rattle.std.specs.Cmp.Lexicographic.{slice_cmp}
use Rattle.std.specs.BTreeMap.{get_by}
use Rattle.bi_fit.specs.Content.{image_model, index_from}
use Rattle.bi_fit.proofs.fit.index_by_name.Given as goal

abbrev pub invariant-loop-index : goal.invariant-loop-index
invariant-loop-index l =
    (name : List ℕ) → get_by (λ other. slice_cmp nat_cmp name other.now) l.indices
    ≡ index_from l.index name (map image_model (drop l.index l.images))
