use Rattle.std.proofs.Common.{◌≡◌, map, drop}
use Rattle.std.specs.List.{list_all}
use Rattle.bi_blob.specs.Layout.{is_among}
use Rattle.bi_coverage.proofs.listed_paths.is_covered.Given as goal

abbrev pub invariant-loop-path : goal.invariant-loop-path
invariant-loop-path l =
    list_all (λ path. is_among path l.recorded) (map (λ path. path.items) (drop l.path-index l.part.below.items))
    ≡ list_all (λ path. is_among path l.recorded) (map (λ path. path.items) l.part.below.items)
