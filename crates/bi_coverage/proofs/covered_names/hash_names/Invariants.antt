use Rattle.std.proofs.Common.{◌≡◌, ◌++◌, map, filter}
use Rattle.bi_base.specs.Slices.{bytes_of}
use Rattle.bi_fit.specs.Names.{is_hash_name}
use Rattle.bi_fit.specs.Siblings.{siblings_left}
use Rattle.bi_coverage.proofs.covered_names.hash_names.Given as goal

abbrev pub invariant-loop-child : goal.invariant-loop-child
invariant-loop-child l =
    bytes_of l.found.items ++ filter is_hash_name (map (λ sibling. sibling.name) (siblings_left l.child-iterator))
    ≡ bytes_of l.initial.found.items ++ filter is_hash_name (map (λ sibling. sibling.name) (siblings_left l.initial.child-iterator))
