use Rattle.std.specs.Prelude.{map}
use Rattle.bi_coverage.specs.declared.needed_part.NeededPart.{NeededPart as PartValue}
use Rattle.bi_coverage.specs.Signatures.{NeededPart}

-- Needed parts as the code has them.

-- A needed part.
abbrev pub part_value : PartValue → NeededPart
part_value part = record {
  path = part.path.items;
  below = map (λ path. path.items) part.below.items;
}
