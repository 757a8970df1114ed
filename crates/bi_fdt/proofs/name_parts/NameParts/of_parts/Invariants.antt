use Rattle.std.proofs.Common.{◌≡◌, take}
use Rattle.bi_fdt.specs.NameParts.{parts_of_slices}
use Rattle.bi_fdt.proofs.name_parts.NameParts.of_parts.Given as goal

abbrev pub invariant-loop-tail : goal.invariant-loop-tail
invariant-loop-tail l = l.made ≡ parts_of_slices (take l.tail-index l.parts)
