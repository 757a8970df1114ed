use Rattle.std.proofs.Common.{◌≡◌, ℕ, List, Option, Some, None, sym, subst}
use denote.Ref.{Bor}
use Rattle.bi_fdt.specs.NameParts.{FindsPart, AreNameParts, name_parts_of}
use Rattle.bi_fdt.specs.PartNumbers.{number_in}
use Rattle.bi_fdt.specs.declared.name_parts.NameParts.TheInside.{Inside}
use Rattle.bi_fdt.proofs.NameParts.{lacks_part}
use Rattle.bi_fdt.proofs.name_parts.NameParts.find.Goals as goal

-- What the maps have for a part is its number.
finds : (inside : Inside) (part : ℕ × Bor (List ℕ)) (found : Option ℕ) → AreNameParts inside →
    found ≡ number_in inside.numbers part → FindsPart (name_parts_of inside) (part.0, part.1.now) found
finds inside part (Some number) are is = are.found part number (sym is)
finds inside part None are is = lacks_part (number_in inside.numbers) (name_parts_of inside) part are.listed (sym is)

pub returns : goal.returns
returns c =
    subst (λ parts. FindsPart parts (c.args.tail, c.args.bytes.now) c.get.result) c.self.view_is
    (finds c.self.inside (c.args.tail, c.args.bytes) c.get.result c.self.invariant c.get.ensures)
