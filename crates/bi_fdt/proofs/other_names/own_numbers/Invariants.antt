use Rattle.bi_fdt.specs.OtherNames.{AreOwnNumbers}
use Rattle.bi_fdt.proofs.other_names.own_numbers.Given as goal

abbrev pub invariant-loop-number : goal.invariant-loop-number
invariant-loop-number l = AreOwnNumbers l.number l.numbers.items
