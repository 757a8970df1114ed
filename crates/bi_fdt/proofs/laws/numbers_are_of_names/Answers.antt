use Rattle.std.proofs.Common.{[]}
use Rattle.bi_fdt.specs.Numbers.{names_of_table}
use Rattle.bi_fdt.proofs.UsedNames.{names_after-distinct, numbered_property, one_number_each}
use Rattle.bi_fdt.proofs.laws.numbers_are_of_names.Goals as goal

pub returns : goal.returns
returns c table numbers at other_at number other_number property other are is has is_other has_other =
    one_number_each (names_of_table table) (names_after-distinct [] table tt) property.name other.name number other_number
    (numbered_property (names_of_table table) table numbers at number property are is has)
    (numbered_property (names_of_table table) table numbers other_at other_number other are is_other has_other)
