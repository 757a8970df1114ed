use Rattle.std.proofs.Common.{rules}
use Rattle.std.proofs.lemmas.Option.{slice_get_read}
use Rattle.bi_fdt.proofs.PartNumbers.{part_of_slice, number_at}
use Rattle.bi_fdt.proofs.part_numbers.PartNumbers.get.Goals as goal

pub returns : goal.returns
returns c = search (rules, number_at, slice_get_read, part_of_slice)
