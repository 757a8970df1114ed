use Rattle.std.proofs.Common.{ℕ, ◌+◌, List, [], ◌∷◌, ◌++◌, Option, Some, rules}
use Rattle.std.proofs.lemmas.List.{length-append}
use Rattle.bi_fdt.specs.OtherNames.{AreOwnNumbers}
use Rattle.bi_fdt.proofs.NameParts.{slice_get-pushed}
use Rattle.bi_fdt.proofs.other_names.own_numbers.Goals as goal

-- One more number.
more : (count : ℕ) (numbers : List (Option ℕ)) → AreOwnNumbers count numbers → AreOwnNumbers (count + 1) (numbers ++ Some count ∷ [])
more count numbers own = search (rules, length-append, slice_get-pushed)

pub loop-number-preserved : goal.loop-number-preserved
loop-number-preserved c = search (rules, more)
