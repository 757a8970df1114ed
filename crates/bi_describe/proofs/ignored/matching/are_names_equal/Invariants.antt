use Rattle.std.proofs.Common.{◌≡◌, drop}
use Rattle.bi_common.specs.MadeFields.{bytes_of_names}
use Rattle.bi_values.specs.ValueNames.{names_of_path}
use Rattle.bi_describe.specs.Ignoring as words
use Rattle.bi_describe.proofs.ignored.matching.are_names_equal.Given as goal

-- The names that are left decide.
abbrev pub invariant-loop-name : goal.invariant-loop-name
invariant-loop-name l =
    words.are_names_equal (names_of_path (drop l.name-index l.one)) (bytes_of_names l.left)
    ≡ words.are_names_equal (names_of_path l.one) (bytes_of_names l.other)
