use Rattle.std.proofs.Common.{◌≡◌, drop, map}
use Rattle.bi_legacy.specs.Codes.{name_of_code}
use Rattle.bi_show.specs.CodeNames.{code_of_entry}
use Rattle.bi_show.proofs.show.codes.name_in.Given as goal

-- No entry before this one has the code.
abbrev pub invariant-loop-other : goal.invariant-loop-other
invariant-loop-other l =
    name_of_code (map code_of_entry (drop l.other-index l.table)) l.code ≡ name_of_code (map code_of_entry l.table) l.code
