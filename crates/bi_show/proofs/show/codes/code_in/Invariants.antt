use Rattle.std.proofs.Common.{◌≡◌, drop, map}
use Rattle.bi_show.specs.AllCodes.{code_of_name}
use Rattle.bi_show.specs.CodeNames.{code_of_entry}
use Rattle.bi_show.proofs.show.codes.code_in.Given as goal

-- No entry before this one has the name.
abbrev pub invariant-loop-code : goal.invariant-loop-code
invariant-loop-code l =
    code_of_name (map code_of_entry (drop l.code-index l.table)) l.name ≡ code_of_name (map code_of_entry l.table) l.name
