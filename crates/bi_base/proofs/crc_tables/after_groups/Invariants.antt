use Rattle.std.proofs.Common.{◌≡◌, take, fold}
use Rattle.bi_base.specs.Crc.{crc_after}
use Rattle.bi_base.proofs.crc_tables.after_groups.Given as goal

-- The register is that after the groups before this one.
abbrev pub invariant-loop-group : goal.invariant-loop-group
invariant-loop-group l = l.after ≡ fold crc_after l.fn.register (take l.group-index l.groups)
