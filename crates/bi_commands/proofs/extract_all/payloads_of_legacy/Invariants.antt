use Rattle.std.proofs.Common.{◌≡◌, ◌++◌, length, map}
use Rattle.bi_legacy.specs.PlacedParts.{PartModel}
use Rattle.bi_commands.specs.ExtractingAll.{part_files}
use Rattle.bi_commands.specs.Payloads.{payload_file}
use Rattle.bi_commands.proofs.extract_all.payloads_of_legacy.Given as goal

-- The files so far and those of the parts that are left are all.
abbrev pub invariant-loop-part : goal.invariant-loop-part
invariant-loop-part l =
    map payload_file l.payloads.items ++ part_files (length l.payloads.items) (map (λ (part : PartModel). part.bytes) l.part-iterator)
    ≡ part_files 0 l.image.image.parts
