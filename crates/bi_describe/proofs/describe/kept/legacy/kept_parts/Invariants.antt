use Rattle.std.proofs.Common.{◌≡◌, ◌++◌, drop, flat_map, map}
use Rattle.bi_describe.specs.KeptImages.{numbered_part}
use Rattle.bi_describe.specs.MadeParts.{bytes_of_parts}
use Rattle.bi_describe.specs.MadeWords.{ignored_words}
use Rattle.bi_describe.specs.ReducedMeanings.{kept_part, numbered_parts}
use Rattle.bi_describe.proofs.describe.kept.legacy.kept_parts.Given as goal

-- The parts so far and those that stay of the parts that are left are all.
abbrev pub invariant-loop-index : goal.invariant-loop-index
invariant-loop-index l =
    map numbered_part l.kept.items
    ++ flat_map (kept_part (ignored_words l.words)) (numbered_parts l.index (bytes_of_parts (drop l.index l.parts)))
    ≡ flat_map (kept_part (ignored_words l.words)) (numbered_parts 0 (bytes_of_parts l.parts))
