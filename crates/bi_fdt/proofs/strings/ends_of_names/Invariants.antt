use Rattle.std.proofs.Common.{◌≡◌, ℕ, ◌*◌, ◌<◌, slice_index_or}
use Rattle.std.specs.Prelude.{vec_len}
use Rattle.bi_fdt.specs.Strings.{end_of}
use Rattle.bi_fdt.proofs.strings.ends_of_names.Given as goal

abbrev pub invariant-loop-index : goal.invariant-loop-index
invariant-loop-index l =
    (vec_len l.ends ≡ l.index)
    × ((index : ℕ) (d : ℕ) → index < l.index → slice_index_or l.ends.items index d ≡ end_of l.bytes (64 * index))
    × (64 * l.index < l.end → l.end ≡ end_of l.bytes (64 * l.index))
