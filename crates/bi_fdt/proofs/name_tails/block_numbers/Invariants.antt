use Rattle.std.proofs.Common.{◌≡◌, ℕ, ◌*◌, ◌-◌, ◌<◌, ◌≤◌, length, slice_index_or}
use Rattle.std.specs.Prelude.{vec_len}
use Rattle.bi_blob.specs.Tokens.{name_from}
use Rattle.bi_fdt.specs.NameParts.{AreMoreParts}
use Rattle.bi_fdt.specs.NameTails.{AreAllBlocks}
use Rattle.bi_fdt.proofs.name_tails.block_numbers.Given as goal

abbrev pub invariant-loop-turn : goal.invariant-loop-turn
invariant-loop-turn l = record {
  count : vec_len l.numbers ≡ l.turn;
  each : (index : ℕ) (d : ℕ) → index < l.turn
      → AreAllBlocks l.tails (slice_index_or l.numbers.items index d) (name_from l.strings (64 * (length l.ends - 1 - index)));
  later : 1 ≤ l.turn → AreAllBlocks l.tails l.later (name_from l.strings (64 * (length l.ends - l.turn)));
  more : AreMoreParts l.initial.tails l.tails;
}
