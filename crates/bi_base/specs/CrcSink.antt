use Rattle.std.specs.Prelude.{◌≡◌, ℕ, List, refl, fold}
use Rattle.std.proofs.Common.{sym, ap, ◌∙◌}
use Rattle.std.proofs.lemmas.Grind.{flat_map-append}
use Rattle.std.proofs.lemmas.List.Sums.{fold-append}
use Rattle.bi_base.specs.Crc.{crc_bit, crc_after, low_bits, message_bits}
use Rattle.bi_base.specs.Sinks.{AppendsNothing, AppendsInTurn}

-- A running CRC-32 as a sink, which keeps no bytes (RFC 1952, chapter 8).

-- Continuing over these bytes leads from one register to the other.
abbrev pub AddsToCrc : ℕ → List ℕ → ℕ → Type 0
AddsToCrc old bytes new = new ≡ crc_after old bytes

-- Continuing over no bytes changes nothing.
pub adds_nothing_to_crc : AppendsNothing AddsToCrc
unfolding crc_after
adds_nothing_to_crc a = refl

-- Continuing over two pieces in turn is continuing over both together.
pub adds_to_crc_in_turn : AppendsInTurn AddsToCrc
unfolding crc_after
adds_to_crc_in_turn a b c xs ys first second =
    second ∙ ap (λ register. crc_after register ys) first
    ∙ sym (ap (fold crc_bit a) (flat_map-append (low_bits 8) xs ys)
    ∙ fold-append crc_bit a (message_bits xs) (message_bits ys))
