use Rattle.std.proofs.Common.{◌≡◌, ◌<◌, ◌^◌, ◌+◌, ◌-◌, ℕ, List, rules, arith, get_or, bit_xor, sym, ap, ◌∙◌}
use Rattle.std.proofs.lemmas.Nat.{xor_lt}
use Rattle.std.specs.Int.{w128, from_le_bytes, to_le_bytes}
use Rattle.bi_base.specs.CrcTables.{table_entry}
use Rattle.bi_base.proofs.CrcTableLaws.{with_rest, with_rest-first, with_rest-next, with_rest-last, get_or-bytes, crc_after-sixteen}
use Rattle.bi_base.proofs.crc_tables.after_group.Goals as goal

pub loop-i-init : goal.loop-i-init
loop-i-init c =
    let register = c.args.register in
    let group = c.args.group in
    with_rest-first (bit_xor register (from_le_bytes w128 group)) ∙ sym (crc_after-sixteen register group (search rules) (search rules))

pub loop-i-preserved : goal.loop-i-preserved
loop-i-preserved c =
    let i = c.loop-i.i in
    let after = c.loop-i.after in
    let number = bit_xor c.args.register (from_le_bytes w128 c.args.group) in
    let bytes : c.to_le_bytes-bytes.result ≡ to_le_bytes w128 number =
    c.to_le_bytes-bytes.ensures ∙ (λ j. to_le_bytes w128 (bit_xor (c.from.ensures j) (c.from_le_bytes.ensures j))) in
    let byte = ap (λ (bytes : List ℕ). get_or bytes i 0) bytes ∙ get_or-bytes 0 16 number i i c.loop-i-test.true (omega arith) in
    ap (λ (entry : ℕ). with_rest number (i + 1) (bit_xor after entry)) (c.entry-after.ensures ∙ ap (table_entry (15 - i)) byte)
    ∙ with_rest-next number i after c.loop-i-test.true ∙ c.loop-i.invariant

pub returns : goal.returns
returns c =
    let after = c.loop-i.after in
    let number = bit_xor c.args.register (from_le_bytes w128 c.args.group) in
    let last : 16 ≡ c.loop-i.i = omega arith in
    let fits : number < 2 ^ 128 = xor_lt 128 c.args.register (from_le_bytes w128 c.args.group) (omega arith) (omega arith) in
    sym (with_rest-last number after fits) ∙ ap (λ (i : ℕ). with_rest number i after) last ∙ c.loop-i.invariant
