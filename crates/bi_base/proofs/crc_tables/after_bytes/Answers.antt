use Rattle.std.proofs.Common.{ℕ, List, ◌*◌, ◌/◌, length, drop, fold, ap, ◌∙◌}
use Rattle.bi_base.specs.Crc.{crc_after}
use Rattle.bi_base.proofs.CrcTableLaws.{crc_after-groups}
use Rattle.bi_base.proofs.crc_tables.after_bytes.Goals as goal

pub returns : goal.returns
returns c =
    let register = c.args.register in
    let bytes = c.args.bytes.now in
    let count = length bytes / 16 in
    c.after_rest.ensures
    ∙ (λ i. crc_after (c.after_groups.ensures i) (c.as_chunks.ensures.back i))
    ∙ ap (λ (groups : List (List ℕ)). crc_after (fold crc_after register groups) (drop (count * 16) bytes)) c.as_chunks.ensures.front
    ∙ crc_after-groups count register bytes
