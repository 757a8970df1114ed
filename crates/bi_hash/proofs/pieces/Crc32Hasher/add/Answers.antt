use Rattle.std.proofs.Common.{rules}
use Rattle.bi_base.proofs.CrcLaws.{crc_after-append}
use Rattle.bi_hash.proofs.pieces.Crc32Hasher.add.Goals as goal

pub returns : goal.returns
returns c message so_far = search (rules, crc_after-append)
