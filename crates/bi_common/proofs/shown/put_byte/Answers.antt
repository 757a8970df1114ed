use Rattle.std.proofs.Common.{sym, arith, string_bytes}
use Rattle.bi_common.proofs.ShownBytes.{appended_escape}
use Rattle.bi_common.proofs.shown.put_byte.Goals as goal

pub returns-else-is_plain : goal.returns-else-is_plain
returns-else-is_plain c =
    appended_escape c.write.result c.in_radix.result c.laid_out.result (string_bytes c.args.text.now) (string_bytes c.write.new.self)
    c.args.byte (omega arith) (sym c.if-is_plain.ensures) c.in_radix.ensures c.laid_out.ensures c.write.ensures.bytes
