use Rattle.std.proofs.Common.{IsAscii, subst, sym}
use Rattle.bi_common.specs.Lines.{text_of_lines}
use Rattle.bi_describe.proofs.compare.keep_lines.Goals as goal

pub new-requires : goal.new-requires
new-requires c =
    subst (λ lines. IsAscii (text_of_lines lines)) (sym c.requires.described.lines) c.description_is_ascii.ensures
