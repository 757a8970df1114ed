use Rattle.std.proofs.Common.{sym, subst, ◌∙◌, arith}
use Rattle.bi_common.proofs.HexDigits.{hex_of_bytes}
use Rattle.bi_common.proofs.LinePieces.{known_ok}
use Rattle.bi_common.proofs.fields.put_digits_of_piece.Goals as goal

pub returns : goal.returns
returns g c =
    subst (λ bytes. g.P.Pen.puts c.args.pen.now bytes c.put.new.self)
    (known_ok c.encode_to_slice.result (sym c.is_err.ensures.value ∙ c.if-is_err.false) c.encode_to_slice.ensures.written
    ∙ hex_of_bytes c.args.piece.now (λ k. omega (arith, c.type_inv.piece k)))
    c.put.ensures
