use Rattle.std.proofs.Common.{◌==◌, ◌∙◌, ap, sym, length, take, get_or, arith}
use Rattle.std.proofs.Math.Seq.{take-length}
use Rattle.std.proofs.lemmas.Bool.{ne_eqb, eq-eqb}
use Rattle.std.proofs.lemmas.List.Sums.{position_or_len_is}
use Rattle.bi_base.proofs.strings.before_nul.Goals as goal

pub returns-then-byte-eq0 : goal.returns-then-byte-eq0
returns-then-byte-eq0 c =
    let bytes = c.args.bytes.now in
    ap (λ n. take n bytes) (sym (position_or_len_is (λ byte. byte == 0) bytes c.loop-index.index 0 (omega arith)
    (λ k before. ne_eqb (get_or bytes k 0) 0 (c.loop-index.invariant k before)) (λ _. eq-eqb _ 0 c.if-byte-eq0.true)))

pub returns : goal.returns
returns c =
    let bytes = c.args.bytes.now in
    sym (ap (λ n. take n bytes) (position_or_len_is (λ byte. byte == 0) bytes (length bytes) 0 (omega arith)
    (λ k before. ne_eqb (get_or bytes k 0) 0 (c.loop-index.invariant k (omega arith))) (λ past. absurd (omega arith)))
    ∙ take-length bytes)
