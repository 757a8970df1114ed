use Rattle.std.proofs.Common.{◌==◌, sym, length, get_or, arith}
use Rattle.std.proofs.lemmas.Bool.{ne_eqb, eq-eqb}
use Rattle.std.proofs.lemmas.List.Sums.{position_or_len_is}
use Rattle.bi_coverage.proofs.path_parts.slash_at.Goals as goal

pub returns-then-byte-eq47 : goal.returns-then-byte-eq47
returns-then-byte-eq47 c =
    let names = c.args.names.now in
    sym (position_or_len_is (λ byte. byte == 47) names c.loop-index.index 0 (omega arith)
    (λ k before. ne_eqb (get_or names k 0) 47 (c.loop-index.invariant k before)) (λ _. eq-eqb _ 47 c.if-byte-eq47.true))

pub returns : goal.returns
returns c =
    let names = c.args.names.now in
    sym (position_or_len_is (λ byte. byte == 47) names (length names) 0 (omega arith)
    (λ k before. ne_eqb (get_or names k 0) 47 (c.loop-index.invariant k (omega arith))) (λ past. absurd (omega arith)))
