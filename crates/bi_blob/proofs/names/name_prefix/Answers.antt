use Rattle.std.proofs.Common.{ℕ, List, ◌++◌, drop, replicate, ap, ◌∙◌, arith}
use Rattle.std.specs.Int.{from_be_bytes, w64}
use Rattle.bi_blob.specs.NamesByPrefix.{prefix_of_name}
use Rattle.bi_blob.proofs.NamePrefixes.{over_zeros}
use Rattle.bi_blob.proofs.names.name_prefix.Goals as goal

pub returns : goal.returns
unfolding prefix_of_name
returns c =
    let name : List ℕ = c.args.name.now in
    let count : ℕ = c.min-length.result in
    c.from_be_bytes.ensures
    ∙ ap (λ (front : List ℕ). from_be_bytes w64 (front ++ drop count (replicate 8 0))) c.copy_from_slice.ensures.after
    ∙ ap (from_be_bytes w64)
    (over_zeros count 8 8 name (omega (arith, c.min-length.ensures)) (omega (arith, c.min-length.ensures))
    (λ less. omega (arith, less, c.min-length.ensures)) (omega (arith)))
