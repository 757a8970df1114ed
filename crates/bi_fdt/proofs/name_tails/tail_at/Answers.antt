use Rattle.std.proofs.Common.{◌≡◌, ℕ, ◌+◌, ◌-◌, ◌*◌, ◌/◌, List, length, ap, subst, ◌∙◌, arith}
use Rattle.bi_blob.specs.Tokens.{name_from}
use Rattle.bi_fdt.specs.NameTails.{AreAllBlocks}
use Rattle.bi_fdt.proofs.NameEnds.{name_from-later}
use Rattle.bi_fdt.proofs.NameTails.{IsTail-short, IsTail-later}
use Rattle.bi_fdt.proofs.name_tails.tail_at.Goals as goal

pub returns-then-end-at : goal.returns-then-end-at
returns-then-end-at c = λ tails strings are is. IsTail-short tails (name_from strings c.args.at) (omega (arith, is))

pub returns : goal.returns
returns c = λ tails strings are is.
    let at : ℕ = c.args.at in
    let index : ℕ = c.index_of_later_blocks.result in
    let count : ℕ = length c.args.numbers.now in
    let skipped : ℕ = 64 * index - at in
    let name : List ℕ = name_from strings at in
    let place : 64 * (count - 1 - (count - 1 - index)) ≡ at + skipped = omega arith in
    let long : c.args.end - at ≡ length name = omega (arith, is) in
    let less : (length name - skipped) / 64 ≡ length name / 64 - 1 =
    subst (λ n. (n - skipped) / 64 ≡ n / 64 - 1) long c.index_of_later_blocks.ensures.blocks in
    IsTail-later tails skipped _ name (omega arith) less
    (subst (AreAllBlocks tails _) (ap (name_from strings) place ∙ name_from-later strings at skipped (omega arith))
    (are.each (count - 1 - index) 0 (omega arith)))
