use Rattle.std.proofs.Common.{◌∙◌, ◌≡◌, ◌+◌, ◌-◌, ◌≤◌, ◌/◌, ℕ, List, length, take, drop, refl, sym, ap, subst, arith, rules}
use Rattle.bi_blob.specs.Tokens.{name_from}
use Rattle.bi_fdt.specs.NameParts.{AreMoreParts}
use Rattle.bi_fdt.specs.NameTails.{AreAllBlocks}
use Rattle.bi_fdt.proofs.NameEnds.{name_before_end, name_from-later, name_within}
use Rattle.bi_fdt.proofs.NameParts.{AreMoreParts-same, placed_more, placed_at}
use Rattle.bi_fdt.proofs.NameTails.{AreAllBlocks-none, AreAllBlocks-more, blocks_number_within}
use Rattle.bi_fdt.proofs.name_tails.blocks_before.Goals as goal

pub returns-then-name-lt-STRIDE-clause-blocks : goal.returns-then-name-lt-STRIDE-clause-blocks
returns-then-name-lt-STRIDE-clause-blocks c = search (rules, name_before_end, AreAllBlocks-none)

pub returns-then-name-lt-STRIDE-clause-more : goal.returns-then-name-lt-STRIDE-clause-more
returns-then-name-lt-STRIDE-clause-more c = AreMoreParts-same _ _ refl

-- The part is one more, after a part that was there.
more_parts : (c : goal.In_ok-index) → AreMoreParts c.args.tails.now c.add.new.self
more_parts c =
    let within : length (name_from c.args.strings.now c.args.at) ≤ length c.args.strings.now - c.args.at = name_within
    c.args.strings.now c.args.at in
    let long : length (take (c.args.end - c.args.at) (drop c.args.at c.args.strings.now))
    ≡ length (name_from c.args.strings.now c.args.at) =
    ap length (name_before_end c.args.strings.now c.args.at c.args.end c.requires.end) in
    placed_more c.args.tails.now _ c.in_ok-index.index c.add.new.self
    (blocks_number_within c.args.tails.now (length (name_from c.args.strings.now (c.args.at + 64)) / 64) c.args.later
    (name_from c.args.strings.now (c.args.at + 64)) (c.requires.later (omega arith)))
    c.in_ok-index.ensures.added

pub returns-clause-blocks : goal.returns-clause-blocks
returns-clause-blocks c =
    let strings = c.args.strings.now in
    let at : ℕ = c.args.at in
    let name : List ℕ = take (c.args.end - at) (drop at strings) in
    let is : name ≡ name_from strings at = name_before_end strings at c.args.end c.requires.end in
    let long : length name ≡ length (name_from strings at) = ap length is in
    let within : length (name_from strings at) ≤ length strings - at = name_within strings at in
    let most : 64 ≤ length name = c.if-name-lt-STRIDE.false in
    let later : AreAllBlocks c.args.tails.now c.args.later (drop 64 name) =
    subst (AreAllBlocks c.args.tails.now c.args.later) (name_from-later strings at 64 (omega arith) ∙ ap (drop 64) (sym is))
    (c.requires.later (omega arith)) in
    subst (AreAllBlocks c.add.new.self (c.in_ok-index.index + 1)) is
    (AreAllBlocks-more c.args.tails.now c.add.new.self _ _ c.args.later c.in_ok-index.index name most refl (omega arith)
    (more_parts c).begin
    (placed_at c.args.tails.now _ c.in_ok-index.index c.add.new.self c.in_ok-index.ensures.added) later)

pub returns-clause-more : goal.returns-clause-more
returns-clause-more c = more_parts c
