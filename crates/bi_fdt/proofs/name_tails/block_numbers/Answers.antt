use Rattle.std.proofs.Common.{◌≡◌, ◌+◌, ◌*◌, ◌-◌, length, subst, arith, rules}
use Rattle.bi_blob.specs.Tokens.{name_from}
use Rattle.bi_fdt.specs.NameTails.{AreAllBlocks}
use Rattle.bi_fdt.proofs.NameParts.{AreMoreParts-again}
use Rattle.bi_fdt.proofs.NameTails.{blocks_more}
use Rattle.bi_fdt.proofs.name_tails.block_numbers.Goals as goal

pub loop-turn-preserved : goal.loop-turn-preserved
loop-turn-preserved c =
    let counted : length c.loop-turn.numbers.items ≡ c.loop-turn.turn = search rules in
    let place : 64 * (length c.args.ends.now - 1 - c.loop-turn.turn)
    ≡ 64 * (length c.args.ends.now - (c.loop-turn.turn + 1)) = omega arith in
    record {
      count = omega (arith, c.in_ok-push.ensures.len, c.loop-turn.invariant.count);
      each = blocks_more c.loop-turn.tails c.blocks_before.new.tails c.args.strings.now c.loop-turn.numbers.items c.push.new.self.items
          (length c.args.ends.now) c.loop-turn.turn c.in_ok-later.later
          c.blocks_before.ensures.more.begin counted c.loop-turn.invariant.each c.in_ok-later.ensures.blocks c.in_ok-push.ensures.items;
      later = λ some. subst (λ at. AreAllBlocks c.blocks_before.new.tails c.in_ok-later.later (name_from c.args.strings.now at))
          place c.in_ok-later.ensures.blocks;
      more = AreMoreParts-again c.args.tails.now c.loop-turn.tails c.blocks_before.new.tails
          c.loop-turn.invariant.more c.blocks_before.ensures.more;
    }

pub returns-in_err-later-clause-more : goal.returns-in_err-later-clause-more
returns-in_err-later-clause-more c = search (rules, AreMoreParts-again)

pub returns-in_err-push-clause-more : goal.returns-in_err-push-clause-more
returns-in_err-push-clause-more c = search (rules, AreMoreParts-again)
