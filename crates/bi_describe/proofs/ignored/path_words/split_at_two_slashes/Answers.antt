use Rattle.std.proofs.Common.{arith, sym, ◌∙◌}
use Rattle.bi_describe.proofs.WordTexts.{no_two_at_first, no_two_more, split_here}
use Rattle.bi_describe.proofs.ignored.path_words.split_at_two_slashes.Goals as goal

pub loop-end-init : goal.loop-end-init
loop-end-init c = (omega arith, no_two_at_first c.args.text.now)

pub loop-end-preserved : goal.loop-end-preserved
loop-end-preserved c = (
  omega arith,
  no_two_more c.args.text.now c.loop-end.end (omega arith) (sym c.are_slashes.ensures ∙ c.if-are_slashes.false)
      c.loop-end.invariant.1,
)

pub returns-then-are_slashes-clause-some : goal.returns-then-are_slashes-clause-some
returns-then-are_slashes-clause-some c =
    split_here c.args.text.now c.loop-end.end (omega arith) (sym c.are_slashes.ensures ∙ c.if-are_slashes.true) c.loop-end.invariant.1
