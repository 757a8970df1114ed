use Rattle.std.proofs.Common.{arith}
use Rattle.std.proofs.lemmas.List.{length-map}
use Rattle.bi_describe.specs.MadeWords.{ignored_word, ignored_words}
use Rattle.bi_describe.proofs.WordsLeftOut.{all_left_out, held_for, none_yet}
use Rattle.bi_describe.proofs.describe.insides.Insides.leave_out.Goals as goal

pub loop-index-init : goal.loop-index-init
loop-index-init c = λ insides held. held_for _ _ c.args.self.now (none_yet (ignored_words c.args.words.now) insides) held

pub loop-index-preserved : goal.loop-index-preserved
loop-index-preserved c = λ insides held. c.in_ok-leave_out_word.ensures insides (c.loop-index.invariant insides held)

pub returns : goal.returns
returns c = λ insides held.
    let words = ignored_words c.args.words.now in
    held_for _ _ c.loop-index.self
    (all_left_out words c.loop-index.index insides (omega (arith, c.loop-index-test.false, length-map c.args.words.now ignored_word)))
    (c.loop-index.invariant insides held)
