use Rattle.std.proofs.lemmas.Result.{IfOk-weaker}
use Rattle.bi_describe.specs.OpenedPayloads.{tree_at_without}
use Rattle.bi_describe.specs.ReducedMeanings.{meaning_without}
use Rattle.bi_describe.proofs.compare.deep.KeptDeep.lines.Goals as goal

pub returns-clause-kept : goal.returns-clause-kept
returns-clause-kept c = IfOk-weaker c.of_kept_deep.result _ _ (λ lines is words meaning kept.
    is (meaning_without words meaning.meaning) (tree_at_without words meaning.insides) kept.is_kept kept.are_held) c.of_kept_deep.ensures
