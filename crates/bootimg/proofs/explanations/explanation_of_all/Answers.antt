use Rattle.std.proofs.Common.{[], string_bytes}
use Rattle.bi_base.specs.declared.fault.Cause.TheVariants.{Truncated}
use Rattle.bootimg.specs.Explanations.{line_of_topic, listed_topics}
use Rattle.bootimg.specs.declared.explanations.Topic.TheVariants as topic
use Rattle.bootimg.proofs.CauseLines.{one_more_line}
use Rattle.bootimg.proofs.explanations.explanation_of_all.Goals as goal

pub loop-topic-preserved : goal.loop-topic-preserved
loop-topic-preserved c =
    one_more_line line_of_topic listed_topics (topic.Cause Truncated) c.loop-topic.topic-index [] (string_bytes c.loop-topic.text)
    (string_bytes c.put_line.new.text) c.loop-topic-test.true c.loop-topic.invariant c.in_ok-put_line.ensures
