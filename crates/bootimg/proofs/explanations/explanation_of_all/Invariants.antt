use Rattle.std.proofs.Common.{◌≡◌, string_bytes, take}
use Rattle.std.specs.List.{flat_map}
use Rattle.bootimg.specs.Explanations.{line_of_topic, listed_topics}
use Rattle.bootimg.proofs.explanations.explanation_of_all.Given as goal

abbrev pub invariant-loop-topic : goal.invariant-loop-topic
invariant-loop-topic l = string_bytes l.text ≡ flat_map line_of_topic (take l.topic-index listed_topics)
