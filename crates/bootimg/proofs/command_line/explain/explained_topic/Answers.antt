use Rattle.std.proofs.Common.{◌∙◌, ap, codes, None, option_map, refl, subst, sym}
use Rattle.bootimg.specs.CommandLine.{IsExplained, option_of}
use Rattle.bootimg.proofs.CommandLines.{text_given}
use Rattle.bootimg.proofs.SaidTopics.{topic_is_explained, topic_is_not_explained}
use Rattle.bootimg.proofs.command_line.explain.explained_topic.Goals as goal

pub returns-in-None-clause-topic : goal.returns-in-None-clause-topic
returns-in-None-clause-topic c =
    subst (λ option. IsExplained option None) (sym (ap (option_map (λ s. s.now)) c.in-None.is) ∙ c.get_str.ensures) tt

pub returns-in-Some-parse_topic-clause-topic : goal.returns-in-Some-parse_topic-clause-topic
returns-in-Some-parse_topic-clause-topic c =
    topic_is_explained (option_of c.args.options.now (codes "cause")) c.in-Some.argument.now c.in-Some-parse_topic.topic
    (text_given c.args.options.now (codes "cause") c.get_str.result c.in-Some.argument c.get_str.ensures c.in-Some.is)
    c.in-Some-parse_topic.ensures.some

pub returns-in-None-parse_topic-clause-bad : goal.returns-in-None-parse_topic-clause-bad
returns-in-None-parse_topic-clause-bad c = (
  refl,
  topic_is_not_explained (option_of c.args.options.now (codes "cause")) c.in-Some.argument.now
      (text_given c.args.options.now (codes "cause") c.get_str.result c.in-Some.argument c.get_str.ensures c.in-Some.is)
      c.in-None-parse_topic.ensures.none,
)
