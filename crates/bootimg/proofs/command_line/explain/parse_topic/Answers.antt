use Rattle.std.proofs.Common.{subst}
use Rattle.bootimg.specs.Explanations.{IsLastSaid}
use Rattle.bootimg.proofs.SaidTopics.{about_found, about_nothing}
use Rattle.bootimg.proofs.command_line.explain.parse_topic.Goals as goal

pub returns-clause-some : goal.returns-clause-some
returns-clause-some c =
    about_found c.args.argument.now c.last_said.result.now c.find_topic.result
    (subst (λ text. IsLastSaid text c.last_said.result.now) c.as_bytes.ensures.value c.last_said.ensures) c.find_topic.ensures

pub returns-clause-none : goal.returns-clause-none
returns-clause-none c =
    about_nothing c.args.argument.now c.last_said.result.now c.find_topic.result
    (subst (λ text. IsLastSaid text c.last_said.result.now) c.as_bytes.ensures.value c.last_said.ensures) c.find_topic.ensures
