use Rattle.std.proofs.Common.{Some, ◌∙◌, ap}
use Rattle.bootimg.specs.RefusedWords.{given_word, near_name}
use Rattle.bootimg.proofs.RefusedFacts.{given_near}
use Rattle.bootimg.proofs.command_line.refused.with_near.Goals as goal

pub returns : goal.returns
returns c =
    let given = c.in-Some.given in
    rw c.in-Some.is
    (ap (λ near. Some (given_near (given_word given) near))
    (c.in_ok-near.ensures ∙ ap (λ names. near_name names given.word.now) c.names.ensures))
