use Rattle.bootimg.proofs.AlgorithmFacts.{no_hashes}
use Rattle.bootimg.proofs.command_line.hashes.parse_hashes.Goals as goal

pub returns-clause-failure : goal.returns-clause-failure
returns-clause-failure c =
    no_hashes c.args.text.now c.eq.result c.parse_algorithms.result c.eq.ensures c.if-eq.false c.parse_algorithms.ensures.failure
