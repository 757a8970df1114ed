use Rattle.std.proofs.Common.{rules}
use Rattle.bi_hash.specs.Algos.{find_algorithm}
use Rattle.bi_hash.proofs.AlgorithmNames.{algorithm_name-find_algorithm, find_algorithm-algorithm_name}
use Rattle.bi_hash.proofs.algo.Algo.from_name.Goals as goal

pub returns-clause-named : goal.returns-clause-named
unfolding find_algorithm
returns-clause-named c algo = search (rules, algorithm_name-find_algorithm, find_algorithm-algorithm_name)
