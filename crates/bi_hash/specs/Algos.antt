use Rattle.std.specs.Prelude.{ℕ, List, [], ◌∷◌, Option, codes}
use Rattle.std.specs.List.{find}
use Rattle.std.specs.Str.{bytes_eq}
use Rattle.bi_hash.specs.declared.algo.Algo.{Algo}
use Rattle.bi_hash.specs.declared.algo.Algo.TheVariants.{Crc32, Md5, Sha1, Sha256, Sha384, Sha512}

-- The name of an algorithm in the property `algo` of a hash node (Flattened Image Tree
-- Specification, hash nodes).
abbrev pub algorithm_name : Algo → List ℕ
algorithm_name Crc32 = codes "crc32"
algorithm_name Md5 = codes "md5"
algorithm_name Sha1 = codes "sha1"
algorithm_name Sha256 = codes "sha256"
algorithm_name Sha384 = codes "sha384"
algorithm_name Sha512 = codes "sha512"

-- Every algorithm that a hash node can name (profile of this project).
abbrev pub all_algorithms : List Algo
all_algorithms = Crc32 ∷ Md5 ∷ Sha1 ∷ Sha256 ∷ Sha384 ∷ Sha512 ∷ []

-- The index of an algorithm among them.
abbrev pub algorithm_index : Algo → ℕ
algorithm_index Crc32 = 0
algorithm_index Md5 = 1
algorithm_index Sha1 = 2
algorithm_index Sha256 = 3
algorithm_index Sha384 = 4
algorithm_index Sha512 = 5

-- The algorithm with exactly this name, if there is one.
unfoldable pub find_algorithm : List ℕ → Option Algo
find_algorithm name = find (λ algo. bytes_eq (algorithm_name algo) name) all_algorithms
