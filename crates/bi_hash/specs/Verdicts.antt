use Rattle.std.specs.Prelude.{◌≡◌, ◌↔◌, ℕ, List, ◌∷◌, ◌++◌, if◌then◌else◌}
use Rattle.std.specs.Prelude.{Option, Some, None, option_and_then}
use Rattle.std.specs.Str.{bytes_eq}
use Rattle.bi_base.specs.Strings.{text_before_nul}
use Rattle.bi_hash.specs.Algos.{algorithm_name, find_algorithm}
use Rattle.bi_hash.specs.Digests.{digest_of}
use Rattle.bi_hash.specs.declared.algo.Algo.{Algo}
use Rattle.bi_hash.specs.declared.verdicts.Verdict.{Verdict}
use Rattle.bi_hash.specs.declared.verdicts.Verdict.TheVariants.{Malformed, UnknownAlgo}
use Rattle.bi_hash.specs.declared.verdicts.Verdict.TheVariants.{NoPayload, Good, Bad}

-- The verdict on a value, by the algorithm, if it is known, and the payload, if there is one.
abbrev pub verdict_by_algorithm : Option Algo → List ℕ → Option (List ℕ) → Verdict
verdict_by_algorithm None value payload = UnknownAlgo
verdict_by_algorithm (Some algo) value None = NoPayload
verdict_by_algorithm (Some algo) value (Some payload) =
    if bytes_eq value (digest_of algo payload) then Good else Bad

-- The verdict by the algorithm's name and the value, if there are both.
abbrev pub verdict_by_name : Option (List ℕ) → Option (List ℕ) → Option (List ℕ) → Verdict
verdict_by_name None value payload = Malformed
verdict_by_name (Some name) None payload = Malformed
verdict_by_name (Some name) (Some value) payload =
    verdict_by_algorithm (find_algorithm name) value payload

-- The verdict on a hash node, by its properties `algo` and `value` and the payload of its image.
-- Each of the three may be missing (Flattened Image Tree Specification, hash nodes; the verdicts
-- and their order are the profile of this project).
unfoldable pub verdict_of : Option (List ℕ) → Option (List ℕ) → Option (List ℕ) → Verdict
verdict_of algo value payload =
    verdict_by_name (option_and_then text_before_nul algo) value payload

-- A hash node with the digest of its payload: `algo` is the name of an algorithm, a NUL and
-- anything after it, and `value` is the payload's digest with this algorithm.
pub record HasItsDigest (algo value payload : Option (List ℕ)) : Type 0 where
  pub algorithm : Algo
  pub rest : List ℕ
  pub bytes : List ℕ
  pub algo_is : algo ≡ Some (algorithm_name algorithm ++ 0 ∷ rest)
  pub value_is : value ≡ Some (digest_of algorithm bytes)
  pub payload_is : payload ≡ Some bytes

-- The law that the verdict on a hash node is Good if and only if the node has the digest of its
-- payload.
abbrev pub GoodMeansDigest : Type 0
GoodMeansDigest =
    (algo value payload : Option (List ℕ))
    → (verdict_of algo value payload ≡ Good) ↔ HasItsDigest algo value payload
