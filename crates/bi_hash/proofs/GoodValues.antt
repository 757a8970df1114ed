use Rattle.std.proofs.Common.{◌≡◌, ℕ, Bool, true, false, cond, List, ◌∷◌, ◌++◌, Option, Some, None, refl, rules}
use Rattle.std.proofs.lemmas.Slice.Eq.{bytes_eq-Decides}
use Rattle.bi_base.specs.Strings.{text_before_nul}
use Rattle.bi_base.proofs.NulTexts.{text_then_zero}
use Rattle.bi_hash.specs.declared.algo.Algo.{Algo}
use Rattle.bi_hash.specs.declared.algo.Algo.TheVariants.{Crc32, Md5, Sha1, Sha256, Sha384, Sha512}
use Rattle.bi_hash.specs.declared.verdicts.Verdict.TheVariants.{Good, Bad}
use Rattle.bi_hash.specs.Algos.{algorithm_name, find_algorithm}
use Rattle.bi_hash.specs.Digests.{digest_of}
use Rattle.bi_hash.specs.Verdicts.{HasItsDigest, verdict_of, verdict_by_name, verdict_by_algorithm}
use Rattle.bi_hash.proofs.AlgorithmNames.{find_algorithm-algorithm_name, algorithm_name-find_algorithm}

-- Proves that the verdict is Good if and only if the value is the digest of the payload by the algorithm that is named.

-- The text of an algorithm's name, a NUL and any bytes is the name.
text_before_nul-name : (algo : Algo) (rest : List ℕ) → text_before_nul (algorithm_name algo ++ 0 ∷ rest) ≡ Some (algorithm_name algo)
unfolding text_before_nul
text_before_nul-name Crc32 rest = refl
text_before_nul-name Md5 rest = refl
text_before_nul-name Sha1 rest = refl
text_before_nul-name Sha256 rest = refl
text_before_nul-name Sha384 rest = refl
text_before_nul-name Sha512 rest = refl

-- The verdict on a value that is the digest of its payload is Good.
pub good-from_digest : (algo value payload : Option (List ℕ)) → HasItsDigest algo value payload
    → verdict_of algo value payload ≡ Good
unfolding verdict_of
good-from_digest algo value payload has = search (rules, bytes_eq-Decides, text_before_nul-name, find_algorithm-algorithm_name)

-- Where a choice between Good and Bad is Good, its test holds.
test_of_good : (b : Bool) → cond b Good Bad ≡ Good → b ≡ true
test_of_good true e = refl
test_of_good false e = cc

-- A value with the verdict Good is the digest of a payload by a known algorithm.
digest_under : (found : Option Algo) (value : List ℕ) (payload : Option (List ℕ)) → verdict_by_algorithm found value payload ≡ Good
    → (algorithm : Algo) × (bytes : List ℕ) × (found ≡ Some algorithm) × (payload ≡ Some bytes) × (value ≡ digest_of algorithm bytes)
digest_under None value payload e = cc
digest_under (Some algorithm) value None e = cc
digest_under (Some algorithm) value (Some bytes) e = search (rules, bytes_eq-Decides, test_of_good)

-- Where the verdict is Good, there are a name and a value.
value_named : (found value payload : Option (List ℕ)) → verdict_by_name found value payload ≡ Good
    → (name : List ℕ) × (given : List ℕ) × (found ≡ Some name) × (value ≡ Some given)
    × (verdict_by_algorithm (find_algorithm name) given payload ≡ Good)
value_named None value payload e = cc
value_named (Some name) None payload e = cc
value_named (Some name) (Some given) payload e = (name, given, refl, refl, e)

-- The verdict is Good only on a value that is the digest of its payload.
pub digest-from_good : (algo value payload : Option (List ℕ)) → verdict_of algo value payload ≡ Good
    → HasItsDigest algo value payload
unfolding verdict_of
digest-from_good None value payload e = cc
digest-from_good (Some algo) value payload e = search (rules, value_named, digest_under, text_then_zero, algorithm_name-find_algorithm)
