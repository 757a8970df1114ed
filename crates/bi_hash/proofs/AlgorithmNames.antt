use Rattle.std.proofs.Common.{◌≡◌, ℕ, Bool, true, false, cond, List, [], ◌∷◌, Option, Some, refl, sym, rules}
use Rattle.std.specs.List.{find}
use Rattle.std.proofs.lemmas.Slice.Eq.{bytes_eq-Decides}
use Rattle.bi_hash.specs.declared.algo.Algo.{Algo}
use Rattle.bi_hash.specs.declared.algo.Algo.TheVariants.{Crc32, Md5, Sha1, Sha256, Sha384, Sha512}
use Rattle.bi_hash.specs.Algos.{algorithm_name, find_algorithm}

-- Proves that an algorithm is found by its name, and by no other.

-- The choice of the first element, where it passes, or else one of the rest that passes, passes.
chosen_passes : (b : Bool) (p : Algo → Bool) (first : Algo) (rest : Option Algo) (x : Algo) → b ≡ p first
    → (rest ≡ Some x → p x ≡ true) → cond b (Some first) rest ≡ Some x → p x ≡ true
chosen_passes true p first rest x is later e = let same : first ≡ x = cc in cc
chosen_passes false p first rest x is later e = later e

-- The element that `find` returns passes its test.
find_passes : (p : Algo → Bool) (xs : List Algo) (x : Algo) → find p xs ≡ Some x → p x ≡ true
find_passes p [] x e = cc
find_passes p (y ∷ ys) x e = chosen_passes (p y) p y (find p ys) x refl (find_passes p ys x) e

-- The algorithm that is found by a name has that name.
pub algorithm_name-find_algorithm : (name : List ℕ) (algo : Algo) → find_algorithm name ≡ Some algo → name ≡ algorithm_name algo
unfolding find_algorithm
algorithm_name-find_algorithm name algo e = sym ((bytes_eq-Decides (algorithm_name algo) name).0 (search (rules, find_passes)))

-- The name of an algorithm finds it.
pub find_algorithm-algorithm_name : (algo : Algo) → find_algorithm (algorithm_name algo) ≡ Some algo
unfolding find_algorithm
find_algorithm-algorithm_name Crc32 = refl
find_algorithm-algorithm_name Md5 = refl
find_algorithm-algorithm_name Sha1 = refl
find_algorithm-algorithm_name Sha256 = refl
find_algorithm-algorithm_name Sha384 = refl
find_algorithm-algorithm_name Sha512 = refl
