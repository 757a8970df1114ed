use Rattle.std.proofs.Common.{◌≡◌, ◌∙◌, ℕ, Bool, true, false, List, [], ◌∷◌, ◌++◌, map, bytes_eq, ap, sym, subst}
use Rattle.std.proofs.Common.{codes, inl, inr, refl, true≢false, Result, Ok, Err, IfErr}
use Rattle.std.specs.List.{list_any}
use Rattle.std.specs.Prelude.{◌↔◌, IsTrue}
use Rattle.std.proofs.lemmas.List.{map-append}
use Rattle.bi_blob.specs.Tree.{AreDistinct, IsNew}
use Rattle.bi_blob.proofs.Blobs.OpenNodes.{AreDistinct-push}
use Rattle.bi_blob.proofs.NameSets.{new_by_test, held_by_test}
use Rattle.bi_hash.specs.Algos.{algorithm_name}
use Rattle.bi_hash.specs.declared.algo.Algo.{Algo}
use Rattle.bootimg.specs.CommandLine.{IsBadValue, IsFailureOutcome, NoneIs}
use Rattle.bootimg.specs.ConfigurationWords.{AreAlgorithms, AreHashesOf}
use Rattle.bootimg.specs.Words.{listed_words}
use Rattle.bootimg.specs.declared.command_line.NoRequest.{NoRequest}
use Rattle.bootimg.specs.declared.command_line.NoRequest.TheVariants as outcome
use Rattle.bootimg.specs.declared.failure.Failure.TheVariants.{BadValue}
use Rattle.bootimg.proofs.ListedTexts.{among_names, distinct_here, value_here}

-- Words are the algorithms that are parsed from them one by one, up to the first that is none or is there twice.

-- One more algorithm.
pub algorithms_push : (words : List (List ℕ)) (algorithms : List Algo) (word : List ℕ) (algorithm : Algo) →
    AreAlgorithms words algorithms → word ≡ algorithm_name algorithm → IsNew word words →
    AreAlgorithms (words ++ word ∷ []) (algorithms ++ algorithm ∷ [])
algorithms_push words algorithms word algorithm are is new = record {
  named = map-append algorithm_name algorithms (algorithm ∷ []) ∙ (λ i. are.named i ++ sym is i ∷ []);
  distinct = AreDistinct-push words word are.distinct new;
}

-- A word that is not the name of an algorithm.
pub no_algorithm : (words before later : List (List ℕ)) (word : List ℕ) → words ≡ before ++ word ∷ later →
    ((algorithm : Algo) → word ≡ algorithm_name algorithm → ⊥) → NoneIs (AreAlgorithms words)
no_algorithm words before later word is none algorithms are =
    let here = value_here algorithm_name algorithms before word later (are.named ∙ is) in none here.0 (sym here.1)

-- A word that is there twice.
pub algorithm_twice : (words before later : List (List ℕ)) (word : List ℕ) → words ≡ before ++ word ∷ later →
    (IsNew word before → ⊥) → NoneIs (AreAlgorithms words)
algorithm_twice words before later word is held algorithms are =
    held (distinct_here before word later (subst AreDistinct is are.distinct))

-- A word is new if and only if no algorithm has it.
pub word_is_new : (words : List (List ℕ)) (algorithms given : List Algo) (word : List ℕ) (result : Bool) →
    map algorithm_name algorithms ≡ words → given ≡ algorithms →
    result ≡ list_any (λ algorithm. bytes_eq (algorithm_name algorithm) word) given → result ≡ false → IsNew word words
word_is_new words algorithms given word result named same is not =
    subst (IsNew word) named (new_by_test word (map algorithm_name algorithms)
    (sym (among_names algorithm_name word algorithms)
    ∙ ap (list_any (λ algorithm. bytes_eq (algorithm_name algorithm) word)) (sym same) ∙ sym is ∙ not))

pub word_is_held : (words : List (List ℕ)) (algorithms given : List Algo) (word : List ℕ) (result : Bool) →
    map algorithm_name algorithms ≡ words → given ≡ algorithms →
    result ≡ list_any (λ algorithm. bytes_eq (algorithm_name algorithm) word) given → result ≡ true → IsNew word words → ⊥
word_is_held words algorithms given word result named same is holds new =
    held_by_test word (map algorithm_name algorithms)
    (sym (among_names algorithm_name word algorithms)
    ∙ ap (list_any (λ algorithm. bytes_eq (algorithm_name algorithm) word)) (sym same) ∙ sym is ∙ holds)
    (subst (IsNew word) (sym named) new)

-- ---- a text

not_none : (text : List ℕ) (result : Bool) → result ≡ bytes_eq text (codes "none") → result ≡ false → text ≡ codes "none" → ⊥
not_none text result is not same =
    let equal : bytes_eq text (codes "none") ≡ true = rw same refl in
    true≢false (sym equal ∙ sym is ∙ not)

-- A text that is not `none` and lists no algorithms gives none.
pub no_hashes : {T : Type 0} (text : List ℕ) (same : Bool) (result : Result T NoRequest) → same ≡ bytes_eq text (codes "none") →
    same ≡ false → IfErr result (IsFailureOutcome (IsBadValue (AreAlgorithms (listed_words text)))) →
    IfErr result (IsFailureOutcome (IsBadValue (AreHashesOf text)))
no_hashes text same (Ok value) is not fails = tt
no_hashes text same (Err (outcome.Text error)) is not fails = absurd fails
no_hashes text same (Err (outcome.Failure failure)) is not (inr memory) = inr memory
no_hashes text same (Err (outcome.Failure failure)) is not (inl bad) = inl (bad.0, neither) where
  neither : NoneIs (AreHashesOf text)
  neither algorithms (inl none) = not_none text same is not none.0
  neither algorithms (inr are) = bad.1 algorithms are
