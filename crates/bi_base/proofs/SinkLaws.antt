use Rattle.std.proofs.Common.{◌≡◌, ℕ, ◌+◌, ◌<◌, List, [], ◌∷◌, ◌++◌, length, take, drop, get_or, flat_map, append-nil, sym, ap, ◌∙◌, subst}
use Rattle.std.proofs.Common.{Result, Ok, Err, IsErrAnd}
use Rattle.std.proofs.lemmas.Grind.{flat_map-append}
use Rattle.std.proofs.lemmas.List.{take-append-drop, take_more}
use Rattle.bi_base.specs.Sinks.{AppendsInTurn, FailsAfter, FailsBefore, Wrote}
use Rattle.bi_base.specs.declared.fault.Error.{Error}

-- A call that appends bytes after others appends both together, and a failure to append one of some pieces is a failure to append all of
-- them.

-- An error that is passed on by `?` is the failure of the call.
pub passed_on : {S V : Type 0} (appends : S → List ℕ → S → Type 0) (fails : S → List ℕ → S → Error → Type 0) (old : S) (bytes : List ℕ)
    (error : Error) (result : Result V Error) (new : S) → IsErrAnd result (λ e. e ≡ error) → fails old bytes new error →
    Wrote appends fails old bytes result new
passed_on appends fails old bytes error (Ok value) new is failed = absurd is
passed_on appends fails old bytes error (Err e) new is failed = subst (λ other. fails old bytes new other) (sym is) failed

-- After these bytes, a call that appends more is one that appends both together.
pub wrote_after : {S V : Type 0} (appends : S → List ℕ → S → Type 0) (fails : S → List ℕ → S → Error → Type 0)
    (in_turn : AppendsInTurn appends) (after : FailsAfter appends fails) (old mid new : S) (bytes more : List ℕ) (result : Result V Error) →
    appends old bytes mid → Wrote appends fails mid more result new → Wrote appends fails old (bytes ++ more) result new
wrote_after appends fails in_turn after old mid new bytes more (Ok value) first wrote = in_turn old mid new bytes more first wrote
wrote_after appends fails in_turn after old mid new bytes more (Err e) first wrote = after old mid new bytes more e first wrote

-- Joined pieces are those before one piece, that piece, and those after it.
pub flat_map_at : {A : Type 0} (f : A → List ℕ) (xs : List A) (i : ℕ) (d : A) → i < length xs →
    flat_map f xs ≡ (flat_map f (take i xs) ++ f (get_or xs i d)) ++ flat_map f (drop (i + 1) xs)
flat_map_at f xs i d within =
    let later = flat_map f (drop (i + 1) xs) in
    ap (flat_map f) (sym (take-append-drop (i + 1) xs))
    ∙ flat_map-append f (take (i + 1) xs) (drop (i + 1) xs)
    ∙ ap (λ l. flat_map f l ++ later) (take_more xs i d within)
    ∙ ap (λ l. l ++ later) (flat_map-append f (take i xs) (get_or xs i d ∷ [])
    ∙ ap (λ l. flat_map f (take i xs) ++ l) (append-nil (f (get_or xs i d))))

-- After the pieces before one, a failure to append that one is a failure to append all pieces together.
pub failed_within : {S A : Type 0} (appends : S → List ℕ → S → Type 0) (fails : S → List ℕ → S → Error → Type 0)
    (after : FailsAfter appends fails) (before : FailsBefore fails) (old mid new : S) (f : A → List ℕ) (xs : List A) (i : ℕ) (d : A)
    (error : Error) → i < length xs → appends old (flat_map f (take i xs)) mid → fails mid (f (get_or xs i d)) new error →
    fails old (flat_map f xs) new error
failed_within appends fails after before old mid new f xs i d error within first failed =
    let pieces = flat_map f (take i xs) ++ f (get_or xs i d) in
    subst (λ l. fails old l new error) (sym (flat_map_at f xs i d within))
    (before old new pieces (flat_map f (drop (i + 1) xs)) error
    (after old mid new (flat_map f (take i xs)) (f (get_or xs i d)) error first failed))
