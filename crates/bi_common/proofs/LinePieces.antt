use Rattle.std.proofs.Common.{◌≡◌, ◌<◌, ℕ, false, List, [], ◌∷◌, flat_map, length, sym, arith, Result, Ok, Err, OnOk}
use Rattle.std.specs.Result.{is_err}
use Rattle.std.specs.Borrow.{Bor}
use Rattle.std.proofs.lemmas.List.Folds.{flat_map-map}
use Rattle.bi_common.specs.Shown.{path, shown_text}
use Rattle.bi_common.specs.MadeFields.{bytes_of_names}

-- The pieces that are put of a path are together the path.

-- A name of a path, after a slash.
abbrev pub step_of : Bor (List ℕ) → List ℕ
step_of name = 47 ∷ shown_text name.now

-- The names of a path, each after a slash.
abbrev pub steps_of : List (Bor (List ℕ)) → List ℕ
steps_of names = flat_map step_of names

-- They are the path of a node other than the root.
pub steps_are_path : (names : List (Bor (List ℕ))) → 0 < length names → steps_of names ≡ path (bytes_of_names names)
steps_are_path [] some = absurd (omega arith)
steps_are_path (first ∷ names) some = sym
    (flat_map-map (λ other. 47 ∷ shown_text other) (λ (name : Bor (List ℕ)). name.now) (first ∷ names))

-- What holds where a call succeeded.
pub known_ok : {V E P : Type 0} (result : Result V E) → is_err result ≡ false → OnOk result P → P
known_ok (Ok value) not_err holds = holds
known_ok (Err error) not_err holds = absurd cc
