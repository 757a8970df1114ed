use Rattle.std.proofs.Common.{◌≡◌, ◌≢◌, ◌<◌, ◌≤◌, ℕ, List, [], ◌∷◌, ◌++◌, codes, length, refl, sym, ap, ◌∙◌, subst, append_assoc}
use Rattle.std.proofs.Common.{append-nil}
use Rattle.std.proofs.Common.{◌==◌, Some, None, get_or, take, drop, suc, zero, true, false, arith, ◌-◌, length-append, length-drop}
use Rattle.std.proofs.Common.{take-append-drop}
use Rattle.std.specs.List.{AllByRecursion, position, position_or_len}
use Rattle.std.proofs.lemmas.Bool.{eqb-false, eqb-true, ne_eqb}
use Rattle.std.proofs.lemmas.List.{take_all}
use Rattle.std.proofs.lemmas.List.Sums.{fails_before_first}
use Rattle.std.proofs.Math.Seq.{take-length}
use Rattle.std.proofs.lemmas.List.Quantifiers.{position-Some}
use Rattle.std.proofs.lemmas.Grind.{common_steps, flat_map-append}
use Rattle.bi_common.specs.Shown.{path, shown_text}
use Rattle.bi_common.proofs.ReadableWords.Cuts.{Ends, HasNoEnd, cut_agrees, later_same, nothing_before}
use Rattle.bi_common.proofs.ReadableWords.ShownNames.{is_slash, same_shown, shown_no_slash, some_shown}
use Rattle.bi_values.specs.NameWords.{AreNoSteps, AreStepsOf, BeginsWithStep, HasNoStep, IsEmptyOrBeginsWithSlash, IsNoChildName, IsNoPath}
use Rattle.bi_values.specs.NameWords.{IsPathWord, steps_text}
use Rattle.bi_values.specs.ValueNames.{IsChildNameOfBytes, IsNodePath}

-- The names of a path are read back from it, each after a slash.

-- No byte is a slash.
no_slash : (bytes : List ℕ) → AllByRecursion (λ byte. byte ≢ 47) bytes → HasNoEnd is_slash bytes
no_slash [] none = tt
no_slash (byte ∷ later) none = (ne_eqb byte 47 none.0, no_slash later none.1)

-- A text up to its first slash, and from there on.
before_slash : (bytes : List ℕ) (end : ℕ) → ((k : ℕ) → k < end → (get_or bytes k 0 == 47) ≡ false) →
    AllByRecursion (λ byte. byte ≢ 47) (take end bytes)
before_slash [] zero others = tt
before_slash [] (suc end) others = tt
before_slash (byte ∷ later) zero others = tt
before_slash (byte ∷ later) (suc end) others =
    (eqb-false byte 47 (others 0 (omega arith)), before_slash later end (λ k before. others (suc k) (omega (arith, before))))

from_slash : (bytes : List ℕ) (end : ℕ) → (get_or bytes end 0 == 47) ≡ true → IsEmptyOrBeginsWithSlash (drop end bytes)
from_slash [] zero is = tt
from_slash [] (suc end) is = tt
from_slash (byte ∷ later) zero is = eqb-true byte 47 is
from_slash (byte ∷ later) (suc end) is = from_slash later end is

-- So a text is split after its first slash, if there is another,
pub split_at : (text rest : List ℕ) (end : ℕ) → text ≡ 47 ∷ rest → position (λ byte. byte == 47) rest ≡ Some end →
    BeginsWithStep text (take end rest) (take (length rest - end) (drop end rest))
split_at text rest end begins is =
    let found = position-Some (λ byte. byte == 47) rest end 0 is in
    let all : take (length rest - end) (drop end rest) ≡ drop end rest =
    take_all (length rest - end) (drop end rest) (omega (arith, length-drop end rest)) in
    subst (BeginsWithStep text (take end rest)) (sym all)
    (record {
      is = begins ∙ ap (λ later. 47 ∷ later) (sym (take-append-drop end rest));
      no_slash = before_slash rest end found.2;
      ends = from_slash rest end found.1;
    })

-- and if there is none.
none_passes : (bytes : List ℕ) → position (λ byte. byte == 47) bytes ≡ None → AllByRecursion (λ byte. byte ≢ 47) bytes
none_passes bytes is =
    let past : length bytes ≤ position_or_len (λ byte. byte == 47) bytes = grind (arith, common_steps) in
    subst (AllByRecursion (λ byte. byte ≢ 47)) (take-length bytes)
    (before_slash bytes (length bytes) (λ k before. fails_before_first (λ byte. byte == 47) bytes k 0 (omega (arith, past, before))))

pub split_at_end : (text rest : List ℕ) → text ≡ 47 ∷ rest → position (λ byte. byte == 47) rest ≡ None → BeginsWithStep text rest []
split_at_end text rest begins none =
    record { is = begins ∙ ap (λ later. 47 ∷ later) (sym (append-nil rest)); no_slash = none_passes rest none; ends = tt }

-- Names and what may follow them end the name before them.
step_ends : (names : List (List ℕ)) (rest : List ℕ) → IsEmptyOrBeginsWithSlash rest → Ends is_slash (steps_text names ++ rest)
step_ends [] [] ends = tt
step_ends [] (byte ∷ later) ends = rw ends refl
step_ends (name ∷ names) rest ends = refl

-- What follows some names of a path is the other names.
pub rest_of_steps : (names others : List (List ℕ)) (rest : List ℕ) → AllByRecursion IsChildNameOfBytes names →
    AllByRecursion IsChildNameOfBytes others → IsEmptyOrBeginsWithSlash rest → steps_text names ++ rest ≡ steps_text others →
    (more : List (List ℕ)) × (others ≡ names ++ more) × (rest ≡ steps_text more)
rest_of_steps [] others rest are also ends same = (others, refl, same)
rest_of_steps (name ∷ names) [] rest are also ends same = absurd cc
rest_of_steps (name ∷ names) (other ∷ others) rest are also ends same =
    let goes_on : shown_text name ++ (steps_text names ++ rest) ≡ shown_text other ++ (steps_text others ++ []) =
    sym (append_assoc (shown_text name) (steps_text names) rest) ∙ later_same same
    ∙ ap (λ later. shown_text other ++ later) (sym (append-nil (steps_text others))) in
    let first = cut_agrees is_slash (shown_text name) (shown_text other) (steps_text names ++ rest) (steps_text others ++ [])
    (shown_no_slash name are.0.is_name.no_slash) (shown_no_slash other also.0.is_name.no_slash) (step_ends names rest ends)
    (step_ends others [] tt) goes_on in
    let next = rest_of_steps names others rest are.1 also.1 ends (first.1 ∙ append-nil (steps_text others)) in
    let head : name ≡ other = same_shown name other first.0 in
    let tail : others ≡ names ++ next.0 = next.1 in
    (next.0, cc, next.2)

-- Of two lists together, what holds of each is what holds of the first of the second.
first_after : (names more : List (List ℕ)) (name : List ℕ) → AllByRecursion IsChildNameOfBytes (names ++ name ∷ more) →
    IsChildNameOfBytes name
first_after [] more name are = are.0
first_after (other ∷ names) more name are = first_after names more name are.1

-- A slash and what is not a name follow some names: no names have this text.
pub no_path_steps : (text : List ℕ) (names : List (List ℕ)) (rest step later : List ℕ) → AllByRecursion IsChildNameOfBytes names →
    steps_text names ++ rest ≡ text → BeginsWithStep rest step later → IsNoChildName step → AreNoSteps text
no_path_steps text names rest step later are begins goes none others also same =
    by (rest_of_steps names others rest are also (subst IsEmptyOrBeginsWithSlash (sym goes.is) refl) (begins ∙ sym same))
  where
    by : (more : List (List ℕ)) × (others ≡ names ++ more) × (rest ≡ steps_text more) → ⊥
    by ([], is, ends) = let e = sym goes.is ∙ ends in absurd cc
    by (name ∷ more, is, goes_on) =
        let same_text : step ++ later ≡ shown_text name ++ (steps_text more ++ []) =
        later_same (sym goes.is ∙ goes_on) ∙ ap (λ end. shown_text name ++ end) (sym (append-nil (steps_text more))) in
        let valid = first_after names more name (subst (AllByRecursion IsChildNameOfBytes) is also) in
        let first = cut_agrees is_slash step (shown_text name) later (steps_text more ++ []) (no_slash step goes.no_slash)
        (shown_no_slash name valid.is_name.no_slash) (step_ends [] later goes.ends) (step_ends more [] tt) same_text in
        none name valid (sym first.0)

-- One more name.
pub one_more_step : (names : List (List ℕ)) (name text rest later step : List ℕ) → steps_text names ++ rest ≡ text →
    BeginsWithStep rest step later → shown_text name ≡ step → steps_text (names ++ name ∷ []) ++ later ≡ text
one_more_step names name text rest later step begins goes is =
    let same : (47 ∷ (shown_text name ++ [])) ++ later ≡ rest =
    ap (λ one. 47 ∷ (one ++ later)) (append-nil (shown_text name) ∙ is) ∙ sym goes.is in
    ap (λ all. all ++ later) (flat_map-append (λ one. 47 ∷ shown_text one) names (name ∷ []))
    ∙ append_assoc (steps_text names) (47 ∷ (shown_text name ++ [])) later
    ∙ ap (λ end. steps_text names ++ end) same
    ∙ begins

-- A text that has no step and is empty or begins with a slash is empty.
pub no_step_left : (rest : List ℕ) → IsEmptyOrBeginsWithSlash rest → HasNoStep rest → rest ≡ []
no_step_left [] ends none = refl
no_step_left (byte ∷ later) ends none = absurd (none later (ap (λ first. first ∷ later) ends))

-- ---- whole paths

-- A path that is not that of the root is its steps.
path_is : (names : List (List ℕ)) → names ≢ [] → path names ≡ steps_text names
path_is [] some = absurd (some refl)
path_is (name ∷ names) some = refl

-- A text of steps with a slash is a path.
pub path_of_steps : (text : List ℕ) (names : List (List ℕ)) → text ≢ [] → AreStepsOf text names → length names ≤ 63 → IsPathWord text names
path_of_steps text [] some are few = absurd (some (sym are.is))
path_of_steps text (name ∷ names) some are few =
    record { is_path = record { are_names = are.are_names; few = few }; is = are.is }

-- A text without steps is not a path, unless it is that of the root.
pub no_path : (text : List ℕ) → text ≢ codes "/" → AreNoSteps text → IsNoPath text
no_path text other none [] is same = other (sym same)
no_path text other none (name ∷ names) is same = none (name ∷ names) is.are_names same

-- A text of too many steps is not a path.
pub no_long_path : (text : List ℕ) (names : List (List ℕ)) → text ≢ codes "/" → AreStepsOf text names → 63 < length names → IsNoPath text
no_long_path text names other are long [] is same = other (sym same)
no_long_path text names other are long (first ∷ others) is same =
    let found = rest_of_steps names (first ∷ others) [] are.are_names is.are_names tt (append-nil (steps_text names) ∙ are.is ∙ sym same) in
    let e = ap length found.1 in
    let few = is.few in
    absurd (omega (arith, e, few, long, length-append names found.0))

-- Every path begins with a slash.
pub path_begins : (names : List (List ℕ)) → (later : List ℕ) × (path names ≡ 47 ∷ later)
path_begins [] = ([], refl)
path_begins (name ∷ names) = (shown_text name ++ steps_text names, refl)

-- Two paths that are the same text are the same.
pub one_path : (names others : List (List ℕ)) → IsNodePath names → IsNodePath others → path names ≡ path others → names ≡ others
one_path [] [] is also same = refl
one_path [] (other ∷ others) is also same =
    absurd (some_shown other (nothing_before (shown_text other) (steps_text others) (sym (later_same same))))
one_path (name ∷ names) [] is also same = absurd (some_shown name (nothing_before (shown_text name) (steps_text names) (later_same same)))
one_path (name ∷ names) (other ∷ others) is also same =
    by (rest_of_steps (name ∷ names) (other ∷ others) [] is.are_names also.are_names tt (append-nil (steps_text (name ∷ names)) ∙ same))
  where
    by : (more : List (List ℕ)) × ((other ∷ others) ≡ (name ∷ names) ++ more) × ([] ≡ steps_text more) → (name ∷ names) ≡ (other ∷ others)
    by ([], is, ends) = sym (is ∙ append-nil (name ∷ names))
    by (one ∷ more, is, ends) = absurd cc
