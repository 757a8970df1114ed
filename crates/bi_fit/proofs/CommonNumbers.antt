use Rattle.std.proofs.Common.{◌≡◌, ◌≢◌, ℕ, suc, ◌+◌, ◌<◌, ◌≤◌, List, [], ◌∷◌, ◌++◌, length, drop, get_or, Option, Some, None}
use Rattle.std.proofs.Common.{refl, sym, ap, subst, ◌∙◌, arith, append_assoc}
use Rattle.std.specs.List.{AllByRecursion, AllZip}
use Rattle.std.proofs.Math.ListN.{drop_of_length-le}
use Rattle.std.proofs.Math.Seq.{drop-cons}
use Rattle.std.proofs.lemmas.List.{append-nil, length-append}
use Rattle.bi_blob.specs.Tree.{FileProperty, IsNew, AreDistinct}
use Rattle.bi_blob.proofs.Blobs.OpenNodes.{AreDistinct-push, All-push}
use Rattle.bi_fdt.specs.Numbers.{HasNumber, IsNumberOf, FindsNumber}
use Rattle.bi_fdt.specs.Order.{KeyedProperty, AreByNumber}
use Rattle.bi_fit.proofs.ChangedNames.{number_append}
use Rattle.bi_fit.specs.CommonNumbers.{HaveNumbersAfter}

-- Names that are not among others get the numbers after theirs.

-- The numbers that are found, and for each name that is not found the next number.
abbrev pub numbers_from : (next : ℕ) → List (Option ℕ) → List ℕ
numbers_from next [] = []
numbers_from next (Some number ∷ found) = number ∷ numbers_from next found
numbers_from next (None ∷ found) = next ∷ numbers_from (next + 1) found

-- Names keep their numbers if others are added at the end.
all_stay : (names more : List (List ℕ)) (keyed : List KeyedProperty) → AllByRecursion (λ one. HasNumber names one.1 one.0) keyed →
    AllByRecursion (λ one. HasNumber (names ++ more) one.1 one.0) keyed
all_stay names more [] all = tt
all_stay names more (one ∷ keyed) all = (number_append names more one.1.name one.0 all.0, all_stay names more keyed all.1)

-- So properties in the order of their numbers are in that order by the longer list too.
pub order_stays : (names more : List (List ℕ)) (properties : List FileProperty) (keyed : List KeyedProperty) →
    AreByNumber names properties keyed → AreByNumber (names ++ more) properties keyed
order_stays names more properties keyed are = record {
  permutation = are.permutation;
  numbered = all_stay names more keyed are.numbered;
  ascending = are.ascending;
}

-- The name after others has their count as its number.
number_after : (names more : List (List ℕ)) (name : List ℕ) → IsNumberOf (names ++ name ∷ more) name (length names)
number_after [] more name = refl
number_after (first ∷ later) more name = number_after later more name

-- A name that is new among two lists is new among both.
new_among : (name : List ℕ) (names more : List (List ℕ)) → IsNew name names → IsNew name more → IsNew name (names ++ more)
new_among name [] more new more_new = more_new
new_among name (first ∷ names) more new more_new = (new.0, new_among name names more new.1 more_new)

-- Each of some names is new among others.
abbrev AreNew : List (List ℕ) → List (List ℕ) → Type 0
AreNew names others = AllByRecursion (λ name. IsNew name others) names

-- They stay so if a name is added that is new among them.
new_pushed : (names others : List (List ℕ)) (name : List ℕ) → AreNew names others → IsNew name names → AreNew names (others ++ name ∷ [])
new_pushed [] others name are new = tt
new_pushed (first ∷ names) others name are new =
    (All-push (λ other. other ≢ first) others name are.0 (λ same. new.0 (sym same)), new_pushed names others name are.1 new.1)

none_new : (names : List (List ℕ)) → AreNew names []
none_new [] = tt
none_new (name ∷ names) = (tt, none_new names)

module _ (names : List (List ℕ)) where
  -- Names have these numbers after others were added, and those that come next.
  numbers_after : (more others : List (List ℕ)) (found : List (Option ℕ)) (next : ℕ) → AreDistinct (names ++ more) → AreDistinct others →
      AreNew others more → AllZip (FindsNumber names) others found → next ≡ length (names ++ more) →
      (added : List (List ℕ)) × AreDistinct ((names ++ more) ++ added) × AllZip (IsNumberOf ((names ++ more) ++ added)) others
      (numbers_from next found)
  numbers_after more [] [] next distinct others_distinct new are counts = (
    [],
    subst AreDistinct (sym (append-nil
        (names ++ more))) distinct,
    tt,
  )
  numbers_after more [] (number ∷ found) next distinct others_distinct new are counts = absurd are
  numbers_after more (name ∷ others) [] next distinct others_distinct new are counts = absurd are
  numbers_after more (name ∷ others) (Some number ∷ found) next distinct others_distinct new are counts =
      let rest = numbers_after more others found next distinct others_distinct.1 new.1 are.1 counts in
      (rest.0, rest.1, (number_append (names ++ more) rest.0 name number (number_append names more name number are.0), rest.2))
  numbers_after more (name ∷ others) (None ∷ found) next distinct others_distinct new are counts =
      let pushed : (names ++ more) ++ name ∷ [] ≡ names ++ (more ++ name ∷ []) = append_assoc names more (name ∷ []) in
      let still : AreDistinct (names ++ (more ++ name ∷ [])) =
      subst AreDistinct pushed (AreDistinct-push (names ++ more) name distinct (new_among name names more are.0 new.0)) in
      let count : next + 1 ≡ length (names ++ (more ++ name ∷ [])) =
      omega (arith, counts, length-append names more, length-append names (more ++ name ∷ []), length-append more (name ∷ [])) in
      let rest = numbers_after (more ++ name ∷ []) others found (next + 1) still others_distinct.1
      (new_pushed others more name new.1 others_distinct.0) are.1 count in
      let whole : (names ++ (more ++ name ∷ [])) ++ rest.0 ≡ (names ++ more) ++ name ∷ rest.0 =
      ap (λ l. l ++ rest.0) (sym pushed) ∙ append_assoc (names ++ more) (name ∷ []) rest.0 in (
        name ∷ rest.0,
        subst AreDistinct whole rest.1,
        (
          subst (λ n. IsNumberOf ((names ++ more) ++ name ∷ rest.0) name n) (sym counts) (number_after (names ++ more) rest.0 name),
          subst (λ l. AllZip (IsNumberOf l) others (numbers_from (next + 1) found)) whole rest.2,
        ),
      )

-- The numbers by a list that begins with the names.
pub numbers_by_both : (names others : List (List ℕ)) (found : List (Option ℕ)) (numbers : List ℕ) → AreDistinct names → AreDistinct others →
    AllZip (FindsNumber names) others found → numbers ≡ numbers_from (length names) found → HaveNumbersAfter names others numbers
numbers_by_both names others found numbers distinct others_distinct are is =
    let plain = append-nil names in
    let all = numbers_after names [] others found (length names) (subst AreDistinct (sym plain) distinct) others_distinct
    (none_new others) are
    (ap length (sym plain)) in
    let both : (names ++ []) ++ all.0 ≡ names ++ all.0 = ap (λ l. l ++ all.0) plain in
    record {
      more = all.0;
      distinct = subst AreDistinct both all.1;
      numbered = subst (AllZip (IsNumberOf (names ++ all.0)) others) (sym is)
          (subst (λ l. AllZip (IsNumberOf l) others (numbers_from (length names) found)) both all.2);
    }

-- ---- one after the other

-- Some of the numbers, and those that come from an index on, are all of them.
abbrev pub AreBegun : List (Option ℕ) → (count index next : ℕ) → List ℕ → Type 0
AreBegun found count index next numbers = numbers ++ numbers_from next (drop index found) ≡ numbers_from count found

module _ (found : List (Option ℕ)) (count index next : ℕ) (numbers more : List ℕ) (d : Option ℕ) (within : index < length found)
    (begun : AreBegun found count index next numbers) where
  -- What is left begins with this.
  here : numbers ++ numbers_from next (get_or found index d ∷ drop (suc index) found) ≡ numbers_from count found
  here = ap (λ l. numbers ++ numbers_from next l) (sym (drop-cons found index d within)) ∙ begun

-- In the end they are all.
pub all_begun : (found : List (Option ℕ)) (count index next : ℕ) (numbers : List ℕ) → length found ≤ index →
    AreBegun found count index next numbers → numbers ≡ numbers_from count found
all_begun found count index next numbers last begun =
    sym (append-nil numbers) ∙ ap (λ l. numbers ++ numbers_from next l) (sym (drop_of_length-le found last)) ∙ begun
