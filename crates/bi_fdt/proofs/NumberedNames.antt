use Rattle.std.proofs.Common.{◌≡◌, ℕ, zero, suc, List, [], ◌∷◌, ◌++◌, length, Some, slice_get, refl, ap, subst, rules}
use Rattle.std.specs.List.{AllZip}
use Rattle.std.proofs.lemmas.Option.{none-some, same_Some, slice_get_within}
use Rattle.bi_blob.specs.Tree.{IsNew}
use Rattle.bi_blob.proofs.Blobs.OpenNodes.{AreDistinct-push}
use Rattle.bi_fdt.specs.NameParts.{NamePart, AreOnce, IsNewPart, IsPlaced, AreMoreParts}
use Rattle.bi_fdt.specs.NameTails.{IsHead, AreHeads, AreBlockNumbers}
use Rattle.bi_fdt.specs.Numbers.{BeginsWith, IsNumbered, AreNumbered}
use Rattle.bi_fdt.specs.TableItems.{TableItem, NodeItem, PropertyItem}
use Rattle.bi_fdt.proofs.NameParts.{slice_get-begin, once_more}
use Rattle.bi_fdt.proofs.NameTails.{IsTail-kept, AreAllBlocks-kept, same_name_of_head, one_head}

-- Names keep their numbers when more are added.

-- What holds of the items of two lists, place by place, holds of them with those of two more lists.
pub AllZip-append : {A B : Type 0} (R : A → B → Type 0) (xs : List A) (ys : List B) (zs : List A) (ws : List B) → AllZip R xs ys →
    AllZip R zs ws → AllZip R (xs ++ zs) (ys ++ ws)
AllZip-append R [] [] zs ws all more = more
AllZip-append R [] (y ∷ ys) zs ws all more = absurd all
AllZip-append R (x ∷ xs) [] zs ws all more = absurd all
AllZip-append R (x ∷ xs) (y ∷ ys) zs ws all more = (all.0, AllZip-append R xs ys zs ws all.1 more)

-- What follows from it place by place.
AllZip-then : {A B : Type 0} (R S : A → B → Type 0) (xs : List A) (ys : List B) → ((x : A) (y : B) → R x y → S x y) → AllZip R xs ys →
    AllZip S xs ys
AllZip-then R S [] [] then all = tt
AllZip-then R S [] (y ∷ ys) then all = absurd all
AllZip-then R S (x ∷ xs) [] then all = absurd all
AllZip-then R S (x ∷ xs) (y ∷ ys) then all = (then x y all.0, AllZip-then R S xs ys then all.1)

-- Names keep their numbers in a longer list.
IsNumbered-more : (all front : List (List ℕ)) → BeginsWith all front → (item : TableItem) (number : ℕ) → IsNumbered front item number →
    IsNumbered all item number
IsNumbered-more all front begins (NodeItem depth place name) number is = tt
IsNumbered-more all front begins (PropertyItem property) number is = slice_get-begin all front begins number property.name is

pub AreNumbered-more : (all front : List (List ℕ)) → BeginsWith all front → (table : List TableItem) (numbers : List ℕ) →
    AreNumbered front table numbers → AreNumbered all table numbers
AreNumbered-more all front begins table numbers are = search (rules, AllZip-then, IsNumbered-more)

-- The heads of names are the same when tails are added.
heads_kept : (old new : List NamePart) → BeginsWith new old → (heads : List NamePart) (names : List (List ℕ)) →
    AllZip (IsHead old) heads names →
    AllZip (IsHead new) heads names
heads_kept old new begins heads names all = search (rules, AllZip-then, IsTail-kept)

pub AreHeads-tails : (old new heads : List NamePart) (names : List (List ℕ)) → AreMoreParts old new → AreHeads old heads names →
    AreHeads new heads names
AreHeads-tails old new heads names more are = search (rules, heads_kept)

pub AreBlockNumbers-more : (old new : List NamePart) (strings numbers : List ℕ) → BeginsWith new old →
    AreBlockNumbers old strings numbers →
    AreBlockNumbers new strings numbers
AreBlockNumbers-more old new strings numbers begins are = search (rules, AreAllBlocks-kept)

-- As many heads as names.
AllZip-same_length : {A B : Type 0} (R : A → B → Type 0) (xs : List A) (ys : List B) → AllZip R xs ys → length xs ≡ length ys
AllZip-same_length R [] [] all = refl
AllZip-same_length R [] (y ∷ ys) all = absurd all
AllZip-same_length R (x ∷ xs) [] all = absurd all
AllZip-same_length R (x ∷ xs) (y ∷ ys) all = ap suc (AllZip-same_length R xs ys all.1)

pub heads_length : (tails heads : List NamePart) (names : List (List ℕ)) → AreHeads tails heads names → length heads ≡ length names
heads_length tails heads names are = AllZip-same_length (IsHead tails) heads names are.each

-- The name at the place of a head has that head.
name_there : (tails heads : List NamePart) (names : List (List ℕ)) → AllZip (IsHead tails) heads names → (index : ℕ) (part : NamePart) →
    slice_get heads index ≡ Some part → (name : List ℕ) × (slice_get names index ≡ Some name) × IsHead tails part name
name_there tails [] names all index part is = absurd (none-some part is)
name_there tails (head ∷ heads) [] all index part is = absurd all
name_there tails (head ∷ heads) (name ∷ names) all zero part is = search (rules, same_Some)
name_there tails (head ∷ heads) (name ∷ names) all (suc index) part is = name_there tails heads names all.1 index part is

-- A name has the number of its head, if the head was found.
pub known_name : (tails heads : List NamePart) (names : List (List ℕ)) (part : NamePart) (name : List ℕ) (number : ℕ) →
    AreHeads tails heads names →
    IsHead tails part name → slice_get heads number ≡ Some part → slice_get names number ≡ Some name
known_name tails heads names part name number are is found = search (rules, name_there, same_name_of_head)

-- A name with a new head is new.
pub new_name : (tails heads : List NamePart) (names : List (List ℕ)) (part : NamePart) (name : List ℕ) → AreOnce tails →
    AllZip (IsHead tails) heads names →
    IsHead tails part name → IsNewPart part heads → IsNew name names
new_name tails [] [] part name once all is new = tt
new_name tails [] (other ∷ names) part name once all is new = absurd all
new_name tails (head ∷ heads) [] part name once all is new = absurd all
new_name tails (head ∷ heads) (other ∷ names) part name once all is new = (
  (λ same. new zero (ap Some (one_head tails once head part name (subst (IsHead tails head) same all.0) is))),
  new_name tails heads names part name once all.1 is (λ index. new (suc index)),
)

-- A table with one more name.
pub AreHeads-push : (tails heads : List NamePart) (names : List (List ℕ)) (part : NamePart) (name : List ℕ) → AreHeads tails heads names →
    IsHead tails part name → IsNewPart part heads → AreHeads tails (heads ++ part ∷ []) (names ++ name ∷ [])
AreHeads-push tails heads names part name are is new = search (rules, once_more, AllZip-append, AreDistinct-push, new_name)

-- A part that is placed at the end was new, and one that is placed elsewhere was there.
pub placed_last : (heads : List NamePart) (part : NamePart) (index : ℕ) (new : List NamePart) → IsPlaced heads part index new →
    index ≡ length heads →
    IsNewPart part heads × (new ≡ heads ++ part ∷ [])
placed_last heads part index new placed last = search (rules, slice_get_within)

pub placed_there : (heads : List NamePart) (part : NamePart) (index : ℕ) (new : List NamePart) → IsPlaced heads part index new →
    ¬ (index ≡ length heads) →
    (slice_get heads index ≡ Some part) × (new ≡ heads)
placed_there heads part index new placed elsewhere = search rules
