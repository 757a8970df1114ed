use Rattle.std.proofs.Common.{◌≡◌, ◌≢◌, ℕ, List, [], ◌∷◌}
use Rattle.std.proofs.Common.{◌++◌, length, flat_map, refl, sym, ap, subst, ◌∙◌, arith, append_assoc}
use Rattle.std.proofs.Common.{◌<◌, Option, Some, Vec, Global, Bor, option_map, append-nil, length-append}
use Rattle.bi_common.specs.Shown.{path, shown_text}
use Rattle.bi_common.proofs.ReadableWords.Cuts.{HasNoEnd, Ends, cut_agrees, goes_on-append, later_same, nothing_before}
use Rattle.bi_common.proofs.ReadableWords.ShownNames.{is_blank, is_slash, same_shown, shown_no_blank, shown_no_slash, some_shown}
use Rattle.bi_edit.specs.Cuts.{from_byte, IsCutAt, LacksByte}
use Rattle.bi_edit.specs.EditWords.{ArePathNamesIn, IsChildWord, slash_and_name}
use Rattle.bi_edit.specs.Places.{AreChildNames, IsChildNameOfBytes, IsNodePath}
use Rattle.bi_edit.specs.Places.{names_of_path}
use Rattle.bi_edit.proofs.CutTexts.{no_end, no_space, ends-from_byte}

-- The names of a path are read back from how it is printed.

-- What is printed of names ends the name before them.
ends-slashed : (names : List (List ℕ)) → Ends is_slash (flat_map slash_and_name names)
ends-slashed [] = tt
ends-slashed (name ∷ names) = refl

-- The next name of those that are printed, by where it ends.
pub record HasNext (names : List (List ℕ)) (shown later : List ℕ) : Type 0 where
  pub name : List ℕ
  pub others : List (List ℕ)
  pub are : names ≡ name ∷ others
  pub is : shown_text name ≡ shown
  pub rest : flat_map slash_and_name others ≡ later

pub next_of_path : (names : List (List ℕ)) (shown : List ℕ) (later : Option (List ℕ)) → AreChildNames names → LacksByte 47 shown →
    flat_map slash_and_name names ≡ 47 ∷ (shown ++ from_byte 47 later) → HasNext names shown (from_byte 47 later)
next_of_path [] shown later are lacks same = absurd cc
next_of_path (name ∷ others) shown later are lacks same =
    let parts = cut_agrees is_slash (shown_text name) shown (flat_map slash_and_name others) (from_byte 47 later)
    (shown_no_slash name are.0.is_name.no_slash) (no_end 47 shown lacks) (ends-slashed others) (ends-from_byte 47 later)
    (later_same same) in
    record { name = name; others = others; are = refl; is = parts.0; rest = parts.1 }

-- Names that are printed at the beginning are the first of all that are printed.
pub record HasRest (names all : List (List ℕ)) (later : List ℕ) : Type 0 where
  pub others : List (List ℕ)
  pub are : all ≡ names ++ others
  pub rest : flat_map slash_and_name others ≡ later

pub rest_of_names : (names all : List (List ℕ)) (rest : List ℕ) → AreChildNames names → AreChildNames all → Ends is_slash rest →
    flat_map slash_and_name all ≡ flat_map slash_and_name names ++ rest → HasRest names all rest
rest_of_names [] all rest are all_are ends same = record { others = all; are = refl; rest = same }
rest_of_names (name ∷ names) [] rest are all_are ends same = absurd cc
rest_of_names (name ∷ names) (first ∷ all) rest are all_are ends same =
    let parts = cut_agrees is_slash (shown_text first) (shown_text name) (flat_map slash_and_name all)
    (flat_map slash_and_name names ++ rest)
    (shown_no_slash first all_are.0.is_name.no_slash) (shown_no_slash name are.0.is_name.no_slash)
    (ends-slashed all) (ends_more names rest ends)
    (later_same same ∙ append_assoc (shown_text name) (flat_map slash_and_name names) rest) in
    let more = rest_of_names names all rest are.1 all_are.1 ends parts.1 in
    let head : first ≡ name = same_shown first name parts.0 in
    record { others = more.others; are = ap (λ n. n ∷ all) head ∙ ap (λ l. name ∷ l) more.are; rest = more.rest }
  where
    ends_more : (names : List (List ℕ)) (rest : List ℕ) → Ends is_slash rest → Ends is_slash (flat_map slash_and_name names ++ rest)
    ends_more [] rest ends = ends
    ends_more (name ∷ names) rest ends = refl

-- One more name.
pub names_with_one_more : (names : List (List ℕ)) (name : List ℕ) →
    flat_map slash_and_name (names ++ name ∷ []) ≡ flat_map slash_and_name names ++ slash_and_name name
names_with_one_more [] name = append-nil (slash_and_name name)
names_with_one_more (first ∷ names) name =
    ap (λ l. slash_and_name first ++ l) (names_with_one_more names name)
    ∙ sym (append_assoc (slash_and_name first) (flat_map slash_and_name names) (slash_and_name name))

-- A path has no space.
steps_bare : (names : List (List ℕ)) → HasNoEnd is_blank (flat_map slash_and_name names)
steps_bare [] = tt
steps_bare (name ∷ names) = (
  refl,
  goes_on-append is_blank (shown_text name) (flat_map slash_and_name names) (shown_no_blank name) (steps_bare names),
)

pub path_no_space : (names : List (List ℕ)) → LacksByte 32 (path names)
path_no_space [] = no_space (path []) (refl, tt)
path_no_space (name ∷ names) = no_space (path (name ∷ names)) (steps_bare (name ∷ names))

pub shown_no_space : (name : List ℕ) → LacksByte 32 (shown_text name)
shown_no_space name = no_space (shown_text name) (shown_no_blank name)

-- Two paths that are printed as one text are the same.
none_printed : (names : List (List ℕ)) → flat_map slash_and_name names ≡ [] → names ≡ []
none_printed [] is = refl
none_printed (name ∷ names) is = absurd cc

pub names_of_same_text : (one other : List (List ℕ)) → AreChildNames one → AreChildNames other →
    flat_map slash_and_name one ≡ flat_map slash_and_name other →
    one ≡ other
names_of_same_text one other are also same =
    let more = rest_of_names other one [] also are tt (same ∙ sym (append-nil (flat_map slash_and_name other))) in
    more.are ∙ ap (λ l. other ++ l) (none_printed more.others more.rest) ∙ append-nil other

root_is_alone : (name : List ℕ) (names : List (List ℕ)) → flat_map slash_and_name (name ∷ names) ≡ 47 ∷ [] → ⊥
root_is_alone name names is = some_shown name (nothing_before (shown_text name) (flat_map slash_and_name names) (later_same is))

pub one_path : (one other : List (List ℕ)) → AreChildNames one → AreChildNames other → path one ≡ path other → one ≡ other
one_path [] [] are also same = refl
one_path [] (name ∷ names) are also same = absurd (root_is_alone name names (sym same))
one_path (name ∷ names) [] are also same = absurd (root_is_alone name names same)
one_path (a ∷ one) (b ∷ other) are also same = names_of_same_text (a ∷ one) (b ∷ other) are also same

-- ---- reading the names of a path one by one

later_names : (names others : List (List ℕ)) → AreChildNames (names ++ others) → AreChildNames others
later_names [] others are = are
later_names (name ∷ names) others are = later_names names others are.1

more_names : (names : List (List ℕ)) (name : List ℕ) → AreChildNames names → IsChildNameOfBytes name → AreChildNames (names ++ name ∷ [])
more_names [] name are is = (is, tt)
more_names (first ∷ names) name are is = (are.0, more_names names name are.1 is)

pub names_of_more : (names : List (Vec ℕ Global)) (name : Vec ℕ Global) →
    names_of_path (names ++ name ∷ []) ≡ names_of_path names ++ name.items ∷ []
names_of_more [] name = refl
names_of_more (first ∷ names) name = ap (λ l. first.items ∷ l) (names_of_more names name)

pub count_of_names : (names : List (Vec ℕ Global)) → length (names_of_path names) ≡ length names
count_of_names [] = refl
count_of_names (name ∷ names) = let e = count_of_names names in omega (arith, e)

-- What is left of a text begins with a slash.
pub begins_of : (names : List (List ℕ)) (left : Option (Bor (List ℕ))) (rest : Bor (List ℕ)) (text : List ℕ) → left ≡ Some rest →
    flat_map slash_and_name names ++ from_byte 47 (option_map (λ rest. rest.now) left) ≡ 47 ∷ text →
    flat_map slash_and_name names ++ 47 ∷ rest.now ≡ 47 ∷ text
begins_of names left rest text is same =
    ap (λ left. flat_map slash_and_name names ++ from_byte 47 (option_map (λ rest. rest.now) left)) (sym is) ∙ same

module _ (text : List ℕ) (names : List (List ℕ)) (rest shown : List ℕ) (later : Option (List ℕ)) (is_path : IsNodePath names)
    (begins : flat_map slash_and_name names ++ 47 ∷ rest ≡ 47 ∷ text) (cut : IsCutAt 47 rest shown later) where
  others_of : (all : List (List ℕ)) → ArePathNamesIn text all → HasRest names all (47 ∷ rest)
  others_of all is = rest_of_names names all (47 ∷ rest) is_path.are_names is.is_path.are_names refl (is.are ∙ sym begins)

  next_of : (all : List (List ℕ)) (is : ArePathNamesIn text all) → HasNext (others_of all is).others shown (from_byte 47 later)
  next_of all is =
      let more = others_of all is in
      next_of_path more.others shown later (later_names names more.others (subst AreChildNames more.are is.is_path.are_names)) cut.first
      (more.rest ∙ ap (λ l. 47 ∷ l) cut.is)

  -- The next name is that of a child.
  pub no_child_word : ((name : List ℕ) → IsChildWord shown name → ⊥) → (all : List (List ℕ)) → ArePathNamesIn text all → ⊥
  no_child_word none all is =
      let more = others_of all is in
      let next = next_of all is in
      let are = later_names names more.others (subst AreChildNames more.are is.is_path.are_names) in
      none next.name (record { is_name = (subst AreChildNames next.are are).0; is = next.is })

  -- There are not too many.
  pub too_many : length names ≡ 63 → (all : List (List ℕ)) → ArePathNamesIn text all → ⊥
  too_many count all is =
      let more = others_of all is in
      let next = next_of all is in
      let e = ap length more.are in
      let f = ap length next.are in
      omega (arith, is.is_path.few, count, e, f, length-append names more.others)

  -- One more is read.
  pub path_grows : (name : List ℕ) → length names ≢ 63 → IsChildWord shown name →
      IsNodePath (names ++ name ∷ []) × (flat_map slash_and_name (names ++ name ∷ []) ++ from_byte 47 later ≡ 47 ∷ text)
  path_grows name fewer is = (
    record {
      are_names = more_names names name is_path.are_names is.is_name;
      few = omega (arith, is_path.few, fewer, length-append names (name ∷ []));
    },
    ap (λ l. l ++ from_byte 47 later) (names_with_one_more names name)
        ∙ append_assoc (flat_map slash_and_name names) (slash_and_name name) (from_byte 47 later)
        ∙ ap (λ l. flat_map slash_and_name names ++ (47 ∷ (l ++ from_byte 47 later))) is.is
        ∙ ap (λ l. flat_map slash_and_name names ++ 47 ∷ l) (sym cut.is) ∙ begins,
  )

  -- Less is left.
  pub less_left : length (from_byte 47 later) < length (47 ∷ rest)
  less_left = let e = ap length cut.is in omega (arith, e, length-append shown (from_byte 47 later))
