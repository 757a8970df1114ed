use Rattle.std.proofs.Common.{◌≡◌, ◌≢◌, ◌<◌, ◌≤◌, ◌+◌, ◌-◌, ℕ, Bool, true, false, List, [], ◌∷◌, ◌++◌, Option, None, Some, codes, drop}
use Rattle.std.proofs.Common.{take, flat_map}
use Rattle.std.proofs.Common.{get_or, length, refl, sym, ap, subst, ◌∙◌, append_assoc, append-nil, arith, true≢false, inl, inr, suc, zero}
use Rattle.std.proofs.Common.{add-one, take-append-drop, length-drop}
use Rattle.std.specs.Prelude.{◌==◌, ◌&&◌, ◌||◌}
use Rattle.std.specs.Fmt.{decimal}
use Rattle.std.specs.List.{AllByRecursion, position, position_or_len}
use Rattle.std.proofs.lemmas.Bool.{and_parts, eqb-false, eqb-true, ne_eqb}
use Rattle.std.proofs.lemmas.Grind.{common_steps}
use Rattle.std.proofs.lemmas.List.{drop_more, take_all, take_more}
use Rattle.std.proofs.lemmas.List.Quantifiers.{position-Some}
use Rattle.std.proofs.lemmas.List.Sums.{fails_before_first}
use Rattle.std.proofs.Math.Seq.{take-length}
use Rattle.bi_fit.specs.Names.{images_name}
use Rattle.bi_common.specs.Shown.{path, shown_text}
use Rattle.bi_common.proofs.ReadableWords.Cuts.{Ends, HasNoEnd, begin_apart, cut_agrees, first_same, later_same, goes_on-append}
use Rattle.bi_common.proofs.ReadableWords.Numbers.{IsAbove, decimal_above}
use Rattle.bi_common.proofs.ReadableWords.ShownNames.{is_blank, is_slash, shown_no_blank, shown_no_slash, some_shown}
use Rattle.bi_values.specs.ValueNames.{IsChildNameOfBytes, IsNodePath, IsPropertyNameOfBytes}
use Rattle.bi_values.specs.NameWords.{IsNoChildName, IsNoPath, IsNoPropertyName, IsPathWord, IsShownChildName, IsShownPropertyName}
use Rattle.bi_values.specs.NameWords.{steps_text}
use Rattle.bi_values.proofs.Steps.{path_begins}
use Rattle.bi_describe.specs.IgnoredWords.{HasPath, IsNodePlace, IsNoWordWithPath, IsPayloadPlace, IsTreePlace, IsWordWithPath}
use Rattle.bi_describe.specs.IgnoredWords.{ignored_text}
use Rattle.bi_describe.specs.IgnoredWords.{path_in, payload_path, place_path}
use Rattle.bi_describe.specs.Ignoring.{Ignored, IgnoredTime, IgnoredSignatures, IgnoredNode, IgnoredProperty, IgnoredPart, NodePlace}
use Rattle.bi_describe.specs.Ignoring.{OfImageNamed, OfPart, PayloadPlace, TreePlace, Itself, Inside}
use Rattle.bi_describe.specs.WordParts.{IsNoPart, IsNoPayload, IsNoPlace, IsShownPart, IsPayloadPath, IsShownPlace, IsSplit}
use Rattle.bi_describe.specs.WordParts.{has_two_slashes}

-- The texts of words with a path are read back from their parts.

-- ---- slashes

-- Bytes none of which is a slash.
abbrev NoSlash : List ℕ → Type 0
NoSlash bytes = HasNoEnd is_slash bytes

-- Such bytes have no two slashes one after the other, and none with what follows them.
no_two : (bytes rest : List ℕ) → NoSlash bytes → bytes ≢ [] → has_two_slashes (bytes ++ rest) ≡ has_two_slashes rest
no_two [] rest plain some = absurd (some refl)
no_two (byte ∷ []) [] plain some = refl
no_two (byte ∷ []) (next ∷ later) plain some = rw (plain.0) refl
no_two (byte ∷ next ∷ later) rest plain some = rw (plain.0) (no_two (next ∷ later) rest plain.1 (λ e. absurd cc))

-- The same after a slash.
after_slash : (bytes rest : List ℕ) → NoSlash bytes → bytes ≢ [] → has_two_slashes (47 ∷ (bytes ++ rest)) ≡ has_two_slashes rest
after_slash [] rest plain some = absurd (some refl)
after_slash (byte ∷ later) rest plain some = rw (plain.0) (no_two (byte ∷ later) rest plain some)

-- Two slashes are there, whatever is around them.
pub two_there : (before rest : List ℕ) → has_two_slashes (before ++ (47 ∷ 47 ∷ rest)) ≡ true
two_there [] rest = refl
two_there (byte ∷ []) rest = by (byte == 47)
  where
    by : (b : Bool) → ((b && true) || true) ≡ true
    by true = refl
    by false = refl
two_there (byte ∷ next ∷ later) rest = by (byte == 47 && next == 47) (two_there (next ∷ later) rest)
  where
    by : (b : Bool) {c : Bool} → c ≡ true → (b || c) ≡ true
    by true is = refl
    by false is = is

-- Without its first byte a text has no more of them.
none_later : (byte : ℕ) (later : List ℕ) → has_two_slashes (byte ∷ later) ≡ false → has_two_slashes later ≡ false
none_later byte [] none = refl
none_later byte (next ∷ later) none = by (byte == 47 && next == 47) none
  where
    by : (b : Bool) {c : Bool} → (b || c) ≡ false → c ≡ false
    by true is = absurd (true≢false is)
    by false is = is

-- A text that begins with two has some.
begins_with_two : (before rest : List ℕ) (byte : ℕ) (later others : List ℕ) →
    47 ∷ (47 ∷ rest) ≡ byte ∷ (later ++ (47 ∷ 47 ∷ others)) → has_two_slashes (byte ∷ (later ++ 47 ∷ [])) ≡ true
begins_with_two before rest byte [] others same = rw (sym (first_same same)) refl
begins_with_two before rest byte (next ∷ later) others same =
    rw (sym (first_same same), sym (first_same (later_same same))) refl

-- The first two slashes of a text are read back.
pub split_same : (one other x y : List ℕ) → has_two_slashes (one ++ 47 ∷ []) ≡ false → has_two_slashes (other ++ 47 ∷ []) ≡ false →
    one ++ (47 ∷ 47 ∷ x) ≡ other ++ (47 ∷ 47 ∷ y) → (one ≡ other) × (x ≡ y)
split_same [] [] x y none also same = (refl, later_same (later_same same))
split_same [] (byte ∷ other) x y none also same =
    absurd (true≢false (sym (begins_with_two [] x byte other y same) ∙ also))
split_same (byte ∷ one) [] x y none also same =
    absurd (true≢false (sym (begins_with_two [] y byte one x (sym same)) ∙ none))
split_same (byte ∷ one) (next ∷ other) x y none also same =
    let rest = split_same one other x y (none_later byte (one ++ 47 ∷ []) none) (none_later next (other ++ 47 ∷ []) also)
    (later_same same) in
    let first : byte ≡ next = first_same same in
    let later : one ≡ other = rest.0 in
    (cc, rest.1)

-- One byte has no two.
pub no_two_at_first : (text : List ℕ) → has_two_slashes (take 1 text) ≡ false
no_two_at_first [] = refl
no_two_at_first (byte ∷ later) = refl

-- A text that has none up to a byte has none up to the next one, unless both are slashes.
two_more : (text : List ℕ) (end : ℕ) → suc end < length text → (get_or text end 0 == 47 && get_or text (suc end) 0 == 47) ≡ false →
    has_two_slashes (take (suc end) text) ≡ false → has_two_slashes (take (suc (suc end)) text) ≡ false
two_more [] end within differ none = refl
two_more (byte ∷ []) end within differ none = absurd (omega (arith, within))
two_more (byte ∷ next ∷ later) zero within differ none = rw differ refl
two_more (byte ∷ next ∷ later) (suc end) within differ none =
    by (byte == 47 && next == 47) none (two_more (next ∷ later) end (omega (arith, within)) differ)
  where
    by : (b : Bool) → (b || has_two_slashes (next ∷ take end later)) ≡ false →
        (has_two_slashes (next ∷ take end later) ≡ false → has_two_slashes (take (suc (suc end)) (next ∷ later)) ≡ false) →
        (b || has_two_slashes (take (suc (suc end)) (next ∷ later))) ≡ false
    by true is goes_on = absurd (true≢false is)
    by false is goes_on = goes_on is

pub no_two_more : (text : List ℕ) (end : ℕ) → end + 1 < length text → (get_or text end 0 == 47 && get_or text (end + 1) 0 == 47) ≡ false →
    has_two_slashes (take (end + 1) text) ≡ false → has_two_slashes (take (end + 1 + 1) text) ≡ false
no_two_more text end within differ none =
    let one : end + 1 ≡ suc end = add-one end in
    let two : end + 1 + 1 ≡ suc (suc end) = omega arith in
    subst (λ n. has_two_slashes (take n text) ≡ false) (sym two)
    (two_more text end (omega (arith, within)) (subst (λ n. (get_or text end 0 == 47 && get_or text n 0 == 47) ≡ false) one differ)
    (subst (λ n. has_two_slashes (take n text) ≡ false) one none))

-- Where both are, the text is split.
both_slashes : (one other : ℕ) → (one == 47 && other == 47) ≡ true → (one ≡ 47) × (other ≡ 47)
both_slashes one other is =
    let both = and_parts (one == 47) (other == 47) is in
    (eqb-true one 47 both.0, eqb-true other 47 both.1)

pub split_here : (text : List ℕ) (end : ℕ) → end + 1 < length text → (get_or text end 0 == 47 && get_or text (end + 1) 0 == 47) ≡ true →
    has_two_slashes (take (end + 1) text) ≡ false →
    IsSplit text (take end text) (take (length text - (end + 1)) (drop (end + 1) text))
split_here text end within is none =
    let slashes = both_slashes (get_or text end 0) (get_or text (end + 1) 0) is in
    let all : take (length text - (end + 1)) (drop (end + 1) text) ≡ drop (end + 1) text =
    take_all (length text - (end + 1)) (drop (end + 1) text) (omega (arith, length-drop (end + 1) text)) in
    let first : drop end text ≡ 47 ∷ drop (end + 1) text =
    drop_more text end 0 (omega (arith, within)) ∙ ap (λ byte. byte ∷ drop (end + 1) text) slashes.0 in
    let second : drop (end + 1) text ≡ 47 ∷ drop (end + 1 + 1) text =
    drop_more text (end + 1) 0 within ∙ ap (λ byte. byte ∷ drop (end + 1 + 1) text) slashes.1 in
    let up_to : take (end + 1) text ≡ take end text ++ 47 ∷ [] =
    take_more text end 0 (omega (arith, within)) ∙ ap (λ byte. take end text ++ byte ∷ []) slashes.0 in
    record {
      rest = drop (end + 1 + 1) text;
      begins = all ∙ second;
      is = sym (take-append-drop end text) ∙ ap (λ later. take end text ++ later) (first ∙ ap (λ later. 47 ∷ later) (sym all));
      first = sym (ap has_two_slashes up_to) ∙ none;
    }

-- ---- paths

above_no_slash : (word : List ℕ) → IsAbove word → NoSlash word
above_no_slash [] are = tt
above_no_slash (byte ∷ later) are = (ne_eqb byte 47 (let high = are.0 in λ e. omega (arith, e, high)), above_no_slash later are.1)

-- The path of a node has no two slashes one after the other,
steps_no_two : (names : List (List ℕ)) → AllByRecursion IsChildNameOfBytes names → has_two_slashes (steps_text names) ≡ false
steps_no_two [] are = refl
steps_no_two (name ∷ later) are =
    after_slash (shown_text name) (steps_text later) (shown_no_slash name are.0.is_name.no_slash) (some_shown name)
    ∙ steps_no_two later are.1

pub names_no_two : (names : List (List ℕ)) → AllByRecursion IsChildNameOfBytes names → has_two_slashes (path names) ≡ false
names_no_two [] are = refl
names_no_two (name ∷ names) are = steps_no_two (name ∷ names) are

path_no_two : (names : List (List ℕ)) → IsNodePath names → has_two_slashes (path names) ≡ false
path_no_two names is = names_no_two names is.are_names

-- and neither has that of a payload with a slash after it.
payload_no_two : (payload : PayloadPlace) → IsPayloadPlace payload → has_two_slashes (payload_path payload ++ 47 ∷ []) ≡ false
payload_no_two (OfImageNamed name) is =
    ap (λ later. has_two_slashes (codes "/images/" ++ later)) (append_assoc (shown_text name) [] (47 ∷ []))
    ∙ after_slash (shown_text name) (47 ∷ []) (shown_no_slash name is.is_name.no_slash) (some_shown name)
payload_no_two (OfPart index) small =
    no_two (codes "part-" ++ decimal index) (47 ∷ [])
    (goes_on-append is_slash (codes "part-") (decimal index) (refl, (refl, (refl, (refl, (refl, tt)))))
    (above_no_slash (decimal index) (decimal_above index))) (λ e. absurd cc)

-- A text without two slashes that is the path of no names is that of no node.
pub no_own_place : (text : List ℕ) → has_two_slashes text ≡ false → IsNoPath text → IsNoPlace text
no_own_place text none no_path place is same = by place.tree place.names is.is_path same
  where
    by : (tree : TreePlace) (names : List (List ℕ)) → IsNodePath names → path_in tree names ≡ text → ⊥
    by Itself names is_path same = no_path names is_path same
    by (Inside payload) names is_path same =
        let begins = path_begins names in
        true≢false (sym (two_there (payload_path payload) begins.0)
        ∙ ap (λ names. has_two_slashes (payload_path payload ++ (47 ∷ names))) (sym begins.1)
        ∙ ap has_two_slashes same ∙ none)

-- A text with two slashes has a place only if what is before them is a payload,
inner_place : (payload path_text : List ℕ) → IsSplit (payload ++ (47 ∷ path_text)) payload path_text → (tree : TreePlace)
    (names : List (List ℕ)) → IsTreePlace tree → IsNodePath names → path_in tree names ≡ payload ++ (47 ∷ path_text) →
    (place : PayloadPlace) × (IsPayloadPlace place × ((payload_path place ≡ payload) × (path names ≡ path_text)))
inner_place payload path_text split Itself names is_tree is_path same =
    absurd (true≢false (sym (two_there payload split.rest) ∙ ap (λ later. has_two_slashes (payload ++ (47 ∷ later))) (sym split.begins)
    ∙ ap has_two_slashes (sym same) ∙ path_no_two names is_path))
inner_place payload path_text split (Inside place) names is_tree is_path same =
    let begins = path_begins names in
    let parts = split_same (payload_path place) payload begins.0 split.rest (payload_no_two place is_tree) split.first
    (ap (λ later. payload_path place ++ (47 ∷ later)) (sym begins.1) ∙ same ∙ ap (λ later. payload ++ (47 ∷ later)) split.begins) in
    (place, (is_tree, (parts.0, begins.1 ∙ ap (λ later. 47 ∷ later) parts.1 ∙ sym split.begins)))

pub no_inner_payload : (payload path_text : List ℕ) → IsSplit (payload ++ (47 ∷ path_text)) payload path_text → IsNoPayload payload →
    IsNoPlace (payload ++ (47 ∷ path_text))
no_inner_payload payload path_text split none place is same =
    let found = inner_place payload path_text split place.tree place.names is.is_tree is.is_path same in
    none found.0 found.1.0 found.1.1.0

-- and what follows is a path.
pub no_inner_path : (payload path_text : List ℕ) → IsSplit (payload ++ (47 ∷ path_text)) payload path_text → IsNoPath path_text →
    IsNoPlace (payload ++ (47 ∷ path_text))
no_inner_path payload path_text split none place is same =
    let found = inner_place payload path_text split place.tree place.names is.is_tree is.is_path same in
    none place.names is.is_path found.1.1.1

-- ---- payloads

-- The path of the payload of an image.
pub path_of_payload : (name text : List ℕ) → shown_text name ≡ text → payload_path (OfImageNamed name) ≡ codes "/images/" ++ text
path_of_payload name text is = ap (λ shown. codes "/images/" ++ shown) (append-nil (shown_text name) ∙ is)

-- A text of another beginning is that of no image, and of no part.
pub no_payload : (text : List ℕ) → IsNoPart text →
    ((name : List ℕ) → IsChildNameOfBytes name → codes "/images/" ++ shown_text name ≢ text) → IsNoPayload text
no_payload text no_part no_image (OfPart index) small same = no_part index small same
no_payload text no_part no_image (OfImageNamed name) is same = no_image name is (sym (path_of_payload name (shown_text name) refl) ∙ same)

-- ---- blanks

-- Bytes none of which is a space.
abbrev pub HasNoSpace : List ℕ → Type 0
HasNoSpace bytes = AllByRecursion (λ byte. byte ≢ 32) bytes

-- A text up to its first space, and all of a text without one.
before_space : (bytes : List ℕ) (end : ℕ) → ((k : ℕ) → k < end → (get_or bytes k 0 == 32) ≡ false) → HasNoSpace (take end bytes)
before_space [] zero others = tt
before_space [] (suc end) others = tt
before_space (byte ∷ later) zero others = tt
before_space (byte ∷ later) (suc end) others =
    (eqb-false byte 32 (others 0 (omega arith)), before_space later end (λ k before. others (suc k) (omega (arith, before))))

at_space : (bytes : List ℕ) (end : ℕ) → end < length bytes → (get_or bytes end 0 == 32) ≡ true → drop end bytes ≡ 32 ∷ drop (suc end) bytes
at_space [] end within is = absurd (omega (arith, within))
at_space (byte ∷ later) zero within is = ap (λ first. first ∷ later) (eqb-true byte 32 is)
at_space (byte ∷ later) (suc end) within is = at_space later end (omega (arith, within)) is

pub no_space_before : (text : List ℕ) (end : ℕ) → position (λ byte. byte == 32) text ≡ Some end → HasNoSpace (take end text)
no_space_before text end is = before_space text end (position-Some (λ byte. byte == 32) text end 0 is).2

pub joined_at_space : (text : List ℕ) (end : ℕ) → position (λ byte. byte == 32) text ≡ Some end →
    take end text ++ (32 ∷ take (length text - (end + 1)) (drop (end + 1) text)) ≡ text
joined_at_space text end is =
    let found = position-Some (λ byte. byte == 32) text end 0 is in
    let all : take (length text - (end + 1)) (drop (end + 1) text) ≡ drop (end + 1) text =
    take_all (length text - (end + 1)) (drop (end + 1) text) (omega (arith, length-drop (end + 1) text)) in
    ap (λ later. take end text ++ (32 ∷ later)) all
    ∙ rw add-one (ap (λ later. take end text ++ later) (sym (at_space text end found.0 found.1)) ∙ take-append-drop end text)

pub none_at_all : (text : List ℕ) → position (λ byte. byte == 32) text ≡ None → HasNoSpace text
none_at_all text is =
    let past : length text ≤ position_or_len (λ byte. byte == 32) text = grind (arith, common_steps) in
    subst HasNoSpace (take-length text)
    (before_space text (length text) (λ k before. fails_before_first (λ byte. byte == 32) text k 0 (omega (arith, past, before))))

-- Nothing before a space is one in the text of a place.
abbrev is_space : ℕ → Bool
is_space byte = byte == 32

no_blank_no_space : (bytes : List ℕ) → HasNoEnd is_blank bytes → HasNoEnd is_space bytes
no_blank_no_space [] none = tt
no_blank_no_space (byte ∷ later) none = (by (byte == 32) refl, no_blank_no_space later none.1)
  where
    by : (b : Bool) → (byte == 32) ≡ b → (byte == 32) ≡ false
    by true is = absurd (true≢false (sym (rw (eqb-true byte 32 is) refl) ∙ none.0))
    by false is = is

above_no_space : (word : List ℕ) → IsAbove word → HasNoEnd is_space word
above_no_space [] are = tt
above_no_space (byte ∷ later) are = (ne_eqb byte 32 (let high = are.0 in λ e. omega (arith, e, high)), above_no_space later are.1)

plain_no_space : (bytes : List ℕ) → HasNoSpace bytes → HasNoEnd is_space bytes
plain_no_space [] none = tt
plain_no_space (byte ∷ later) none = (ne_eqb byte 32 none.0, plain_no_space later none.1)

steps_no_space : (names : List (List ℕ)) → HasNoEnd is_space (steps_text names)
steps_no_space [] = tt
steps_no_space (name ∷ later) = (
  refl,
  goes_on-append is_space (shown_text name) (steps_text later) (no_blank_no_space (shown_text name) (shown_no_blank name))
      (steps_no_space later),
)

path_no_space : (names : List (List ℕ)) → HasNoEnd is_space (path names)
path_no_space [] = (refl, tt)
path_no_space (name ∷ names) = steps_no_space (name ∷ names)

payload_no_space : (payload : PayloadPlace) → HasNoEnd is_space (payload_path payload)
payload_no_space (OfImageNamed name) = path_no_space (images_name ∷ name ∷ [])
payload_no_space (OfPart index) =
    goes_on-append is_space (codes "part-") (decimal index) (refl, (refl, (refl, (refl, (refl, tt)))))
    (above_no_space (decimal index) (decimal_above index))

place_no_space : (tree : TreePlace) (names : List (List ℕ)) → HasNoEnd is_space (path_in tree names)
place_no_space Itself names = path_no_space names
place_no_space (Inside payload) names =
    goes_on-append is_space (payload_path payload) (47 ∷ path names) (payload_no_space payload) (refl, path_no_space names)

-- A text with a space has one.
space_there : (before rest : List ℕ) → HasNoSpace (before ++ (32 ∷ rest)) → ⊥
space_there [] rest none = none.0 refl
space_there (byte ∷ later) rest none = space_there later rest none.1

-- ---- words

-- Bytes without a space are not a text with a space between two others.
no_end_there : (bytes : List ℕ) → HasNoEnd is_space bytes → (before rest : List ℕ) → bytes ≡ before ++ (32 ∷ rest) → ⊥
no_end_there [] plain [] rest same = absurd cc
no_end_there [] plain (byte ∷ before) rest same = absurd cc
no_end_there (byte ∷ later) plain [] rest same = true≢false (sym (ap is_space (first_same same)) ∙ plain.0)
no_end_there (byte ∷ later) plain (other ∷ before) rest same = no_end_there later plain.1 before rest (later_same same)

-- A text without a space is a word only if it is a part or a place.
pub no_node_word : (text : List ℕ) → HasNoSpace text → IsNoPart text → IsNoPlace text → IsNoWordWithPath text
no_node_word text none no_part no_place word is = by word is.has_path is.is
  where
    by : (word : Ignored) → HasPath word → ignored_text word ≡ text → ⊥
    by IgnoredTime has same = has
    by IgnoredSignatures has same = has
    by (IgnoredNode place) has same = no_place place has same
    by (IgnoredProperty place name) has same =
        space_there (place_path place) (shown_text name) (subst HasNoSpace (sym same) none)
    by (IgnoredPart index) has same = no_part index has same

-- A text with a space is that of a property.
property_parts : (path_text name : List ℕ) → HasNoSpace path_text → (word : Ignored) → HasPath word →
    ignored_text word ≡ path_text ++ (32 ∷ name) →
    (place : NodePlace) × ((property : List ℕ) × ((IsNodePlace place × IsPropertyNameOfBytes property)
    × ((place_path place ≡ path_text) × (shown_text property ≡ name))))
property_parts path_text name none IgnoredTime has same = absurd has
property_parts path_text name none IgnoredSignatures has same = absurd has
property_parts path_text name none (IgnoredNode place) has same =
    absurd (no_end_there (place_path place) (place_no_space place.tree place.names) path_text name same)
property_parts path_text name none (IgnoredProperty place property) has same =
    let parts = cut_agrees is_space (place_path place) path_text (32 ∷ shown_text property) (32 ∷ name)
    (place_no_space place.tree place.names) (plain_no_space path_text none) refl refl same in
    (place, (property, (has, (parts.0, later_same parts.1))))
property_parts path_text name none (IgnoredPart index) has same =
    absurd (no_end_there (payload_path (OfPart index)) (payload_no_space (OfPart index)) path_text name same)

pub no_property_place : (path_text name : List ℕ) → HasNoSpace path_text → IsNoPlace path_text →
    IsNoWordWithPath (path_text ++ (32 ∷ name))
no_property_place path_text name none no_place word is =
    let parts = property_parts path_text name none word is.has_path is.is in
    no_place parts.0 parts.1.1.0.0 parts.1.1.1.0

pub no_property_name : (path_text name : List ℕ) → HasNoSpace path_text → IsNoPropertyName name →
    IsNoWordWithPath (path_text ++ (32 ∷ name))
no_property_name path_text name none no_name word is =
    let parts = property_parts path_text name none word is.has_path is.is in
    no_name parts.1.0 parts.1.1.0.1 parts.1.1.1.1
