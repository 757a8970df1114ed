use Rattle.std.specs.Prelude.{◌≡◌, ◌≢◌, ◌⊎◌, ⊤, ℕ, ◌^◌, ◌<◌, ◌==◌, List, [], ◌∷◌, ◌++◌, codes}
use Rattle.std.specs.Prelude.{get_or, length, take}
use Rattle.std.specs.Fmt.{decimal}
use Rattle.std.specs.List.{AllByRecursion, AllZip, slice_split}
use Rattle.bi_fit.specs.Names.{images_name}
use Rattle.bi_common.specs.Shown.{path, shown_text}
use Rattle.bi_values.specs.ValueNames.{IsChildNameOfBytes, IsNodePath, IsPropertyNameOfBytes}
use Rattle.bi_describe.specs.Ignoring.{Ignored, IgnoredTime, IgnoredSignatures, IgnoredNode}
use Rattle.bi_describe.specs.Ignoring.{IgnoredProperty, IgnoredPart, NodePlace, PayloadPlace}
use Rattle.bi_describe.specs.Ignoring.{OfImageNamed, OfPart, TreePlace, Itself, Inside}

-- The words for what `compare` leaves out (profile of this project).

-- The path of a payload: that of the image node, or `part-` and the index of a part.
abbrev pub payload_path : PayloadPlace → List ℕ
payload_path (OfImageNamed name) = path (images_name ∷ name ∷ [])
payload_path (OfPart index) = codes "part-" ++ decimal index

-- The path of a node inside the payload with this path, by the names of the nodes on the way to it
-- in its tree: the path of the payload, a slash, and the path in its tree.
abbrev pub inside_path : (payload : List ℕ) → (names : List (List ℕ)) → List ℕ
inside_path payload names = payload ++ (codes "/" ++ path names)

-- The path of a node, by the names of the nodes on the way to it in its tree.
abbrev pub path_in : TreePlace → (names : List (List ℕ)) → List ℕ
path_in Itself names = path names
path_in (Inside payload) names = inside_path (payload_path payload) names

abbrev pub place_path : NodePlace → List ℕ
place_path place = path_in place.tree place.names

-- The text of a word.
abbrev pub ignored_text : Ignored → List ℕ
ignored_text IgnoredTime = codes "time"
ignored_text IgnoredSignatures = codes "signatures"
ignored_text (IgnoredNode place) = place_path place
ignored_text (IgnoredProperty place name) = place_path place ++ (codes " " ++ shown_text name)
ignored_text (IgnoredPart index) = payload_path (OfPart index)

-- A place where a payload can be.
abbrev pub IsPayloadPlace : PayloadPlace → Type 0
IsPayloadPlace (OfImageNamed name) = IsChildNameOfBytes name
IsPayloadPlace (OfPart index) = index < 2 ^ 64

abbrev pub IsTreePlace : TreePlace → Type 0
IsTreePlace Itself = ⊤
IsTreePlace (Inside payload) = IsPayloadPlace payload

-- A place where a node can be.
pub record IsNodePlace (place : NodePlace) : Type 0 where
  pub is_tree : IsTreePlace place.tree
  pub is_path : IsNodePath place.names

-- A word without a path.
abbrev pub IsPlain : Ignored → Type 0
IsPlain IgnoredTime = ⊤
IsPlain IgnoredSignatures = ⊤
IsPlain word = ⊥

-- A word with a path.
abbrev pub HasPath : Ignored → Type 0
HasPath (IgnoredNode place) = IsNodePlace place
HasPath (IgnoredProperty place name) = IsNodePlace place × IsPropertyNameOfBytes name
HasPath (IgnoredPart index) = index < 2 ^ 64
HasPath word = ⊥

-- The text is that of this word without a path.
pub record IsPlainWord (text : List ℕ) (word : Ignored) : Type 0 where
  pub is_plain : IsPlain word
  pub is : ignored_text word ≡ text

-- The text is that of no word without a path.
abbrev pub IsNoPlainWord : (text : List ℕ) → Type 0
IsNoPlainWord text = (word : Ignored) → ¬ (IsPlainWord text word)

-- These are words without a path, with a comma between each two.
abbrev pub ArePlainWords : (value : List ℕ) → List Ignored → Type 0
ArePlainWords value words = AllZip IsPlainWord (slice_split (λ byte. byte == 44) value) words

abbrev pub AreNoPlainWords : (value : List ℕ) → Type 0
AreNoPlainWords value = (words : List Ignored) → ¬ (ArePlainWords value words)

-- The text is that of this word with a path.
pub record IsWordWithPath (text : List ℕ) (word : Ignored) : Type 0 where
  pub has_path : HasPath word
  pub is : ignored_text word ≡ text

-- The text is that of no word with a path.
abbrev pub IsNoWordWithPath : (text : List ℕ) → Type 0
IsNoWordWithPath text = (word : Ignored) → ¬ (IsWordWithPath text word)

-- The value of an option is one word with a path, which may have commas.
pub record IsOneWord (value : List ℕ) (words : List Ignored) : Type 0 where
  pub word : Ignored
  pub is_word : IsWordWithPath value word
  pub are : words ≡ word ∷ []

-- The value of an option is for these words: words without a path, with a comma between each two,
-- or one word with a path.
abbrev pub AreWordsOfValue : (value : List ℕ) → List Ignored → Type 0
AreWordsOfValue value words = ArePlainWords value words ⊎ IsOneWord value words

-- It is for no words.
abbrev pub IsBadIgnoredValue : (value : List ℕ) → Type 0
IsBadIgnoredValue value = (words : List Ignored) → ¬ (AreWordsOfValue value words)

-- The words of the first of these values, and those of the others.
pub record AreFirstWords (value : List ℕ) (IsOfOthers : List Ignored → Type 0)
    (words : List Ignored) : Type 0
  where
    pub first : List Ignored
    pub others : List Ignored
    pub is_first : AreWordsOfValue value first
    pub is_other : IsOfOthers others
    pub are : words ≡ first ++ others

-- These values are for these words, in their order.
abbrev pub AreWordsOfValues : (values : List (List ℕ)) → List Ignored → Type 0
AreWordsOfValues [] words = words ≡ []
AreWordsOfValues (value ∷ later) words = AreFirstWords value (AreWordsOfValues later) words

-- The value with this index is the first of these that is for no words.
pub record IsFirstBadIgnored (values : List (List ℕ)) (index : ℕ) : Type 0 where
  pub within : index < length values
  pub before : List Ignored
  pub is_before : AreWordsOfValues (take index values) before
  pub is_bad : IsBadIgnoredValue (get_or values index [])
