use Rattle.std.specs.Prelude.{◌≡◌, ◌≢◌, ℕ, ◌^◌, ◌<◌, ◌==◌, ◌&&◌, ◌||◌, Bool, false, List, []}
use Rattle.std.specs.Prelude.{◌∷◌, ◌++◌}
use Rattle.std.specs.Fmt.{decimal}
use Rattle.bi_describe.specs.IgnoredWords.{IsNodePlace, IsPayloadPlace, payload_path, place_path}
use Rattle.bi_describe.specs.Ignoring.{NodePlace, OfPart, PayloadPlace}

-- What the words for what is ignored are made from.

-- The text is the path of this node.
pub record IsShownPlace (text : List ℕ) (place : NodePlace) : Type 0 where
  pub is_place : IsNodePlace place
  pub is : place_path place ≡ text

-- It is the path of no node.
abbrev pub IsNoPlace : (text : List ℕ) → Type 0
IsNoPlace text = (place : NodePlace) → IsNodePlace place → place_path place ≢ text

-- The text is the path of this payload.
pub record IsPayloadPath (text : List ℕ) (payload : PayloadPlace) : Type 0 where
  pub is_payload : IsPayloadPlace payload
  pub is : payload_path payload ≡ text

-- It is the path of no payload.
abbrev pub IsNoPayload : (text : List ℕ) → Type 0
IsNoPayload text = (payload : PayloadPlace) → IsPayloadPlace payload → payload_path payload ≢ text

-- The text is the path of the part with this index.
abbrev pub IsShownPart : (text : List ℕ) → (index : ℕ) → Type 0
IsShownPart text index = IsPayloadPath text (OfPart index)

-- It is the path of no part.
abbrev pub IsNoPart : (text : List ℕ) → Type 0
IsNoPart text = (index : ℕ) → index < 2 ^ 64 → payload_path (OfPart index) ≢ text

-- These are the decimal digits of this number.
pub record IsShownNumber (digits : List ℕ) (number : ℕ) : Type 0 where
  pub small : number < 2 ^ 64
  pub is : decimal number ≡ digits

-- They are those of no number.
abbrev pub IsNoNumber : (digits : List ℕ) → Type 0
IsNoNumber digits = (number : ℕ) → number < 2 ^ 64 → decimal number ≢ digits

-- The text has two slashes one after the other.
abbrev pub has_two_slashes : (text : List ℕ) → Bool
has_two_slashes [] = false
has_two_slashes (byte ∷ []) = false
has_two_slashes (byte ∷ next ∷ later) =
    (byte == 47 && next == 47) || has_two_slashes (next ∷ later)

-- The text consists of these two, the second of which begins with a slash, and a slash between
-- them. These are its first two slashes one after the other.
pub record IsSplit (text before after : List ℕ) : Type 0 where
  pub rest : List ℕ
  pub begins : after ≡ 47 ∷ rest
  pub is : text ≡ before ++ (47 ∷ after)
  pub first : has_two_slashes (before ++ 47 ∷ []) ≡ false
