use Rattle.std.specs.Prelude.{◌≡◌, ◌≢◌, ℕ, List}
use Rattle.std.specs.List.{flat_map}
use Rattle.bi_base.specs.Cells.{AreBytes}
use Rattle.bi_common.specs.Shown.{shown_text, shown_byte}

-- Which name is printed as a text (profile of this project).

-- The text is how this name is printed, and how no other is.
pub record IsNameShownAs (text name : List ℕ) : Type 0 where
  pub bytes : AreBytes name
  pub is : shown_text name ≡ text
  pub only : (other : List ℕ) → shown_text other ≡ text → other ≡ name

-- The text is how no bytes are printed as a name.
abbrev pub IsShownOfNoBytes : List ℕ → Type 0
IsShownOfNoBytes text = (name : List ℕ) → AreBytes name → shown_text name ≢ text

-- The text is not how bytes are printed one by one.
abbrev pub IsNoShownBytes : List ℕ → Type 0
IsNoShownBytes text = (name : List ℕ) → AreBytes name → flat_map shown_byte name ≢ text
