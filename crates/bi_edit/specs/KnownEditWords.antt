use Rattle.std.specs.Prelude.{ℕ, List, [], ◌∷◌, ◌++◌, codes}
use Rattle.bi_edit.specs.declared.edit.Edit.TheVariants.{RemoveNode, RemoveProperty}
use Rattle.bi_edit.specs.EditWords.{IsChildWord, IsPathWord, IsPayloadWord, IsPropertyWord}
use Rattle.bi_edit.specs.EditWords.{IsRemovalWord, IsSettingWord, IsValueText}
use Rattle.bi_edit.specs.Places.{PropertyPlaceModel, image_path}

-- Words for edits, by which a reader can judge the definitions.

-- The property `load` of the image `a`.
abbrev pub load_place : PropertyPlaceModel
load_place = record { path = image_path (codes "a"); name = codes "load" }

-- Words, and what they are for. A name is given as it is printed, so the space in it is `%20`.
pub record EditWordsAreKnown : Type 0 where
  pub root : IsPathWord (codes "/") []
  pub image : IsPathWord (codes "/images/a") (image_path (codes "a"))
  pub child : IsChildWord (codes "a%20b") (codes "a b")
  pub property : IsPropertyWord (codes "a%20b") (codes "a b")
  pub digits : IsValueText (codes "0x0A") (10 ∷ [])
  pub printed : IsValueText (codes "\"a\" \"b\"") (codes "a" ++ (0 ∷ codes "b") ++ (0 ∷ []))
  pub node_removal : IsRemovalWord (codes "/images/a") (RemoveNode (image_path (codes "a")))
  pub property_removal : IsRemovalWord (codes "/images/a load") (RemoveProperty load_place)
  pub setting : IsSettingWord (codes "/images/a load 0x0a") load_place (10 ∷ [])
  pub empty_value : IsSettingWord (codes "/images/a load") load_place []

-- A path does not end with a slash, and a value is not an odd number of digits.
pub record OtherEditWordsAreKnown : Type 0 where
  pub no_slash : (names : List (List ℕ)) → IsPathWord [] names → ⊥
  pub payload : (file : List ℕ) → IsPayloadWord (codes "a=@") (codes "a") file → ⊥
