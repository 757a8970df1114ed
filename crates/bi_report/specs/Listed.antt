use Rattle.std.specs.Prelude.{◌≡◌, ℕ, ◌+◌, List, [], ◌∷◌, Option, None, Some, map}
use Rattle.bi_fit.specs.Content.{ImageModel, index_of}
use Rattle.bi_fit.specs.Judgement.{ListResult, ListedImage, NoKey, BadList, Missing, ListedImages}
use Rattle.bi_fit.specs.Judgement.{listed_names}
use Rattle.bi_report.specs.declared.listed.KeyList.{KeyList}
use Rattle.bi_report.specs.declared.listed.KeyList.TheVariants as listed

-- What a configuration lists under a key, as the code has it.

-- These are the names of the images that are listed.
pub record AreListedImages (result : ListResult) (names : List (List ℕ)) : Type 0 where
  pub images : List ListedImage
  pub is_listed : result ≡ ListedImages images
  pub are_names : map (λ image. image.name) images ≡ names

-- The code has what is listed.
abbrev pub IsListed : ListResult → KeyList → Type 0
IsListed result listed.NoKey = result ≡ NoKey
IsListed result listed.BadList = result ≡ BadList
IsListed result (listed.Missing index) = result ≡ Missing index
IsListed result (listed.Images value) = AreListedImages result (listed_names value.now)

-- The index of a name that no image has, or else that of a later one. This is the index of the
-- image of the name.
abbrev pub missing_from : (index : ℕ) → Option ℕ → (later : Option ℕ) → Option ℕ
missing_from index None later = Some index
missing_from index (Some image) later = later

-- The index of the first of these names that no image has, if there is one. The first name has
-- this index.
abbrev pub first_missing : List ImageModel → (index : ℕ) → List (List ℕ) → Option ℕ
first_missing images index [] = None
first_missing images index (name ∷ later) =
    missing_from index (index_of name images) (first_missing images (index + 1) later)
