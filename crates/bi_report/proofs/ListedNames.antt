use Rattle.std.proofs.Common.{◌≡◌, true, ℕ, ◌+◌, List, [], ◌∷◌, Option, Some, None, option_and_then, slice_get, map, refl, ap, ◌∙◌}
use Rattle.std.specs.List.{ends_with}
use Rattle.std.specs.Prelude.{nat_eq}
use Rattle.std.proofs.lemmas.Option.{same_Some}
use Rattle.bi_fit.specs.Content.{ImageModel, index_of}
use Rattle.bi_fit.specs.Judgement.{ListedImage, Missing, ListedImages, listed_names, with_image}
use Rattle.bi_fit.specs.HashNodes.{file_list, file_listed_in, listed_payload}
use Rattle.bi_fit.proofs.FileLists.{payload_found, payload_named-missing}
use Rattle.bi_report.specs.Listed.{AreListedImages, missing_from, first_missing}

-- The first name of a list that no image has is the one that is missing, and a list without such a name lists images of all its names.

-- The first name that no image has is the one that is missing.
pub missing_is : (images : List ImageModel) (index missing : ℕ) (names : List (List ℕ)) → first_missing images index names ≡ Some missing →
    file_list images index names ≡ Missing missing
missing_is images index missing [] is = absurd cc
missing_is images index missing (name ∷ later) is = by_image (index_of name images) refl is
    (λ is. missing_is images (index + 1) missing later is)
  where
    by_image : (found : Option ℕ) → index_of name images ≡ found →
        missing_from index found (first_missing images (index + 1) later) ≡ Some missing →
        (first_missing images (index + 1) later ≡ Some missing → file_list images (index + 1) later ≡ Missing missing) →
        file_list images index (name ∷ later) ≡ Missing missing
    by_image None none is rest =
        ap (λ found. listed_payload index name found (file_list images (index + 1) later)) (payload_named-missing name images none)
        ∙ ap Missing (same_Some index missing is)
    by_image (Some image) some is rest =
        ap (λ found. listed_payload index name found (file_list images (index + 1) later)) (payload_found name images image some)
        ∙ ap (with_image (record { name = name; payload = option_and_then (λ other. other.payload) (slice_get images image) }))
        (rest is)

-- Images of these names are listed.
abbrev AreListed : List ImageModel → ℕ → List (List ℕ) → Type 0
AreListed images index names =
    (listed : List ListedImage) × (file_list images index names ≡ ListedImages listed)
    × (map (λ (image : ListedImage). image.name) listed ≡ names)

-- They are, if no name is missing.
names_found : (images : List ImageModel) (index : ℕ) (names : List (List ℕ)) → first_missing images index names ≡ None →
    AreListed images index names
names_found images index [] is = ([], refl, refl)
names_found images index (name ∷ later) is = by_image (index_of name images) refl is (λ is. names_found images (index + 1) later is)
  where
    by_image : (found : Option ℕ) → index_of name images ≡ found →
        missing_from index found (first_missing images (index + 1) later) ≡ None →
        (first_missing images (index + 1) later ≡ None → AreListed images (index + 1) later) → AreListed images index (name ∷ later)
    by_image None none is rest = absurd cc
    by_image (Some image) some is rest =
        let first : ListedImage = record { name = name; payload = option_and_then (λ other. other.payload) (slice_get images image) } in
        let (listed, found, named) = rest is in (
          first ∷ listed,
          ap (λ payload. listed_payload index name payload (file_list images (index + 1) later)) (payload_found name images image some)
              ∙ ap (with_image first) found,
          ap (λ names. name ∷ names) named,
        )

-- What the value of a key lists, if its last byte is zero: a name is missing,
pub listed_missing : (images : List ImageModel) (value : List ℕ) (index : ℕ) → ends_with nat_eq value (0 ∷ []) ≡ true →
    first_missing images 0 (listed_names value) ≡ Some index → file_listed_in images value ≡ Missing index
listed_missing images value index ends is = rw ends (missing_is images 0 index (listed_names value) is)

-- or images are listed.
pub listed_images : (images : List ImageModel) (value : List ℕ) → ends_with nat_eq value (0 ∷ []) ≡ true →
    first_missing images 0 (listed_names value) ≡ None → AreListedImages (file_listed_in images value) (listed_names value)
listed_images images value ends is =
    let (listed, found, named) = names_found images 0 (listed_names value) is in
    record { images = listed; is_listed = rw ends found; are_names = named }
