use Rattle.std.proofs.Common.{◌≡◌, ℕ, zero, suc, ◌+◌, ◌<◌, ◌≤◌, List, [], ◌∷◌, ◌++◌, Option, None, Some, get_or, length, take, map, arith}
use Rattle.std.proofs.Common.{append_assoc, option_map, refl, sym, ap, subst, ◌∙◌}
use Rattle.std.specs.Prelude.{IfNone, IfSome}
use Rattle.std.specs.List.{AllByRecursion, AllZip}
use Rattle.std.proofs.lemmas.List.{map-append, take_more}
use Rattle.std.proofs.lemmas.Option.{slice_get-get_or}
use Rattle.bi_base.specs.declared.fault.Error.{Error}
use Rattle.bi_base.specs.declared.fault.Error.TheVariants as error
use Rattle.bi_base.specs.Limits.{Limits}
use Rattle.bi_fdt.specs.Content.{Blob}
use Rattle.bi_fit.specs.declared.image.Image.{Image}
use Rattle.bi_fit.specs.Content.{ImageModel, image_model, payloads_of_models}
use Rattle.bi_fit.proofs.Meanings.{same_in_some}
use Rattle.bi_describe.specs.declared.describe.inside.InsideTree.{InsideTree}
use Rattle.bi_describe.specs.declared.describe.insides.PayloadIndex.{PayloadIndex}
use Rattle.bi_describe.specs.Devicetrees.{HasInside}
use Rattle.bi_describe.specs.IgnoredWords.{payload_path}
use Rattle.bi_describe.specs.InsideTrees.{IsBlobInside, IsNamesError, devicetree_of, long_names}
use Rattle.bi_describe.specs.MadeInsides.{AreBlobsInside, HasBlob, HoldBlobs, HoldsBlob, IsBlobOrNone, long_names_in, place_at}

-- Lists of blobs that grow.

-- One more of each.
pub zip_more : {X Y : Type 0} (P : X → Y → Type 0) (xs : List X) (ys : List Y) (x : X) (y : Y) → AllZip P xs ys → P x y →
    AllZip P (xs ++ x ∷ []) (ys ++ y ∷ [])
zip_more P [] [] x y zip is = (is, tt)
zip_more P [] (other ∷ ys) x y zip is = absurd zip
zip_more P (first ∷ xs) [] x y zip is = absurd zip
zip_more P (first ∷ xs) (other ∷ ys) x y zip is = (zip.0, zip_more P xs ys x y zip.1 is)

pub held_more : (index : PayloadIndex) (first : ℕ) (blobs : List (Option Blob)) (trees : List (Option InsideTree)) (blob : Option Blob)
    (tree : Option InsideTree) → HoldBlobs index first blobs trees →
    HoldsBlob (payload_path (place_at index (first + length trees))) blob tree →
    HoldBlobs index first (blobs ++ blob ∷ []) (trees ++ tree ∷ [])
held_more index first [] [] blob tree held is =
    (subst (λ n. HoldsBlob (payload_path (place_at index n)) blob tree) (omega arith) is, tt)
held_more index first [] (other ∷ trees) blob tree held is = absurd held
held_more index first (other ∷ blobs) [] blob tree held is = absurd held
held_more index first (other ∷ blobs) (next ∷ trees) blob tree held is = (
  held.0,
  held_more index (first + 1) blobs trees blob tree held.1
      (subst (λ n. HoldsBlob (payload_path (place_at index n)) blob tree) (omega arith) is),
)

pub long_more : (blobs : List (Option Blob)) (blob : Option Blob) →
    long_names_in (blobs ++ blob ∷ []) ≡ long_names_in blobs + long_names (option_map devicetree_of blob)
long_more [] blob = omega arith
long_more (first ∷ blobs) blob = let rest = long_more blobs blob in omega (arith, rest)

-- The first of them have no more than all.
pub long_first : (count : ℕ) (blobs : List (Option Blob)) → long_names_in (take count blobs) ≤ long_names_in blobs
long_first zero blobs = omega arith
long_first (suc count) [] = omega arith
long_first (suc count) (blob ∷ blobs) = let rest = long_first count blobs in omega (arith, rest)

-- What holds of each holds of one.
pub each_at : {X : Type 0} (P : X → Type 0) (xs : List X) (index : ℕ) (x : X) → AllByRecursion P xs → index < length xs →
    P (get_or xs index x)
each_at P [] index x each within = absurd (omega (arith, within))
each_at P (first ∷ xs) zero x each within = each.0
each_at P (first ∷ xs) (suc index) x each within = each_at P xs index x each.1 (omega (arith, within))

-- Each blob that was found is that of its file.
pub blobs_or_none : (limits : Limits) (payloads : List (Option (List ℕ))) (blobs : List (Option Blob)) →
    AreBlobsInside limits payloads blobs → AllByRecursion (IsBlobOrNone limits) blobs
blobs_or_none limits [] [] are = tt
blobs_or_none limits [] (blob ∷ blobs) are = absurd are
blobs_or_none limits (payload ∷ payloads) [] are = absurd are
blobs_or_none limits (payload ∷ payloads) (blob ∷ blobs) are = (one payload blob are.0, blobs_or_none limits payloads blobs are.1)
  where
    one : (payload : Option (List ℕ)) (blob : Option Blob) → HasBlob limits payload blob → IsBlobOrNone limits blob
    one payload None is = tt
    one None (Some blob) is = absurd is
    one (Some payload) (Some blob) is = subst (λ file. IsBlobInside limits file blob) (sym is.is_file) is

-- One more image.
pub image_more : (limits : Limits) (images : List Image) (index : ℕ) (image : Image) (blobs : List (Option Blob)) (blob : Option Blob) →
    image ≡ get_or images index image → index < length images →
    AreBlobsInside limits (payloads_of_models (map image_model (take index images))) blobs →
    HasBlob limits (image_model image).payload blob →
    AreBlobsInside limits (payloads_of_models (map image_model (take (index + 1) images))) (blobs ++ blob ∷ [])
image_more limits images index image blobs blob is within are has =
    let first = take index images in
    subst (λ payloads. AreBlobsInside limits payloads (blobs ++ blob ∷ []))
    (sym (ap (λ images. payloads_of_models (map image_model images))
    (take_more images index image within ∙ ap (λ item. first ++ item ∷ []) (sym is))
    ∙ ap payloads_of_models (map-append image_model first (image ∷ []))
    ∙ map-append (λ (image : ImageModel). image.payload) (map image_model first) (image_model image ∷ [])))
    (zip_more (HasBlob limits) (payloads_of_models (map image_model first)) blobs (image_model image).payload blob are has)

pub image_next : (limits : Limits) (images : List Image) (index : ℕ) (default : Image) (blobs : List (Option Blob)) (blob : Option Blob) →
    index < length images → AreBlobsInside limits (payloads_of_models (map image_model (take index images))) blobs →
    HasBlob limits (image_model (get_or images index default)).payload blob →
    AreBlobsInside limits (payloads_of_models (map image_model (take (index + 1) images))) (blobs ++ blob ∷ [])
image_next limits images index default blobs blob within are has =
    let image = get_or images index default in
    image_more limits images index image blobs blob
    (same_in_some image (get_or images index image)
    (sym (slice_get-get_or images index default within) ∙ slice_get-get_or images index image within)) within are has

-- One more part.
pub part_more : (limits : Limits) (all rest : List (Option (List ℕ))) (payload : List ℕ) (blobs : List (Option Blob)) (blob : Option Blob) →
    HasBlob limits (Some payload) blob →
    ((later : List (Option Blob)) → AreBlobsInside limits (Some payload ∷ rest) later → AreBlobsInside limits all (blobs ++ later)) →
    (later : List (Option Blob)) → AreBlobsInside limits rest later → AreBlobsInside limits all ((blobs ++ blob ∷ []) ++ later)
part_more limits all rest payload blobs blob has before later are =
    subst (AreBlobsInside limits all) (sym (append_assoc blobs (blob ∷ []) later)) (before (blob ∷ later) (has, are))

-- A payload's blob, as it was read.
pub has_blob : (limits : Limits) (payload : List ℕ) (blob : Option Blob) → IfSome blob (IsBlobInside limits payload) →
    IfNone blob (HasInside limits payload None) → HasBlob limits (Some payload) blob
has_blob limits payload None some none = none
has_blob limits payload (Some blob) some none = some

-- The error of counting the long names of one more blob, if there is room for those before it.
pub names_error_more : (limit room : ℕ) (blobs : List (Option Blob)) (index : ℕ) (blob : Option Blob) (e : Error) →
    index < length blobs → blob ≡ get_or blobs index blob → limit ≤ room + long_names_in (take index blobs) →
    IsNamesError limit room (long_names (option_map devicetree_of blob)) e → IsNamesError limit limit (long_names_in blobs) e
names_error_more limit room blobs index blob (error.Refused fault) within is left failed =
    let first = take index blobs in
    let next = ap long_names_in (take_more blobs index blob within ∙ ap (λ item. first ++ item ∷ []) (sym is)) in
    (failed.0, omega (arith, left, failed.1, next, long_more first blob, long_first (index + 1) blobs))
names_error_more limit room blobs index blob error.OutOfMemory within is left failed = tt
names_error_more limit room blobs index blob error.ReadFailed within is left failed = absurd failed
names_error_more limit room blobs index blob error.WriteFailed within is left failed = absurd failed
