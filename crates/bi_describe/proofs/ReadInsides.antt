use Rattle.std.proofs.Common.{◌≡◌, ◌⊎◌, ℕ, zero, suc, ◌+◌, Bool, true, false, List, [], ◌∷◌, Contains, Option, None, Some, inl, inr, map}
use Rattle.std.proofs.Common.{option_map, bytes_eq, arith, refl, sym, ap, subst, ◌∙◌, true≢false}
use Rattle.std.specs.Prelude.{⊤, slice_get}
use Rattle.std.specs.List.{AllZip}
use Rattle.std.proofs.lemmas.Slice.Eq.{bytes_eq-Decides}
use Rattle.bi_base.specs.Limits.{Limits}
use Rattle.bi_base.proofs.ListMembers.{Contains-cases, Contains-first, Contains-none, Contains-others}
use Rattle.bi_blob.specs.Lookups.{Sibling, siblings}
use Rattle.bi_blob.specs.Tree.{AreDistinct, FileNode, IsNew, Nodes, PropertyMap, names, node, none}
use Rattle.bi_fdt.specs.Content.{Blob, root_of}
use Rattle.bi_fit.specs.Content.{FitModel, ImageModel, IsHeld, IsReadImage, index_from, index_of, tree_of}
use Rattle.bi_fit.specs.HashNodes.{file_images}
use Rattle.bi_fit.specs.ImageTree.{ArePropertiesByName, image_nodes, nodes_or_none}
use Rattle.bi_fit.specs.Names.{images_name}
use Rattle.bi_fit.proofs.FileConfigurations.{names_are_distinct}
use Rattle.bi_fit.proofs.FileNodes.{bare_image, image_siblings}
use Rattle.bi_fit.proofs.FileTrees.{is_image_tree}
use Rattle.bi_fit.proofs.Meanings.{same_in_some}
use Rattle.bi_fit.proofs.NormalTrees.{held_means}
use Rattle.bi_fit.proofs.TreeShapes.{AreNodes-children_of}
use Rattle.bi_norm.specs.declared.image.BootImage.{BootImage}
use Rattle.bi_norm.specs.declared.image.BootImage.TheVariants as boot
use Rattle.bi_norm.specs.Meaning.{Meaning}
use Rattle.bi_norm.specs.Reading.{meaning_of}
use Rattle.bi_common.specs.HeldImages.{IsHeldImage}
use Rattle.bi_describe.specs.declared.describe.inside.InsideTree.{InsideTree}
use Rattle.bi_describe.specs.declared.describe.insides.Insides.{Insides as MadeInsides}
use Rattle.bi_describe.specs.declared.describe.insides.PayloadIndex.{PayloadIndex}
use Rattle.bi_describe.specs.declared.describe.insides.PayloadIndex.TheVariants as kind
use Rattle.bi_describe.specs.DeepDescriptions.{whole_devicetree}
use Rattle.bi_describe.specs.Devicetrees.{AreInside, Devicetree, HasInside, Insides, image_payloads_at, payloads_at_places}
use Rattle.bi_describe.specs.Devicetrees.{payloads_of_parts}
use Rattle.bi_describe.specs.Ignoring.{OfImageNamed, OfPart, PayloadPlace}
use Rattle.bi_describe.specs.IgnoredWords.{payload_path}
use Rattle.bi_describe.specs.InsideTrees.{devicetree_of}
use Rattle.bi_describe.specs.MadeInsides.{AreBlobsInside, HasBlob, HoldBlobs, HoldInsides, HoldsAt, HoldsBlob, IsIndexOf, IsReadInside}
use Rattle.bi_describe.specs.MadeInsides.{made_tree_at, name_at, payload_index_in, payloads_in, place_at, tree_or_none, whole_devicetrees}

-- What is inside the payloads of an image, by the blobs that were read from them.

abbrev pub blob_or_none : Option (Option Blob) → Option Blob
blob_or_none None = None
blob_or_none (Some blob) = blob

-- The devicetree that is the blob with this index, if there is one.
abbrev pub inside_with : List (Option Blob) → Option ℕ → Option Devicetree
inside_with blobs None = None
inside_with blobs (Some index) = option_map devicetree_of (blob_or_none (slice_get blobs index))

abbrev pub insides_of : PayloadIndex → List (Option Blob) → Insides
insides_of index blobs place = inside_with blobs (payload_index_in index place)

-- ---- where payloads are

-- A payload is at a place, by its index.
pub record IsThere (index : PayloadIndex) (payloads : List (Option (List ℕ))) (place : PayloadPlace) (payload : List ℕ) : Type 0 where
  pub number : ℕ
  pub is_index : payload_index_in index place ≡ Some number
  pub is_payload : slice_get payloads number ≡ Some (Some payload)

-- The index says where the payloads are.
pub record SaysWhere (index : PayloadIndex) (payloads : List (Option (List ℕ))) (places : List (PayloadPlace × List ℕ)) : Type 0 where
  pub there : (place : PayloadPlace) (payload : List ℕ) → Contains places (place, payload) → IsThere index payloads place payload
  pub back : (place : PayloadPlace) (payload : List ℕ) → IsThere index payloads place payload → Contains places (place, payload)
  pub at_place : (place : PayloadPlace) (number : ℕ) → payload_index_in index place ≡ Some number → place_at index number ≡ place

-- Both are the same.
abbrev SamePair : PayloadPlace × List ℕ → PayloadPlace × List ℕ → Type 0
SamePair one other = one ≡ other

-- Parts,
record IsPartAt (first : ℕ) (parts : List (List ℕ)) (place : PayloadPlace) (payload : List ℕ) : Type 0 where
  pub number : ℕ
  pub is_place : place ≡ OfPart (first + number)
  pub is_payload : slice_get (map Some parts) number ≡ Some (Some payload)

part_at : (first : ℕ) (parts : List (List ℕ)) (place : PayloadPlace) (payload : List ℕ) →
    Contains (payloads_of_parts first parts) (place, payload) → IsPartAt first parts place payload
part_at first [] place payload has = absurd (Contains-none (place, payload) has)
part_at first (part ∷ later) place payload has =
    by (Contains-cases (OfPart first, part) (payloads_of_parts (first + 1) later) (place, payload) has)
    (λ has. part_at (first + 1) later place payload has)
  where
    by : SamePair (OfPart first, part) (place, payload) ⊎ Contains (payloads_of_parts (first + 1) later) (place, payload) →
        (Contains (payloads_of_parts (first + 1) later) (place, payload) → IsPartAt (first + 1) later place payload) →
        IsPartAt first (part ∷ later) place payload
    by (inl same) rest = record {
      number = 0;
      is_place = sym (ap (λ (pair : PayloadPlace × List ℕ). pair.0) same) ∙ ap OfPart (omega arith);
      is_payload = ap (λ (pair : PayloadPlace × List ℕ). Some (Some pair.1)) same;
    }
    by (inr has) rest =
        let found = rest has in
        record { number = suc found.number; is_place = found.is_place ∙ ap OfPart (omega arith); is_payload = found.is_payload }

part_back : (first number : ℕ) (parts : List (List ℕ)) (payload : List ℕ) → slice_get (map Some parts) number ≡ Some (Some payload) →
    Contains (payloads_of_parts first parts) (OfPart (first + number), payload)
part_back first number [] payload is = absurd cc
part_back first zero (part ∷ later) payload is =
    let same : part ≡ payload = same_in_some part payload (same_in_some (Some part) (Some payload) is) in
    subst (λ pair. Contains (payloads_of_parts first (part ∷ later)) pair)
    (λ i. (OfPart (let e : first ≡ first + zero = omega arith in e i), same i))
    (Contains-first (OfPart first, part) (payloads_of_parts (first + 1) later))
part_back first (suc number) (part ∷ later) payload is =
    Contains-others (OfPart first, part) (payloads_of_parts (first + 1) later) (OfPart (first + suc number), payload)
    (subst (λ n. Contains (payloads_of_parts (first + 1) later) (OfPart n, payload)) (omega arith)
    (part_back (first + 1) number later payload is))

index_of_part : (place : PayloadPlace) (number : ℕ) → payload_index_in kind.Parts place ≡ Some number → OfPart number ≡ place
index_of_part (OfPart index) number is = ap OfPart (sym (same_in_some index number is))
index_of_part (OfImageNamed name) number is = absurd cc

pub parts_say_where : (parts : List (List ℕ)) → SaysWhere kind.Parts (map Some parts) (payloads_of_parts 0 parts)
parts_say_where parts = record {
  there = λ place payload has.
      let found = part_at 0 parts place payload has in
      record { number = found.number; is_index = ap (payload_index_in kind.Parts) found.is_place ∙ ap Some (omega arith); is_payload = found.is_payload };
  back = λ place payload there.
      subst (λ place. Contains (payloads_of_parts 0 parts) (place, payload))
      (ap OfPart (omega arith) ∙ index_of_part place there.number there.is_index)
      (part_back 0 there.number parts payload there.is_payload);
  at_place = index_of_part;
}

-- and images.
abbrev names_of : List ImageModel → List (List ℕ)
names_of images = map (λ (image : ImageModel). image.name) images

abbrev payloads_of : List ImageModel → List (Option (List ℕ))
payloads_of images = map (λ (image : ImageModel). image.payload) images

abbrev places_of : List ImageModel → List (PayloadPlace × List ℕ)
places_of images = image_payloads_at (names_of images) (payloads_of images)

-- A name that is found is none of those that are not there.
pub found_other : (first number : ℕ) (images : List ImageModel) (name other : List ℕ) → IsNew other (names_of images) →
    index_from first name images ≡ Some number → bytes_eq other name ≡ false
found_other first number [] name other new is = absurd cc
found_other first number (image ∷ later) name other new is =
    by (bytes_eq image.name name) refl (λ is. found_other (first + 1) number later name other new.1 is)
  where
    differs : image.name ≡ name → (b : Bool) → bytes_eq other name ≡ b → b ≡ false
    differs same true equal = absurd (new.0 (same ∙ sym ((bytes_eq-Decides other name).0 equal)))
    differs same false equal = refl

    by : (b : Bool) → bytes_eq image.name name ≡ b → (index_from (first + 1) name later ≡ Some number → bytes_eq other name ≡ false) →
        bytes_eq other name ≡ false
    by true equal rest = differs ((bytes_eq-Decides image.name name).0 equal) (bytes_eq other name) refl
    by false equal rest = rest (rw equal at is)

record IsImageAt (first : ℕ) (images : List ImageModel) (place : PayloadPlace) (payload : List ℕ) : Type 0 where
  pub name : List ℕ
  pub number : ℕ
  pub is_place : place ≡ OfImageNamed name
  pub is_index : index_from first name images ≡ Some (first + number)
  pub is_payload : slice_get (payloads_of images) number ≡ Some (Some payload)

-- The index of an image after the first.
pub index_after : (first number : ℕ) (image : ImageModel) (later : List ImageModel) (name : List ℕ) → IsNew image.name (names_of later) →
    index_from (first + 1) name later ≡ Some number → index_from first name (image ∷ later) ≡ Some number
index_after first number image later name new is = rw (found_other (first + 1) number later name image.name new is) is

image_at : (first : ℕ) (images : List ImageModel) (place : PayloadPlace) (payload : List ℕ) → AreDistinct (names_of images) →
    Contains (places_of images) (place, payload) → IsImageAt first images place payload
image_at first [] place payload distinct has = absurd (Contains-none (place, payload) has)
image_at first (image ∷ later) place payload distinct has =
    by image.payload refl has (λ has. image_at (first + 1) later place payload distinct.1 has)
  where
    after : IsImageAt (first + 1) later place payload → IsImageAt first (image ∷ later) place payload
    after found = record {
      name = found.name;
      number = suc found.number;
      is_place = found.is_place;
      is_index = index_after first (first + suc found.number) image later found.name distinct.0
          (found.is_index ∙ ap Some (omega arith));
      is_payload = found.is_payload;
    }

    here : (own : List ℕ) → image.payload ≡ Some own →
        SamePair (OfImageNamed image.name, own) (place, payload) ⊎ Contains (places_of later) (place, payload) →
        (Contains (places_of later) (place, payload) → IsImageAt (first + 1) later place payload) →
        IsImageAt first (image ∷ later) place payload
    here own is (inl same) rest = record {
      name = image.name;
      number = 0;
      is_place = sym (ap (λ (pair : PayloadPlace × List ℕ). pair.0) same);
      is_index = rw ((bytes_eq-Decides image.name image.name).1 refl) (ap Some (omega arith));
      is_payload = ap Some (is ∙ ap (λ (pair : PayloadPlace × List ℕ). Some pair.1) same);
    }
    here own is (inr has) rest = after (rest has)

    by : (own : Option (List ℕ)) → image.payload ≡ own →
        Contains (places_of (image ∷ later)) (place, payload) →
        (Contains (places_of later) (place, payload) → IsImageAt (first + 1) later place payload) →
        IsImageAt first (image ∷ later) place payload
    by None is has rest = after (rest (rw is at has))
    by (Some own) is has rest =
        here own is (Contains-cases (OfImageNamed image.name, own) (places_of later) (place, payload) (rw is at has)) rest

-- The image with an index.
record IsNumbered (first : ℕ) (images : List ImageModel) (name : List ℕ) (index : ℕ) : Type 0 where
  pub number : ℕ
  pub is_number : index ≡ first + number
  pub is_name : name_at images number ≡ name
  pub back : (payload : List ℕ) → slice_get (payloads_of images) number ≡ Some (Some payload) →
      Contains (places_of images) (OfImageNamed name, payload)

numbered : (first : ℕ) (images : List ImageModel) (name : List ℕ) (index : ℕ) → index_from first name images ≡ Some index →
    IsNumbered first images name index
numbered first [] name index is = absurd cc
numbered first (image ∷ later) name index is =
    by (bytes_eq image.name name) refl (λ is. numbered (first + 1) later name index is)
  where
    here : image.name ≡ name → (payload : List ℕ) → Some image.payload ≡ Some (Some payload) →
        Contains (places_of (image ∷ later)) (OfImageNamed name, payload)
    here same payload is =
        let own : image.payload ≡ Some payload = same_in_some image.payload (Some payload) is in
        rw own (subst (λ name. Contains ((OfImageNamed image.name, payload) ∷ (places_of later)) (OfImageNamed name, payload)) same
        (Contains-first (OfImageNamed image.name, payload) (places_of later)))

    after : (pair : PayloadPlace × List ℕ) → Contains (places_of later) pair → (own : Option (List ℕ)) → image.payload ≡ own →
        Contains (places_of (image ∷ later)) pair
    after pair has None own = rw own has
    after pair has (Some payload) own = rw own (Contains-others (OfImageNamed image.name, payload) (places_of later) pair has)

    by : (b : Bool) → bytes_eq image.name name ≡ b →
        (index_from (first + 1) name later ≡ Some index → IsNumbered (first + 1) later name index) →
        IsNumbered first (image ∷ later) name index
    by true equal rest =
        let same = (bytes_eq-Decides image.name name).0 equal in
        let at_first : first ≡ index = same_in_some first index (rw equal at is) in
        record { number = 0; is_number = omega (arith, at_first); is_name = same; back = here same }
    by false equal rest =
        let found = rest (rw equal at is) in
        record {
          number = suc found.number;
          is_number = omega (arith, found.is_number);
          is_name = found.is_name;
          back = λ payload is. after (OfImageNamed name, payload) (found.back payload is) image.payload refl;
        }

-- The place of the image with an index.
place_of_image : (images : List ImageModel) (name : List ℕ) (number : ℕ) → index_of name images ≡ Some number → name_at images number ≡ name
place_of_image images name number is =
    let found = numbered 0 images name number is in
    ap (name_at images) (let e : number ≡ found.number = omega (arith, found.is_number) in e) ∙ found.is_name

pub index_at_place : (index : PayloadIndex) (place : PayloadPlace) (number : ℕ) → payload_index_in index place ≡ Some number →
    place_at index number ≡ place
index_at_place kind.Parts place number is = index_of_part place number is
index_at_place (kind.Images fit) (OfPart part) number is = absurd cc
index_at_place (kind.Images fit) (OfImageNamed name) number is = ap OfImageNamed (place_of_image fit.now.images name number is)

pub images_say_where : (images : List ImageModel) (index : PayloadIndex) → AreDistinct (names_of images) →
    ((name : List ℕ) → payload_index_in index (OfImageNamed name) ≡ index_of name images) →
    ((number : ℕ) → payload_index_in index (OfPart number) ≡ None) →
    ((number : ℕ) → place_at index number ≡ OfImageNamed (name_at images number)) →
    SaysWhere index (payloads_of images) (image_payloads_at (names_of images) (payloads_of images))
images_say_where images index distinct by_name no_part at_number = record {
  there = λ place payload has.
      let found = image_at 0 images place payload distinct has in
      record {
        number = found.number;
        is_index = ap (payload_index_in index) found.is_place ∙ by_name found.name ∙ found.is_index
            ∙ ap Some (omega arith);
        is_payload = found.is_payload;
      };
  back = λ place payload there. back place payload there.number there.is_index there.is_payload;
  at_place = at_place;
}
  where
    back : (place : PayloadPlace) (payload : List ℕ) (number : ℕ) → payload_index_in index place ≡ Some number →
        slice_get (payloads_of images) number ≡ Some (Some payload) →
        Contains (image_payloads_at (names_of images) (payloads_of images)) (place, payload)
    back (OfPart part) payload number is_index is_payload =
        let none : None ≡ Some number = sym (no_part part) ∙ is_index in absurd cc
    back (OfImageNamed name) payload number is_index is_payload =
        let found = numbered 0 images name number (sym (by_name name) ∙ is_index) in
        let same : number ≡ found.number = omega (arith, found.is_number) in
        found.back payload (ap (slice_get (payloads_of images)) (sym same) ∙ is_payload)

    at_place : (place : PayloadPlace) (number : ℕ) → payload_index_in index place ≡ Some number → place_at index number ≡ place
    at_place (OfPart part) number is_index = let none : None ≡ Some number = sym (no_part part) ∙ is_index in absurd cc
    at_place (OfImageNamed name) number is_index =
        at_number number ∙ ap OfImageNamed (place_of_image images name number (sym (by_name name) ∙ is_index))

-- ---- what is inside

record HasOther {X Y : Type 0} (P : X → Y → Type 0) (x : X) (ys : List Y) (number : ℕ) : Type 0 where
  pub other : Y
  pub is_other : slice_get ys number ≡ Some other
  pub is : P x other

zip_there : {X Y : Type 0} (P : X → Y → Type 0) (xs : List X) (ys : List Y) (number : ℕ) (x : X) → AllZip P xs ys →
    slice_get xs number ≡ Some x → HasOther P x ys number
zip_there P [] ys number x zip is = absurd cc
zip_there P (first ∷ xs) [] number x zip is = absurd zip
zip_there P (first ∷ xs) (other ∷ ys) zero x zip is =
    record { other = other; is_other = refl; is = subst (λ x. P x other) (same_in_some first x is) zip.0 }
zip_there P (first ∷ xs) (other ∷ ys) (suc number) x zip is =
    let found = zip_there P xs ys number x zip.1 is in
    record { other = found.other; is_other = found.is_other; is = found.is }

zip_back : {X Y : Type 0} (P : X → Y → Type 0) (xs : List X) (ys : List Y) (number : ℕ) (y : Y) → AllZip P xs ys →
    slice_get ys number ≡ Some y → HasOther (λ y x. P x y) y xs number
zip_back P xs [] number y zip is = absurd cc
zip_back P [] (first ∷ ys) number y zip is = absurd zip
zip_back P (first ∷ xs) (other ∷ ys) zero y zip is =
    record { other = first; is_other = refl; is = subst (λ y. P first y) (same_in_some other y is) zip.0 }
zip_back P (first ∷ xs) (other ∷ ys) (suc number) y zip is =
    let found = zip_back P xs ys number y zip.1 is in
    record { other = found.other; is_other = found.is_other; is = found.is }

-- A blob that is a devicetree, or none, is what is inside.
blob_is_inside : (limits : Limits) (payload : List ℕ) (blob : Option Blob) → HasBlob limits (Some payload) blob →
    HasInside limits payload (option_map devicetree_of blob)
blob_is_inside limits payload None is = is
blob_is_inside limits payload (Some blob) is =
    record { root = root_of blob; blob = is.is_blob; within = is.within; no_images = is.no_images; is_root = refl }

pub blobs_are_inside : (limits : Limits) (index : PayloadIndex) (meaning : Meaning) (blobs : List (Option Blob)) →
    SaysWhere index (payloads_in meaning) (payloads_at_places meaning) → AreBlobsInside limits (payloads_in meaning) blobs →
    AreInside limits meaning (insides_of index blobs)
blobs_are_inside limits index meaning blobs says are =
    record { each = each; other = λ place nothing. other place nothing (payload_index_in index place) refl }
  where
    each : (place : PayloadPlace) (payload : List ℕ) → Contains (payloads_at_places meaning) (place, payload) →
        HasInside limits payload (insides_of index blobs place)
    each place payload has =
        let there = says.there place payload has in
        let found = zip_there (HasBlob limits) (payloads_in meaning) blobs there.number (Some payload) are there.is_payload in
        rw (there.is_index, found.is_other) (blob_is_inside limits payload found.other found.is)

    none_there : (place : PayloadPlace) → ((payload : List ℕ) → ¬ (Contains (payloads_at_places meaning) (place, payload))) →
        (number : ℕ) → payload_index_in index place ≡ Some number → (payload : Option (List ℕ)) →
        slice_get (payloads_in meaning) number ≡ Some payload → (blob : Option Blob) → HasBlob limits payload blob →
        option_map devicetree_of blob ≡ None
    none_there place nothing number is_index payload is_payload None has = refl
    none_there place nothing number is_index None is_payload (Some blob) has = absurd has
    none_there place nothing number is_index (Some payload) is_payload (Some blob) has =
        absurd (nothing payload (says.back place payload (record { number = number; is_index = is_index; is_payload = is_payload })))

    at_number : (place : PayloadPlace) → ((payload : List ℕ) → ¬ (Contains (payloads_at_places meaning) (place, payload))) →
        (number : ℕ) → payload_index_in index place ≡ Some number → (found : Option (Option Blob)) → slice_get blobs number ≡ found →
        option_map devicetree_of (blob_or_none found) ≡ None
    at_number place nothing number is_index None is = refl
    at_number place nothing number is_index (Some blob) is =
        let found = zip_back (HasBlob limits) (payloads_in meaning) blobs number blob are is in
        none_there place nothing number is_index found.other found.is_other blob found.is

    other : (place : PayloadPlace) → ((payload : List ℕ) → ¬ (Contains (payloads_at_places meaning) (place, payload))) →
        (found : Option ℕ) → payload_index_in index place ≡ found → insides_of index blobs place ≡ None
    other place nothing None is = rw is refl
    other place nothing (Some number) is = rw is (at_number place nothing number is (slice_get blobs number) refl)

-- ---- the trees

abbrev HoldsNumber : PayloadIndex → ℕ → Option (Option Blob) → Option (Option InsideTree) → Type 0
HoldsNumber index number None None = ⊤
HoldsNumber index number (Some blob) (Some tree) = HoldsBlob (payload_path (place_at index number)) blob tree
HoldsNumber index number blob tree = ⊥

held_at : (index : PayloadIndex) (first number : ℕ) (blobs : List (Option Blob)) (trees : List (Option InsideTree)) →
    HoldBlobs index first blobs trees → HoldsNumber index (first + number) (slice_get blobs number) (slice_get trees number)
held_at index first number [] [] held = tt
held_at index first number [] (tree ∷ trees) held = absurd held
held_at index first number (blob ∷ blobs) [] held = absurd held
held_at index first zero (blob ∷ blobs) (tree ∷ trees) held =
    subst (λ n. HoldsBlob (payload_path (place_at index n)) blob tree) (omega arith) held.0
held_at index first (suc number) (blob ∷ blobs) (tree ∷ trees) held =
    subst (λ n. HoldsNumber index n (slice_get blobs number) (slice_get trees number)) (omega arith)
    (held_at index (first + 1) number blobs trees held.1)

tree_held : (place : PayloadPlace) (blob : Option Blob) (tree : Option InsideTree) → HoldsBlob (payload_path place) blob tree →
    HoldsAt place (option_map whole_devicetree (option_map devicetree_of blob)) tree
tree_held place None None held = tt
tree_held place None (Some tree) held = absurd held
tree_held place (Some blob) None held = absurd held
tree_held place (Some blob) (Some tree) held = held

number_held : (index : PayloadIndex) (place : PayloadPlace) (number : ℕ) (blob : Option (Option Blob))
    (tree : Option (Option InsideTree)) → place_at index number ≡ place → HoldsNumber index number blob tree →
    HoldsAt place (option_map whole_devicetree (option_map devicetree_of (blob_or_none blob))) (tree_or_none tree)
number_held index place number None None is held = tt
number_held index place number None (Some tree) is held = absurd held
number_held index place number (Some blob) None is held = absurd held
number_held index place number (Some blob) (Some tree) is held =
    tree_held place blob tree (subst (λ place. HoldsBlob (payload_path place) blob tree) is held)

pub trees_are_held : (made : MadeInsides) (blobs : List (Option Blob)) →
    ((place : PayloadPlace) (number : ℕ) → payload_index_in made.index place ≡ Some number → place_at made.index number ≡ place) →
    HoldBlobs made.index 0 blobs made.trees.items → HoldInsides (whole_devicetrees (insides_of made.index blobs)) made
trees_are_held made blobs at_place held = λ place. by place (payload_index_in made.index place) refl
  where
    by : (place : PayloadPlace) (found : Option ℕ) → payload_index_in made.index place ≡ found →
        HoldsAt place (whole_devicetrees (insides_of made.index blobs) place) (made_tree_at made place)
    by place None is = rw is tt
    by place (Some number) is =
        rw is (number_held made.index place number (slice_get blobs number) (slice_get made.trees.items number) (at_place place number is)
        (subst (λ n. HoldsNumber made.index n (slice_get blobs number) (slice_get made.trees.items number)) (omega arith)
        (held_at made.index 0 number blobs made.trees.items held)))

-- ---- an image that was read

names_of_siblings : {Own : Type 0} (nodes : Nodes Own) → names nodes ≡ map (λ (sibling : Sibling Own). sibling.name) (siblings nodes)
names_of_siblings none = refl
names_of_siblings (node name own children later) = ap (λ others. name ∷ others) (names_of_siblings later)

bare_names : (entries : List (Sibling FileNode)) →
    map (λ (sibling : Sibling PropertyMap). sibling.name) (map bare_image entries)
    ≡ map (λ (sibling : Sibling FileNode). sibling.name) entries
bare_names [] = refl
bare_names (entry ∷ later) = ap (λ others. entry.name ∷ others) (bare_names later)

read_names : (file : List ℕ) (entries : List (Sibling FileNode)) (images : List ImageModel) → AllZip (IsReadImage file) entries images →
    map (λ (sibling : Sibling FileNode). sibling.name) entries ≡ names_of images
read_names file [] [] are = refl
read_names file [] (image ∷ images) are = absurd are
read_names file (entry ∷ entries) [] are = absurd are
read_names file (entry ∷ entries) (image ∷ images) are =
    (λ i. sym are.0.name i ∷ read_names file entries images are.1 i)

pub image_names_are : (content : FitModel) → IsHeld content →
    names (nodes_or_none (image_nodes (tree_of content).root)) ≡ names_of content.images
image_names_are content held =
    names_of_siblings (nodes_or_none (image_nodes (tree_of content).root))
    ∙ ap (map (λ (sibling : Sibling PropertyMap). sibling.name)) (image_siblings content)
    ∙ bare_names (siblings (file_images content.blob))
    ∙ read_names content.blob.file (siblings (file_images content.blob)) content.images held.images

pub image_names_distinct : (content : FitModel) → IsHeld content → AreDistinct (names_of content.images)
image_names_distinct content held =
    let tree = tree_of content in
    let is = is_image_tree content.blob.file tree (held_means content held) in
    subst AreDistinct (ap (λ found. names (nodes_or_none found)) (sym is.has_images) ∙ image_names_are content held)
    (names_are_distinct ArePropertiesByName is.images
    (AreNodes-children_of ArePropertiesByName images_name tree.root.children is.images is.has_images is.is_tree.children))

pub image_says_where : (image : BootImage) (index : PayloadIndex) → IsHeldImage image → IsIndexOf image index →
    SaysWhere index (payloads_in (meaning_of image)) (payloads_at_places (meaning_of image))
image_says_where (boot.Legacy legacy) kind.Parts held is = parts_say_where legacy.image.parts
image_says_where (boot.Legacy legacy) (kind.Images fit) held is = absurd is
image_says_where (boot.Fit content) kind.Parts held is = absurd is
image_says_where (boot.Fit content) (kind.Images fit) held is =
    subst (λ names. SaysWhere (kind.Images fit) (payloads_of content.images) (image_payloads_at names (payloads_of content.images)))
    (sym (image_names_are content held))
    (images_say_where content.images (kind.Images fit) (image_names_distinct content held)
    (λ name. ap (λ (content : FitModel). index_of name content.images) is) (λ number. refl)
    (λ number. ap (λ (content : FitModel). OfImageNamed (name_at content.images number)) is))

pub is_read_inside : (limits : Limits) (image : BootImage) (made : MadeInsides) (blobs : List (Option Blob)) → IsHeldImage image →
    IsIndexOf image made.index → AreBlobsInside limits (payloads_in (meaning_of image)) blobs →
    HoldBlobs made.index 0 blobs made.trees.items → IsReadInside limits (meaning_of image) made
is_read_inside limits image made blobs held is are trees =
    let says = image_says_where image made.index held is in
    record {
      insides = insides_of made.index blobs;
      are_inside = blobs_are_inside limits made.index (meaning_of image) blobs says are;
      are_held = trees_are_held made blobs says.at_place trees;
    }
