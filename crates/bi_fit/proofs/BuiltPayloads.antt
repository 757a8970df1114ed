use Rattle.std.proofs.Common.{◌≡◌, ℕ, ◌+◌, ◌<◌, ◌≤◌, List, ◌∷◌, [], map, drop, get_or, length, Option, Some, None, refl, sym, ap, ◌∙◌}
use Rattle.std.proofs.Common.{rules}
use Rattle.std.proofs.lemmas.List.{at_drop_more, length-map, get_or-map}
use Rattle.bi_blob.specs.Layout.{longest_text}
use Rattle.bi_hash.specs.declared.algo.Algo.{Algo}
use Rattle.bi_fit.specs.declared.building.ConfigurationSpec.{ConfigurationSpec}
use Rattle.bi_fit.specs.declared.building.NamedImage.{NamedImage}
use Rattle.bi_fit.specs.declared.form.Form.{Form}
use Rattle.bi_fit.specs.declared.form.Form.TheVariants.{Embedded}
use Rattle.bi_fit.specs.declared.image.Image.{Image}
use Rattle.bi_fit.specs.NormalNodes.{AreWithin, payloads_of}
use Rattle.bi_fit.specs.Documents.{length_after_blob}
use Rattle.bi_fit.specs.NamedImages.{named_models, image_to_place}
use Rattle.bi_fit.specs.BuiltNodes.{built_payloads, built_digests}

-- The payloads of images to be built are those of each image in turn, and the digests at the index of an image are those of its payload.

-- What a list of images gives past its end.
abbrev pub no_named_image : NamedImage
no_named_image = record {
  name = record { ref_ptr = (0, 0); now = [] };
  description = None;
  image_type = record { ref_ptr = (0, 0); now = [] };
  arch = record { ref_ptr = (0, 0); now = [] };
  os = record { ref_ptr = (0, 0); now = [] };
  compression = record { ref_ptr = (0, 0); now = [] };
  load = None;
  entry = None;
  payload = record { ref_ptr = (0, 0); now = [] };
}

abbrev pub no_configuration : ConfigurationSpec
no_configuration = record {
  name = record { ref_ptr = (0, 0); now = [] };
  description = None;
  compatible = record { ref_ptr = (0, 0); now = [] };
  kernel = record { ref_ptr = (0, 0); now = [] };
  fdt = record { ref_ptr = (0, 0); now = [] };
  ramdisk = record { ref_ptr = (0, 0); now = [] };
  firmware = record { ref_ptr = (0, 0); now = [] };
  loadables = record { ref_ptr = (0, 0); now = [] };
  script = record { ref_ptr = (0, 0); now = [] };
}

-- The payloads from an image on are its payload and those after it.
pub built_payloads_from : (images : List NamedImage) (index : ℕ) (d : NamedImage) → index < length images →
    built_payloads (named_models (drop index images))
    ≡ Some (get_or images index d).payload.now ∷ built_payloads (named_models (drop (index + 1) images))
built_payloads_from images index d within = at_drop_more (λ l. built_payloads (named_models l)) images index d within

-- Payloads after the blob that end within the longest text do so in this form.
pub are_within : (form : Form) (payloads : List (Option (List ℕ))) → length_after_blob form payloads ≤ longest_text →
    AreWithin form 0 payloads
are_within Embedded payloads short = tt
are_within form payloads short = short

-- The images whose payloads are placed have the payloads of those that are built.
placed_payloads : (images : List NamedImage) → payloads_of (map image_to_place images) ≡ built_payloads (named_models images)
placed_payloads [] = refl
placed_payloads (image ∷ later) = ap (λ l. Some image.payload.now ∷ l) (placed_payloads later)

pub payloads_to_place : (list : List Image) (images : List NamedImage) → list ≡ map image_to_place images →
    payloads_of list ≡ built_payloads (named_models images)
payloads_to_place list images is = ap payloads_of is ∙ placed_payloads images

-- There are as many digests as images, and those at the index of an image are those of its payload.
pub digests_within : {V : Type 0} (bytes : V → List ℕ) (all : List V) (algorithms : List Algo) (images : List NamedImage) (index : ℕ) →
    map bytes all ≡ map (λ image. built_digests algorithms image.payload.now) images → index < length images → index < length all
digests_within bytes all algorithms images index same within = search (rules, length-map)

pub digests_at : {V : Type 0} (bytes : V → List ℕ) (all : List V) (algorithms : List Algo) (images : List NamedImage) (index : ℕ)
    (one : V) → map bytes all ≡ map (λ image. built_digests algorithms image.payload.now) images → index < length images →
    one ≡ get_or all index one → bytes one ≡ built_digests algorithms (get_or images index no_named_image).payload.now
digests_at bytes all algorithms images index one same within is =
    ap bytes is
    ∙ sym (get_or-map bytes all index one [] (digests_within bytes all algorithms images index same within))
    ∙ ap (λ digests. get_or digests index []) same
    ∙ get_or-map (λ image. built_digests algorithms image.payload.now) images index no_named_image [] within
