use Rattle.std.proofs.Common.{◌≡◌, ℕ, zero, suc, ◌+◌, ◌<◌, ◌≤◌, List, [], ◌∷◌, ◌++◌, map, take, drop, get_or, slice_get, length, Option}
use Rattle.std.proofs.Common.{None, Some, rules}
use Rattle.std.proofs.Common.{refl, sym, ap, ap₂, subst, ◌∙◌, inl, inr, arith}
use Rattle.std.specs.Prelude.{unwrap_or}
use Rattle.std.specs.List.{AllByRecursion}
use Rattle.std.specs.Option.{option_map}
use Rattle.std.proofs.lemmas.Bool.{cases_lt}
use Rattle.std.proofs.lemmas.List.{drop_more, drop_all, take_more, map-append}
use Rattle.bi_base.specs.declared.fault.Fault.{Fault}
use Rattle.bi_base.specs.declared.fault.Cause.TheVariants.{DuplicateNode}
use Rattle.bi_blob.specs.Tree.{IsNew}
use Rattle.bi_fit.specs.declared.building.NamedImage.{NamedImage}
use Rattle.bi_fit.specs.NamedImages.{named_model, named_models}
use Rattle.bi_norm.specs.declared.fit_building.ImageSpec.{ImageSpec}
use Rattle.bi_norm.specs.declared.fit_building.ImageTexts.{ImageTexts}
use Rattle.std.specs.Borrow.{Bor}
use Rattle.bi_norm.specs.FitBuilding.{ImageTextsModel, image_texts_model, texts_models, descriptions_models, GivenImage, given_images}
use Rattle.bi_norm.specs.FitBuilding.{spec_model, BuildCheck}
use Rattle.bi_norm.specs.FitBuilding.{HasFields, HasCodeNames, HasNewName, spec_checks, first_image_checks, names_of_specs}
use Rattle.bi_norm.specs.BuildChecks.{AllPass, IsFirstFailure, IsPlainImage, at_index, given_image, given_for, fields_and_names}
use Rattle.bi_norm.proofs.LeftChecks.{AreLeftChecks, fails_first, left_after}

-- If the images before one pass their checks, a fault of its fields, codes or name is the first of all, and otherwise the images after it
-- decide.

-- ---- images with their texts

-- The names of images.
abbrev pub names_of_given : List GivenImage → List (List ℕ)
names_of_given images = map (λ image. image.spec.name.now) images

-- Texts and descriptions change no name,
pub names-given_images : (texts : List (Option ImageTextsModel)) (descriptions : List (Option (List ℕ))) (images : List ImageSpec) →
    names_of_given (given_images texts descriptions images) ≡ names_of_specs images
names-given_images texts descriptions [] = refl
names-given_images texts descriptions (spec ∷ later) =
    ap (λ l. spec.name.now ∷ l) (names-given_images (drop 1 texts) (drop 1 descriptions) later)

-- and there are as many images with them.
pub length-given_images : (texts : List (Option ImageTextsModel)) (descriptions : List (Option (List ℕ))) (images : List ImageSpec) →
    length (given_images texts descriptions images) ≡ length images
length-given_images texts descriptions [] = refl
length-given_images texts descriptions (spec ∷ later) =
    ap suc (length-given_images (drop 1 texts) (drop 1 descriptions) later)

-- What a list of images gives past its end.
abbrev pub no_spec : ImageSpec
no_spec = record {
  name = record { ref_ptr = (0, 0); now = [] };
  image_type = 0;
  arch = 0;
  os = 0;
  compression = 0;
  load = None;
  entry = None;
  payload = record { ref_ptr = (0, 0); now = [] };
}

abbrev pub no_given : GivenImage
no_given = record { spec = no_spec; texts = None; description = None }

-- What is given after the first is given one further on,
given_further : {X : Type 0} (given : List (Option X)) (index : ℕ) → get_or (drop 1 given) index None ≡ get_or given (suc index) None
given_further [] index = refl
given_further (first ∷ given) index = refl

-- so the image at an index has what is given at the index.
given_at : (texts : List (Option ImageTextsModel)) (descriptions : List (Option (List ℕ))) (images : List ImageSpec) (index : ℕ) →
    index < length images →
    get_or (given_images texts descriptions images) index no_given
    ≡ record { spec = get_or images index no_spec; texts = get_or texts index None; description = get_or descriptions index None }
given_at texts descriptions [] index within = absurd (omega (arith, within))
given_at texts descriptions (spec ∷ later) zero within = refl
given_at texts descriptions (spec ∷ later) (suc index) within =
    given_at (drop 1 texts) (drop 1 descriptions) later index (omega (arith, within))
    ∙ ap₂ (λ texts description. record { spec = get_or later index no_spec; texts = texts; description = description })
    (given_further texts index) (given_further descriptions index)

-- The same for what the code finds.
found_at : {X Y : Type 0} (model : X → Y) (given : List (Option X)) (index : ℕ) (found : Option X) →
    found ≡ unwrap_or (slice_get given index) None → option_map model found ≡ get_or (map (option_map model) given) index None
found_at model [] index found is = ap (option_map model) is
found_at model (first ∷ given) zero found is = ap (option_map model) is
found_at model (first ∷ given) (suc index) found is = found_at model given index found is

pub given_here : (texts : List (Option ImageTexts)) (descriptions : List (Option (Bor (List ℕ)))) (images : List ImageSpec) (index : ℕ)
    (found : Option ImageTexts) (description : Option (Bor (List ℕ))) → index < length images →
    found ≡ unwrap_or (slice_get texts index) None → description ≡ unwrap_or (slice_get descriptions index) None →
    given_image (get_or images index no_spec) found description ≡ get_or (given_for texts descriptions images) index no_given
given_here texts descriptions images index found description within is described =
    ap₂ (λ texts description. record { spec = get_or images index no_spec; texts = texts; description = description })
    (found_at image_texts_model texts index found is) (found_at (λ text. text.now) descriptions index description described)
    ∙ sym (given_at (texts_models texts) (descriptions_models descriptions) images index within)

-- ---- the checks from one image on

-- The checks of the images from one on.
abbrev pub checks_from : List GivenImage → ℕ → List BuildCheck
checks_from images index = spec_checks index (names_of_given (take index images)) (drop index images)

-- The images before one passed their checks, so those from it on decide.
pub record ArePassedTo (images : List GivenImage) (index : ℕ) : Type 0 where
  pub left : AreLeftChecks (spec_checks 0 [] images) (checks_from images index)
  pub can : AllByRecursion (λ image. IsPlainImage (spec_model image)) (drop index images) →
      AllByRecursion (λ image. IsPlainImage (spec_model image)) images
  pub first : 0 < index → AllPass (first_image_checks images)

-- The checks of an image that look at no other, if it is the first.
first_fine : (images : List GivenImage) (index : ℕ) (d : GivenImage) → index < length images → index ≡ 0 →
    AllPass (fields_and_names index (get_or images index d)) → AllPass (first_image_checks images)
first_fine images index d within none fine = by images within
    (subst (λ index. AllPass (fields_and_names index (get_or images index d))) none fine) where
      by : (images : List GivenImage) → index < length images → AllPass (fields_and_names 0 (get_or images 0 d)) →
          AllPass (first_image_checks images)
      by [] within fine = λ limits form head plan images. tt
      by (image ∷ later) within fine = fine

module _ (images : List GivenImage) (index : ℕ) (d : GivenImage) (within : index < length images) (passed : ArePassedTo images index) where
  abbrev image : GivenImage
  image = get_or images index d

  -- The names before the next image.
  pub image_names_more : names_of_given (take (index + 1) images) ≡ names_of_given (take index images) ++ image.spec.name.now ∷ []
  image_names_more =
      ap names_of_given (take_more images index d within)
      ∙ map-append (λ (image : GivenImage). image.spec.name.now) (take index images) (image ∷ [])

  -- The checks of this image come first.
  abbrev own_checks : List BuildCheck
  own_checks =
      let at = at_index index (names_of_given (take index images)) image in
      HasFields at ∷ HasCodeNames at ∷ HasNewName at ∷ []

  first_checks : checks_from images index ≡ own_checks ++ checks_from images (index + 1)
  first_checks = search (rules, drop_more, image_names_more)

  left : AreLeftChecks (spec_checks 0 [] images) (own_checks ++ checks_from images (index + 1))
  left = subst (AreLeftChecks (spec_checks 0 [] images)) first_checks passed.left

  -- A fault of its fields or codes is the first of all.
  pub image_fails : (fault : Fault) → IsFirstFailure (fields_and_names index image) fault → IsFirstFailure (spec_checks 0 [] images) fault
  image_fails fault first =
      let at = at_index index (names_of_given (take index images)) image in
      fails_first (spec_checks 0 [] images) (HasFields at ∷ HasCodeNames at ∷ []) (HasNewName at ∷ checks_from images (index + 1)) fault
      left first

  -- So is a name that is not new, after fields and codes without a fault.
  pub name_fails : AllPass (fields_and_names index image) → ¬ (IsNew image.spec.name.now (names_of_given (take index images))) →
      IsFirstFailure (spec_checks 0 [] images) (record { cause = DuplicateNode; offset = index })
  name_fails fine held =
      fails_first (spec_checks 0 [] images) own_checks (checks_from images (index + 1)) (record { cause = DuplicateNode; offset = index })
      left (λ limits form head plan all.
      let both = fine limits form head plan all in
      inr (both.0, inr (both.1.0, inl (held, refl))))

  -- Once its fields and codes have no fault, those of the first image have none.
  pub first_passed : AllPass (fields_and_names index image) → AllPass (first_image_checks images)
  first_passed fine = elim (cases_lt 0 index) [
    | inl later ↦ passed.first later
    | inr none ↦ first_fine images index d within (omega (arith, none)) fine
  ]

  -- Else the images after it decide.
  pub passed_more : AllPass (fields_and_names index image) → IsPlainImage (spec_model image) →
      IsNew image.spec.name.now (names_of_given (take index images)) → ArePassedTo images (index + 1)
  passed_more fine can new = record {
    left = left_after (spec_checks 0 [] images) own_checks (checks_from images (index + 1)) left (λ limits form head plan all.
        let both = fine limits form head plan all in
        (both.0, (both.1.0, (new, tt))));
    can = λ later.
        passed.can (subst (AllByRecursion (λ image. IsPlainImage (spec_model image))) (sym (drop_more images index d within)) (can, later));
    first = λ some. first_passed fine;
  }

-- After the last image none are left.
pub passed_all : (images : List GivenImage) (index : ℕ) → length images ≤ index → AllPass (checks_from images index)
passed_all images index past = search (rules, left, drop_all)

pub can_all : (images : List GivenImage) (index : ℕ) → length images ≤ index →
    AllByRecursion (λ image. IsPlainImage (spec_model image)) (drop index images)
can_all images index past = subst (AllByRecursion (λ image. IsPlainImage (spec_model image))) (sym (drop_all index images past)) tt

-- The images with their texts, and one more.
pub named_more : (images : List GivenImage) (index : ℕ) (d : GivenImage) → index < length images →
    (named : List NamedImage) (next : NamedImage) →
    named_models named ≡ map spec_model (take index images) → named_model next ≡ spec_model (get_or images index d) →
    named_models (named ++ next ∷ []) ≡ map spec_model (take (index + 1) images)
named_more images index d within named next same is = search (rules, map-append, take_more images index d within)
