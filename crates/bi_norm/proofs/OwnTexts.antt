use Rattle.std.proofs.Common.{◌≡◌, ℕ, ◌+◌, ◌<◌, ◌≤◌, List, [], ◌∷◌, ◌++◌, Option, None, Some, map, take, drop, get_or, length, refl, sym}
use Rattle.std.proofs.Common.{zero, suc, ap, subst, ◌∙◌, inl, arith}
use Rattle.std.specs.Borrow.{Bor}
use Rattle.bi_base.specs.Slices.{bytes_of}
use Rattle.std.specs.Prelude.{IfSome, option_to_list}
use Rattle.std.specs.List.{AllByRecursion}
use Rattle.std.proofs.lemmas.List.{drop_more, drop_all, take_more, map-append, length-map, get_or-map}
use Rattle.bi_base.proofs.ListMembers.{each-append}
use Rattle.bi_base.specs.declared.fault.Cause.TheVariants.{BadField}
use Rattle.bi_blob.specs.Tree.{HasNoZero}
use Rattle.bi_fit.specs.declared.building.ConfigurationSpec.{ConfigurationSpec}
use Rattle.bi_fit.specs.declared.building.NamedImage.{NamedImage}
use Rattle.bi_fit.specs.Building.{IsText}
use Rattle.bi_fit.specs.NamedImages.{named_model, named_models, configuration_spec_model, configuration_spec_models}
use Rattle.bi_norm.specs.FitBuilding.{BuildCheck, HasOwnTexts, own_texts_checks, own_texts_of_image, own_texts_of_configuration}
use Rattle.bi_norm.specs.BuildChecks.{AllPass, IsFirstFailure}
use Rattle.bi_norm.proofs.LeftChecks.{AreLeftChecks, fails_first, left_after}

-- If the texts before some pass, a fault of these is the first of all, and otherwise the texts after them decide.

module _ (texts : List (List (List ℕ))) where
  abbrev from_index : ℕ → List BuildCheck
  from_index index = own_texts_checks index (drop index texts)

  -- The texts before an index passed, so those from it on decide.
  abbrev pub TextsPassedTo : ℕ → Type 0
  TextsPassedTo index = AreLeftChecks (own_texts_checks 0 texts) (from_index index)

  pub none_passed : TextsPassedTo 0
  none_passed = record { passes = λ pass. pass; fails = λ fault first. first }

  module _ (index : ℕ) (d : List (List ℕ)) (within : index < length texts) (passed : TextsPassedTo index) where
    abbrev own_checks : List BuildCheck
    own_checks = HasOwnTexts (record { index = index; texts = get_or texts index d }) ∷ []

    first_checks : from_index index ≡ own_checks ++ from_index (index + 1)
    first_checks = ap (own_texts_checks index) (drop_more texts index d within)

    left : AreLeftChecks (own_texts_checks 0 texts) (own_checks ++ from_index (index + 1))
    left = subst (AreLeftChecks (own_texts_checks 0 texts)) first_checks passed

    pub texts_fail : ¬ (AllByRecursion HasNoZero (get_or texts index d)) →
        IsFirstFailure (own_texts_checks 0 texts) (record { cause = BadField; offset = index })
    texts_fail fails =
        fails_first (own_texts_checks 0 texts) own_checks (from_index (index + 1)) (record { cause = BadField; offset = index }) left
        (λ limits form head plan images. inl (fails, refl))

    pub texts_pass : AllByRecursion HasNoZero (get_or texts index d) → TextsPassedTo (index + 1)
    texts_pass fine =
        left_after (own_texts_checks 0 texts) own_checks (from_index (index + 1)) left (λ limits form head plan images. (fine, tt))

  -- After the last none are left.
  pub all_texts_pass : (index : ℕ) → length texts ≤ index → TextsPassedTo index → AllPass (own_texts_checks 0 texts)
  all_texts_pass index past passed =
      passed.passes (subst (λ left. AllPass (own_texts_checks index left)) (sym (drop_all index texts past))
      (λ limits form head plan images. tt))

-- ---- the texts of images and of configurations

-- A text, or none, in a list.
pub texts_of_option : (text : Option (List ℕ)) → IfSome text IsText → AllByRecursion HasNoZero (option_to_list text)
texts_of_option None is = tt
texts_of_option (Some text) is = (is.no_zero, tt)

-- The own texts at an index are those of the image, or of the configuration.
pub image_texts_at : (images : List NamedImage) (index : ℕ) (d : NamedImage) → index < length images →
    get_or (map own_texts_of_image (named_models images)) index [] ≡ own_texts_of_image (named_model (get_or images index d))
image_texts_at images index d within =
    get_or-map own_texts_of_image (named_models images) index (named_model d) [] (omega (arith, within, length-map images named_model))
    ∙ ap own_texts_of_image (get_or-map named_model images index d (named_model d) within)

pub configuration_texts_at : (configurations : List ConfigurationSpec) (index : ℕ) (d : ConfigurationSpec) →
    index < length configurations →
    get_or (map own_texts_of_configuration (configuration_spec_models configurations)) index []
    ≡ own_texts_of_configuration (configuration_spec_model (get_or configurations index d))
configuration_texts_at configurations index d within =
    get_or-map own_texts_of_configuration (configuration_spec_models configurations) index (configuration_spec_model d) []
    (omega (arith, within, length-map configurations configuration_spec_model))
    ∙ ap own_texts_of_configuration (get_or-map configuration_spec_model configurations index d (configuration_spec_model d) within)

-- There are as many own texts as images, or configurations.
pub length-image_texts : (images : List NamedImage) → length (map own_texts_of_image (named_models images)) ≡ length images
length-image_texts images = length-map (named_models images) own_texts_of_image ∙ length-map images named_model

pub length-configuration_texts : (configurations : List ConfigurationSpec) →
    length (map own_texts_of_configuration (configuration_spec_models configurations)) ≡ length configurations
length-configuration_texts configurations =
    length-map (configuration_spec_models configurations) own_texts_of_configuration
    ∙ length-map configurations configuration_spec_model

-- What holds of the models so far, and of the next, holds of one more.
pub models_more : {A M : Type 0} (P : M → Type 0) (model : A → M) (all : List A) (index : ℕ) (d : A) → index < length all →
    AllByRecursion P (map model (take index all)) → P (model (get_or all index d)) → AllByRecursion P (map model (take (index + 1) all))
models_more P model all index d within before here =
    subst (AllByRecursion P)
    (sym (ap (map model) (take_more all index d within) ∙ map-append model (take index all) (get_or all index d ∷ [])))
    (each-append P (map model (take index all)) (model (get_or all index d) ∷ []) before (here, tt))

-- What a list of images gives past its end.
abbrev pub no_checked_image : NamedImage
no_checked_image = record {
  name = record { ref_ptr = (0, 0); now = [] };
  description = None;
  image_type = record { ref_ptr = (0, 0); now = [] };
  arch = record { ref_ptr = (0, 0); now = [] };
  os = record { ref_ptr = (0, 0); now = [] };
  compression = record { ref_ptr = (0, 0); now = [] };
  load = None;
  entry = None;
  payload = record { ref_ptr = (0, 0); now = [] };
}

-- What holds of each text holds of the one at an index.
pub text_here : (P : List ℕ → Type 0) (texts : List (Bor (List ℕ))) (index : ℕ) (d : Bor (List ℕ)) → index < length texts →
    AllByRecursion P (bytes_of texts) → P (get_or texts index d).now
text_here P [] index d within each = absurd (omega (arith, within))
text_here P (text ∷ later) zero d within each = each.0
text_here P (text ∷ later) (suc index) d within each = text_here P later index d (omega (arith, within)) each.1
