use Rattle.std.proofs.Common.{◌≡◌, ◌≤◌, ℕ, List, [], ◌∷◌, length, ap, subst, sym, ◌∙◌, arith, rules}
use Rattle.bi_base.specs.declared.fault.Error.{Error}
use Rattle.bi_base.specs.declared.fault.Error.TheVariants.{Refused, OutOfMemory, ReadFailed, WriteFailed}
use Rattle.bi_base.specs.Limits.{Limits}
use Rattle.bi_blob.specs.Layout.{longest_text}
use Rattle.bi_fit.specs.declared.form.Form.TheVariants.{Embedded}
use Rattle.bi_hash.specs.declared.algo.Algo.TheVariants.{Sha256}
use Rattle.bi_fit.specs.Building.{HeadModel, ImageSpecModel, CanBeBuilt, built_tree, plan_by_types}
use Rattle.bi_fit.specs.ImageTree.{ImageTree}
use Rattle.bi_fit.specs.Text.{fit_text}
use Rattle.bi_legacy.specs.File.{LegacyMeans}
use Rattle.bi_legacy.specs.Meaning.{LegacyImage}
use Rattle.bi_legacy.specs.Reading.{LegacyModel, IsReadLegacy}
use Rattle.bi_legacy.proofs.ImageOfFile.{image_of_file}
use Rattle.bi_base.specs.Errors.{IsFaultOrNoMemory}
use Rattle.bi_fit.specs.Documents.{IsTextOfTree, IsTextFault}
use Rattle.bi_norm.specs.Converting.{converted_images, fit_of, CanBeConverted, IsConvertedFile, IsConvertError, TextTooLong, head_of_image}
use Rattle.bi_norm.proofs.ConvertedImages.{converted_can_be_built, converted_is_accepted}

-- The images of a legacy image that was read can be built, and the text of their tree is that of the converted file.

-- The images of a legacy image that was read can be built, and give its tree.
pub conversion_can_be_built : (limits : Limits) (file : List ℕ) (image : LegacyImage) (head : HeadModel) (images : List ImageSpecModel) →
    LegacyMeans limits file image → head ≡ head_of_image image → images ≡ converted_images image → CanBeBuilt head images
conversion_can_be_built limits file image head images means same are =
    subst (λ (images : List ImageSpecModel). CanBeBuilt head images) (sym are)
    (subst (λ (head : HeadModel). CanBeBuilt head (converted_images image)) (sym same)
    (converted_can_be_built image (image_of_file file image means.is_file)))

pub tree_is : (image : LegacyImage) (head : HeadModel) (images : List ImageSpecModel) → head ≡ head_of_image image →
    images ≡ converted_images image → built_tree head (plan_by_types (Sha256 ∷ []) images) images ≡ fit_of image
tree_is image head images same are = search rules

-- The text of this tree is that of the converted file.
pub is_converted : (limits : Limits) (file : List ℕ) (parsed : LegacyModel) (tree : ImageTree) (text : List ℕ) →
    IsReadLegacy limits file parsed → CanBeConverted parsed.image → limits.file ≤ longest_text → tree ≡ fit_of parsed.image →
    IsTextOfTree limits Embedded tree text → IsConvertedFile limits file text
is_converted limits file parsed tree text opened can most same is =
    let image = parsed.image in
    let is_text = is.is_text ∙ ap (fit_text Embedded) same in
    record {
      image = image;
      means = opened.means;
      only = opened.only;
      can = can;
      is_text = is_text;
      converted = λ bounds file_limit deep.
          converted_is_accepted bounds Embedded image (image_of_file file image opened.means.is_file) can deep
          (omega (arith, ap length is_text, is.short, file_limit)) (omega (arith, most, file_limit));
    }

-- The error of appending this text is one of converting the file.
pub is_convert_error : (limits : Limits) (file : List ℕ) (parsed : LegacyModel) (tree : ImageTree) (error : Error) →
    IsReadLegacy limits file parsed → CanBeConverted parsed.image → tree ≡ fit_of parsed.image →
    IsFaultOrNoMemory (IsTextFault limits Embedded tree) error → IsConvertError limits file error
is_convert_error limits file parsed tree (Refused fault) opened can same is =
    TextTooLong parsed.image opened.means can (omega (arith, is.1, ap (λ tree. length (fit_text Embedded tree)) same)) is.0
is_convert_error limits file parsed tree OutOfMemory opened can same is = record { image = parsed.image; means = opened.means; can = can }
is_convert_error limits file parsed tree ReadFailed opened can same is = is
is_convert_error limits file parsed tree WriteFailed opened can same is = is
