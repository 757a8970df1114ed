use Rattle.std.proofs.Common.{◌≡◌, ◌∷◌, ℕ, List, [], Result, Ok, Err, IfErr, ap, rules}
use Rattle.std.proofs.Common.{map, refl, subst, sym}
use Rattle.std.specs.List.{AllZip}
use Rattle.bi_base.specs.declared.fault.Error.{Error}
use Rattle.bi_base.specs.Limits.{Limits}
use Rattle.bi_blob.specs.Lookups.{Sibling, siblings}
use Rattle.bi_blob.specs.Tree.{FileNode}
use Rattle.bi_fdt.specs.Content.{root_of}
use Rattle.bi_fit.specs.declared.image.Place.{Place}
use Rattle.bi_fit.specs.Content.{FitModel, ImageModel, IsReadImage, offset_of_place, place_of, tree_of}
use Rattle.bi_fit.specs.HashNodes.{file_configurations, file_images}
use Rattle.bi_fit.specs.Payloads.{PayloadSource, NoSource, Data, DataOffset, DataPosition, payload_place}
use Rattle.bi_fit.specs.Reading.{IsReadFit}
use Rattle.bi_common.specs.declared.format.Format.TheVariants.{Lines}
use Rattle.bi_report.specs.CheckedFiles.{IsCheckError, concerns_text}
use Rattle.bi_report.specs.Checking.{allowed_by_default}
use Rattle.bi_report.specs.FoundConcerns.{FoundConcern, HasConcerns, concerns_in}
use Rattle.bi_report.specs.ReadChecking.{IsReadCheckError}
use Rattle.bi_report.proofs.CheckedFiles.{check_error_of_tree, text_checks}
use Rattle.bi_show.specs.FitPages.{configurations_table, fit_head, fit_tables, image_heading, image_rows, reservations_table}
use Rattle.bi_show.specs.FitPages.{signatures_table}
use Rattle.bi_show.specs.Pages.{Table}
use Rattle.bi_show.specs.ReadPages.{read_image_rows}
use Rattle.bi_show.specs.ShownFiles.{AreConcernLines}

-- These lemmas put the parts of a page together.

-- The text of the concerns about a file is that of its lines.
pub lines_of_concerns : (limits : Limits) (file : List ℕ) (found all : List FoundConcern) → found ≡ all →
    HasConcerns limits file all → AreConcernLines limits file (concerns_text Lines allowed_by_default (concerns_in found))
lines_of_concerns limits file found all same has =
    text_checks Lines allowed_by_default limits file found (subst (HasConcerns limits file) (sym same) has)

-- The offset of a payload depends on its source.
pub offset_found : (file : List ℕ) (source : PayloadSource) (place : Place) → place ≡ place_of file source →
    offset_of_place place ≡ payload_place file source
offset_found file NoSource place is = ap offset_of_place is
offset_found file (Data data_property) place is = ap offset_of_place is
offset_found file (DataOffset offset size) place is = ap offset_of_place is
offset_found file (DataPosition position size) place is = ap offset_of_place is

-- The rows of images that were read are those of the images of the file.
rows_of_images : (file : List ℕ) (entries : List (Sibling FileNode)) (images : List ImageModel) → AllZip (IsReadImage file) entries images →
    read_image_rows entries images ≡ image_rows file entries (map (λ (image : ImageModel). image.payload) images)
rows_of_images file [] [] are = refl
rows_of_images file [] (image ∷ images) are = absurd are
rows_of_images file (entry ∷ entries) [] are = refl
rows_of_images file (entry ∷ entries) (image ∷ images) are = search (rules, offset_found, rows_of_images file entries images are.1)

-- The images that were read are those of the file.
pub images_of_file : (limits : Limits) (file : List ℕ) (content : FitModel) → IsReadFit limits file content →
    AllZip (IsReadImage file) (siblings (file_images content.blob)) content.images
images_of_file limits file content is =
    subst (λ (f : List ℕ). AllZip (IsReadImage f) (siblings (file_images content.blob)) content.images) is.is_file is.held.images

-- The tables of a FIT that was read from a file are those of the file.
pub tables_of_file : (limits : Limits) (file : List ℕ) (content : FitModel) (is : IsReadFit limits file content) (time : List ℕ)
    (regions : Table) →
    fit_head file (root_of content.blob) (tree_of content) time
    ∷ reservations_table content.blob.reservations
    ∷ (image_heading ∷ read_image_rows (siblings (file_images content.blob)) content.images)
    ∷ configurations_table (siblings (file_configurations content.blob))
    ∷ signatures_table content.blob.file (root_of content.blob) (tree_of content) (siblings (file_images content.blob))
    (siblings (file_configurations content.blob)) ∷ regions ∷ []
    ≡ fit_tables file is.means.is_file.root (tree_of content) time regions
tables_of_file limits file content is time regions = search (rules, rows_of_images, images_of_file)

-- An error of showing what was read from a file is one of showing the file.
pub tree_not_shown : {V : Type 0} (limits : Limits) (file : List ℕ) (content : FitModel) (result : Result V Error) →
    IsReadFit limits file content →
    IfErr result (IsReadCheckError limits content) → IfErr result (IsCheckError limits file)
tree_not_shown limits file content (Ok value) is failed = tt
tree_not_shown limits file content (Err error) is failed = check_error_of_tree limits file content error is failed
