use Rattle.std.proofs.Common.{◌≡◌, ◌∷◌, ◌++◌, ℕ, ◌+◌, Bool, List, [], ap, ap₂, length, map, refl, subst, ◌∙◌, rules}
use Rattle.std.specs.List.{AllZip}
use Rattle.bi_base.specs.Limits.{Limits}
use Rattle.bi_blob.specs.Lookups.{Sibling, siblings}
use Rattle.bi_blob.specs.Tree.{FileNode, Nodes, none, node, names}
use Rattle.bi_fit.specs.Content.{FitModel, ImageModel, IsReadImage, tree_of}
use Rattle.bi_fit.specs.HashNodes.{file_images}
use Rattle.bi_fit.specs.Payloads.{source_of}
use Rattle.bi_fit.specs.Reading.{IsReadFit}
use Rattle.bi_report.specs.Checking.{content_end}
use Rattle.bi_report.specs.ReadChecking.{end_of_read_payloads}
use Rattle.bi_report.proofs.CheckedFiles.{content_end_read, nodes_found}
use Rattle.bi_show.specs.declared.show.layout.LayoutRegion.{LayoutRegion}
use Rattle.bi_show.specs.FitPages.{fit_regions}
use Rattle.bi_show.specs.Layouts.{IsLayoutIf, region_of_payload, payload_regions}
use Rattle.bi_show.specs.Pages.{Table}
use Rattle.bi_show.specs.ReadPages.{read_image_names, read_payload_regions, read_regions}
use Rattle.bi_show.proofs.ShownPages.{images_of_file, offset_found}

-- The layout of what was read from a file is that of the file.

-- The names of the images are those of the file,
names_found : (file : List ℕ) (nodes : Nodes FileNode) (images : List ImageModel) → AllZip (IsReadImage file) (siblings nodes) images →
    read_image_names images ≡ names nodes
names_found file none [] are = refl
names_found file none (image ∷ images) are = absurd are
names_found file (node name own children later) [] are = absurd are
names_found file (node name own children later) (image ∷ images) are =
    ap₂ (λ (first : List ℕ) (others : List (List ℕ)). first ∷ others) are.0.name (names_found file later images are.1)

-- and so are the regions of the payloads,
payloads_found : (file : List ℕ) (index : ℕ) (entries : List (Sibling FileNode)) (images : List ImageModel) →
    AllZip (IsReadImage file) entries images →
    read_payload_regions index images ≡ payload_regions file index entries (map (λ (image : ImageModel). image.payload) images)
payloads_found file index [] [] are = refl
payloads_found file index [] (image ∷ images) are = absurd are
payloads_found file index (entry ∷ entries) [] are = absurd are
payloads_found file index (entry ∷ entries) (image ∷ images) are =
    ap₂ (λ (first others : List LayoutRegion). first ++ others)
    (ap (region_of_payload index image.payload) (offset_found file (source_of entry.own) image.place are.0.place))
    (payloads_found file (index + 1) entries images are.1)

-- all regions,
regions_found : (limits : Limits) (file : List ℕ) (content : FitModel) (is : IsReadFit limits file content) →
    read_regions content ≡ fit_regions file is.means.is_file.root (tree_of content)
regions_found limits file content is = search (rules, payloads_found, images_of_file)

-- and their table.
pub layout_found : (wanted : Bool) (limits : Limits) (file : List ℕ) (content : FitModel) (is : IsReadFit limits file content)
    (table : Table) →
    IsLayoutIf wanted (read_image_names content.images) (read_regions content)
    (end_of_read_payloads content.blob.total_size content.images) (length content.blob.file) table →
    IsLayoutIf wanted (names is.means.is_file.images) (fit_regions file is.means.is_file.root (tree_of content))
    (content_end file is.means.is_file.images (tree_of content).payloads) (length file) table
layout_found wanted limits file content is table laid_out =
    let named : read_image_names content.images ≡ names is.means.is_file.images =
    names_found file (file_images content.blob) content.images (images_of_file limits file content is)
    ∙ ap (λ (nodes : Nodes FileNode). names nodes) (nodes_found limits file content is) in
    let regions = fit_regions file is.means.is_file.root (tree_of content) in
    let end = content_end file is.means.is_file.images (tree_of content).payloads in
    subst (λ (f : List ℕ). IsLayoutIf wanted (names is.means.is_file.images) regions end (length f) table) is.is_file
    (subst (λ (e : ℕ). IsLayoutIf wanted (names is.means.is_file.images) regions e (length content.blob.file) table)
    (content_end_read limits file content is)
    (subst (λ (l : List LayoutRegion). IsLayoutIf wanted (names is.means.is_file.images) l
    (end_of_read_payloads content.blob.total_size content.images) (length content.blob.file) table)
    (regions_found limits file content is)
    (subst (λ (l : List (List ℕ)). IsLayoutIf wanted l (read_regions content)
    (end_of_read_payloads content.blob.total_size content.images) (length content.blob.file) table)
    named laid_out)))
