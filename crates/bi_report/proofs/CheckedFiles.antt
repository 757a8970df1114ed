use Rattle.std.proofs.Common.{◌≡◌, ◌↔◌, ℕ, max, Bool, IsTrue, List, [], ◌∷◌, ◌++◌, Option, Some, rules}
use Rattle.std.proofs.Common.{None, drop, flat_map, map}
use Rattle.std.proofs.Common.{refl, sym, ap, ap₂, subst, ◌∙◌, append_assoc, inl, inr}
use Rattle.std.specs.List.{AllZip}
use Rattle.bi_base.specs.Commands.{Appended}
use Rattle.bi_base.specs.declared.fault.Error.{Error}
use Rattle.bi_base.specs.declared.fault.Error.TheVariants.{Refused, OutOfMemory, ReadFailed, WriteFailed}
use Rattle.bi_base.specs.Limits.{Limits}
use Rattle.bi_blob.specs.Blob.{totalsize}
use Rattle.bi_blob.specs.Lookups.{siblings}
use Rattle.bi_blob.specs.Tree.{Nodes, none, node, FileNode}
use Rattle.bi_fit.specs.Content.{FitModel, ImageModel, tree_of, place_of, IsReadImage}
use Rattle.bi_fit.specs.ImageTree.{image_nodes, nodes_or_none}
use Rattle.bi_fit.specs.HashNodes.{file_configurations, file_images}
use Rattle.bi_fit.specs.Payloads.{PayloadSource, NoSource, Data, DataOffset, DataPosition, source_of, IsPayload}
use Rattle.bi_fit.specs.Reading.{IsReadFit}
use Rattle.bi_legacy.specs.Reading.{LegacyModel, IsReadLegacy}
use Rattle.bi_norm.specs.Meaning.{OfLegacy, OfFit}
use Rattle.bi_norm.specs.Reading.{IsBootImageReadError}
use Rattle.bi_norm.proofs.NormalForms.{only_legacy, only_tree}
use Rattle.bi_common.specs.declared.format.Format.{Format}
use Rattle.bi_common.specs.HashedImages.{images_of_blob}
use Rattle.bi_coverage.specs.Coverage.{coverage_of}
use Rattle.bi_fdt.specs.Content.{root_of}
use Rattle.bi_report.specs.declared.check.Allowed.{Allowed}
use Rattle.bi_report.specs.CheckedFiles.{IsChecked, IsCheckError, IsCheckOutput, concerns_text}
use Rattle.bi_report.specs.Checking.{Concern, OfLegacyImage, OfImageTree, content_end, kept_concerns, payload_end, tree_concerns}
use Rattle.bi_report.specs.Checking.{Unsigned, absence_concerns, address_concerns, coverage_concerns, trailing_concerns}
use Rattle.bi_report.specs.SignedTrees.{IsOverCheckBound, coverage_in, unit_addresses}
use Rattle.bi_report.specs.FoundConcerns.{Default, FoundConcern, HasConcerns, InImageTree, InLegacyImage, Rest, concerns_in}
use Rattle.bi_report.specs.FoundConcerns.{default_property, found_in_configuration, found_in_default, found_in_fit, found_in_image}
use Rattle.bi_report.specs.FoundConcerns.{NamedNodes, concerns_about, found_in_addresses, found_in_coverage, found_in_legacy}
use Rattle.bi_report.specs.FoundConcerns.{found_in_rest, found_in_signatures}
use Rattle.bi_report.specs.ReadChecking.{IsReadCheckError, end_at, end_of_read_payloads}
use Rattle.bi_report.proofs.FoundConcerns.{concerns_in_both, concerns_in_each, only_concerns}
use Rattle.bi_report.proofs.FoundImages.{concerns_of_images}
use Rattle.bi_report.proofs.ListedResults.{concerns_of_configurations}
use Rattle.bi_report.proofs.TreeMemory.{tree_needs_memory}
use Rattle.bi_report.proofs.UnitAddresses.{addresses_of_tree}

-- The concerns about what was read from a file are those about the file, and an error of reading the file is one of checking it.

-- Where a payload ends, by its source and by where reading found it.
placed_end : (file : List ℕ) (source : PayloadSource) (payload : Option (List ℕ)) → IsPayload file source payload →
    end_at (place_of file source) payload ≡ payload_end file source payload
placed_end file NoSource None is = refl
placed_end file NoSource (Some payload) is = absurd cc
placed_end file (Data data_property) None is = absurd cc
placed_end file (Data data_property) (Some payload) is = refl
placed_end file (DataOffset offset None) payload is = absurd is
placed_end file (DataOffset offset (Some size)) None is = absurd (let e = is.is_slice in cc)
placed_end file (DataOffset offset (Some size)) (Some payload) is = refl
placed_end file (DataPosition position None) payload is = absurd is
placed_end file (DataPosition position (Some size)) None is = absurd (let e = is.is_slice in cc)
placed_end file (DataPosition position (Some size)) (Some payload) is = refl

-- Where the content of a file ends.
pub end_of_content : (file : List ℕ) (total : ℕ) (nodes : Nodes FileNode) (images : List ImageModel) → total ≡ totalsize file →
    AllZip (IsReadImage file) (siblings nodes) images →
    end_of_read_payloads total images ≡ content_end file nodes (map (λ (image : ImageModel). image.payload) images)
end_of_content file total none [] same is = same
end_of_content file total none (image ∷ images) same is = absurd is
end_of_content file total (node name own children later) [] same is = absurd is
end_of_content file total (node name own children later) (image ∷ images) same is =
    ap₂ max (ap (λ place. end_at place image.payload) is.0.place ∙ placed_end file (source_of own) image.payload is.0.payload)
    (end_of_content file total later images same is.1)

-- The image nodes of a file that was read.
abbrev pub nodes_found : (limits : Limits) (file : List ℕ) (content : FitModel) (is : IsReadFit limits file content) →
    file_images content.blob ≡ is.means.is_file.images
nodes_found limits file content is =
    ap (λ root. nodes_or_none (image_nodes root)) (sym is.same_root) ∙ ap nodes_or_none is.means.is_file.has_images

-- Where the content of a file ends, by what reading it returned.
pub content_end_read : (limits : Limits) (file : List ℕ) (content : FitModel) (is : IsReadFit limits file content) →
    end_of_read_payloads content.blob.total_size content.images ≡ content_end file is.means.is_file.images (tree_of content).payloads
content_end_read limits file content is = search (rules, end_of_content)

-- What the signatures of a flattened image tree cover that was read,
coverage_read : (limits : Limits) (file : List ℕ) (content : FitModel) (is : IsReadFit limits file content) →
    coverage_of content ≡ coverage_in file is.means.is_file.root (tree_of content)
coverage_read limits file content is =
    ap₂ (λ file root. coverage_in file root (tree_of content)) is.is_file (sym is.same_root)

-- the concerns about them,
concerns_of_signatures : (limits : Limits) (file : List ℕ) (content : FitModel) (is : IsReadFit limits file content) →
    concerns_in (found_in_signatures (coverage_of content))
    ≡ absence_concerns (coverage_in file is.means.is_file.root (tree_of content))
    ++ flat_map coverage_concerns (coverage_in file is.means.is_file.root (tree_of content))
concerns_of_signatures limits file content is =
    let coverage = coverage_of content in
    concerns_in_both (concerns_about NamedNodes (absence_concerns coverage)) (flat_map found_in_coverage coverage)
    ∙ ap₂ (λ (a b : List Concern). a ++ b) (only_concerns NamedNodes (absence_concerns coverage))
    (concerns_in_each found_in_coverage coverage_concerns (λ one. only_concerns NamedNodes (coverage_concerns one)) coverage)
    ∙ ap (λ coverage. absence_concerns coverage ++ flat_map coverage_concerns coverage) (coverage_read limits file content is)

-- and those about unit addresses.
concerns_of_addresses : (limits : Limits) (file : List ℕ) (content : FitModel) (is : IsReadFit limits file content) →
    concerns_in (found_in_addresses (coverage_of content) (unit_addresses (root_of content.blob)))
    ≡ address_concerns (coverage_in file is.means.is_file.root (tree_of content)) (unit_addresses (tree_of content).root)
concerns_of_addresses limits file content is =
    only_concerns NamedNodes _
    ∙ ap₂ address_concerns (coverage_read limits file content is) (addresses_of_tree content)

-- The concerns about a flattened image tree that was read are those about the file.
pub concerns_of_file : (limits : Limits) (file : List ℕ) (content : FitModel) (is : IsReadFit limits file content) →
    concerns_in (found_in_fit file content)
    ≡ tree_concerns (tree_of content) (coverage_in file is.means.is_file.root (tree_of content))
    ++ trailing_concerns (drop (content_end file is.means.is_file.images (tree_of content).payloads) file)
concerns_of_file limits file content is =
    let images = flat_map found_in_image (images_of_blob content) in
    let lists = flat_map (found_in_configuration content.images) (siblings (file_configurations content.blob)) in
    let signatures = found_in_signatures (coverage_of content) in
    let addresses = found_in_addresses (coverage_of content) (unit_addresses (root_of content.blob)) in
    let default = found_in_default content in
    let rest = found_in_rest (drop (end_of_read_payloads content.blob.total_size content.images) file) in
    concerns_in_both images (lists ++ (signatures ++ (addresses ++ (default ++ rest))))
    ∙ ap₂ (λ (a b : List Concern). a ++ b) (concerns_of_images content)
    (concerns_in_both lists (signatures ++ (addresses ++ (default ++ rest)))
    ∙ ap₂ (λ (a b : List Concern). a ++ b) (concerns_of_configurations content is.held)
    (concerns_in_both signatures (addresses ++ (default ++ rest))
    ∙ ap₂ (λ (a b : List Concern). a ++ b) (concerns_of_signatures limits file content is)
    (concerns_in_both addresses (default ++ rest)
    ∙ ap₂ (λ (a b : List Concern). a ++ b) (concerns_of_addresses limits file content is)
    (concerns_in_both default rest
    ∙ ap₂ (λ (a b : List Concern). a ++ b)
    (only_concerns (Default (default_property content.blob)) _)
    (only_concerns Rest _ ∙ ap (λ n. trailing_concerns (drop n file)) (content_end_read limits file content is))))))
    ∙ simp append_assoc refl

-- A legacy image that was read has the concern about the bytes after it,
pub legacy_has : (limits : Limits) (file : List ℕ) (parsed : LegacyModel) → IsReadLegacy limits file parsed →
    HasConcerns limits file (found_in_legacy file parsed)
legacy_has limits file parsed opened = record {
  meaning = OfLegacy parsed.image;
  means = record { means = opened.means; only = only_legacy limits file parsed opened };
  within = not_over;
  are_concerns = OfLegacyImage parsed opened (ap (λ (l : List Concern). Unsigned None ∷ l) (only_concerns Rest _));
  are_found = InLegacyImage parsed opened refl;
}
  where
    not_over : ¬ (IsOverCheckBound limits (OfLegacy parsed.image))
    not_over (inl over) = over
    not_over (inr over) = over

-- and a flattened image tree has all concerns about it.
pub tree_has : (limits : Limits) (file : List ℕ) (content : FitModel) → IsReadFit limits file content →
    ¬ (IsOverCheckBound limits (OfFit (tree_of content))) → HasConcerns limits file (found_in_fit file content)
tree_has limits file content is within = record {
  meaning = OfFit (tree_of content);
  means = record { means = is.means; only = only_tree limits file content is };
  within = within;
  are_concerns = OfImageTree (tree_of content) is.means (concerns_of_file limits file content is);
  are_found = InImageTree content is refl;
}

-- The text of these concerns checks the file.
pub text_checks : (format : Format) (allowed : Allowed) (limits : Limits) (file : List ℕ) (found : List FoundConcern) →
    HasConcerns limits file found → IsChecked format allowed limits file (concerns_text format allowed (concerns_in found))
text_checks format allowed limits file found has = record {
  meaning = has.meaning;
  means = has.means;
  within = has.within;
  concerns = concerns_in found;
  are_concerns = has.are_concerns;
  is_text = refl;
}

-- So does a call that appends it.
pub text_appended : {S : Type 0} (appends : S → List ℕ → S → Type 0) (format : Format) (allowed : Allowed) (limits : Limits)
    (file : List ℕ) (found : List FoundConcern) (old new : S) (clean : Bool) → HasConcerns limits file found →
    appends old (concerns_text format allowed (concerns_in found)) new →
    (IsTrue clean ↔ (kept_concerns allowed (concerns_in found) ≡ [])) →
    Appended appends (IsCheckOutput format allowed limits clean file) old new
unfolding text_checks
text_appended appends format allowed limits file found old new clean has wrote tested = record {
  text = concerns_text format allowed (concerns_in found);
  is_text = record { checked = text_checks format allowed limits file found has; is_empty = tested };
  appended = wrote;
}

-- An error of judging a flattened image tree that was read is one of checking the file.
pub check_error_of_tree : (limits : Limits) (file : List ℕ) (content : FitModel) (error : Error) → IsReadFit limits file content →
    IsReadCheckError limits content error → IsCheckError limits file error
check_error_of_tree limits file content error is (inl refused) =
    subst (IsCheckError limits file) (sym refused.0)
    (inr (record { meaning = OfFit (tree_of content); means = is.means; is_over = refused.1 }, refl))
check_error_of_tree limits file content error is (inr short) =
    subst (IsCheckError limits file) (sym short) (tree_needs_memory limits file content is)

-- An error of reading a file is one of checking it.
pub check_error_of_reading : (limits : Limits) (file : List ℕ) (error : Error) → IsBootImageReadError limits file error →
    IsCheckError limits file error
check_error_of_reading limits file (Refused fault) is = inl is
check_error_of_reading limits file OutOfMemory is = is
check_error_of_reading limits file ReadFailed is = is
check_error_of_reading limits file WriteFailed is = is
