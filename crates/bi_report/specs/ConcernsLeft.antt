use Rattle.std.specs.Prelude.{ℕ, List, ◌++◌, drop, flat_map, map}
use Rattle.std.specs.Borrow.{Bor}
use Rattle.std.specs.Global.{Vec}
use Rattle.bi_base.specs.Slices.{bytes_of}
use Rattle.bi_coverage.specs.Coverage.{SignatureConcern, SignatureCoverage}
use Rattle.bi_coverage.specs.Values.{configuration_value, signature_concern, signature_value}
use Rattle.bi_fdt.specs.Views.{node_of}
use Rattle.bi_fit.specs.Names.{all_keys}
use Rattle.bi_common.specs.HashedImages.{found_left, hashed_left}
use Rattle.bi_report.specs.declared.check.checked_image.CheckedContent.{CheckedContent}
use Rattle.bi_report.specs.declared.check.checked_image.CheckedContent.TheVariants.{Legacy, Fit}
use Rattle.bi_report.specs.declared.check.configurations.AllConfigurationConcerns as all
use Rattle.bi_report.specs.declared.check.configurations.ConfigurationConcerns as one
use Rattle.bi_report.specs.declared.check.images.AllImageConcerns.{AllImageConcerns}
use Rattle.bi_report.specs.declared.check.images.ImageConcerns.{ImageConcerns}
use Rattle.bi_fit.specs.Siblings.{siblings_left}
use Rattle.bi_report.specs.ConcernValues.{found_or_none, left_or_none}
use Rattle.bi_report.specs.declared.check.signatures.AddressConcerns.{AddressConcerns}
use Rattle.bi_report.specs.declared.check.signatures.AllSignatureConcerns.{AllSignatureConcerns}
use Rattle.bi_report.specs.declared.check.signatures.CoverageConcerns.{CoverageConcerns}
use Rattle.bi_report.specs.declared.check.signatures.SignatureConcerns.{SignatureConcerns}
use Rattle.bi_report.specs.Checking.{OfSignature, UnitAddress, signature_concerns}
use Rattle.bi_report.specs.FoundConcerns.{FoundConcern, NamedNodes, concerns_about}
use Rattle.bi_report.specs.FoundConcerns.{found_in_configuration, found_in_coverage, found_in_fit}
use Rattle.bi_report.specs.FoundConcerns.{found_in_hash, found_in_image, found_in_key}
use Rattle.bi_report.specs.FoundConcerns.{found_in_legacy}

-- The concerns that iterators have left about parts of a flattened image tree, and those about what
-- was read.

-- The concerns that are left about an image.
abbrev pub image_left : ImageConcerns → List FoundConcern
image_left left =
    found_or_none left.of_skipped
    ++ (flat_map (found_in_hash (node_of left.image)) (found_left left.hashes)
    ++ found_or_none left.of_payload)

-- Those that are left about an image and the images after it.
abbrev pub images_left : AllImageConcerns → List FoundConcern
images_left left =
    left_or_none image_left left.current ++ flat_map found_in_image (hashed_left left.images)

-- Those that are left about a configuration.
abbrev pub configuration_left : one.ConfigurationConcerns → List FoundConcern
configuration_left left =
    flat_map (found_in_key left.fit.now.images (node_of left.node)) (drop left.index all_keys)

-- Those that are left about a configuration and the configurations after it.
abbrev pub configurations_left : all.AllConfigurationConcerns → List FoundConcern
configurations_left left =
    left_or_none configuration_left left.current
    ++ flat_map (found_in_configuration left.fit.now.images) (siblings_left left.nodes)

-- Concerns about a signed node of a configuration.
abbrev pub found_in_signature : (configuration signature : List ℕ) → SignatureConcern
    → FoundConcern
found_in_signature configuration signature concern =
    record { concern = OfSignature configuration signature concern; subject = NamedNodes }

-- Those that are left about it.
abbrev pub signature_left : SignatureConcerns → List FoundConcern
signature_left left =
    map
    (λ concern. found_in_signature left.configuration.now left.name.now (signature_concern concern))
    (drop left.index left.concerns.now)

-- Those about a signed node of a configuration.
abbrev pub found_in_signed : (configuration : List ℕ) → SignatureCoverage → List FoundConcern
found_in_signed configuration signature =
    concerns_about NamedNodes (signature_concerns configuration signature)

-- Those that are left about a configuration.
abbrev pub coverage_left : CoverageConcerns → List FoundConcern
coverage_left left =
    found_or_none left.of_absence
    ++ (left_or_none signature_left left.current
    ++ flat_map (found_in_signed left.configuration.now)
    (map signature_value (drop left.index left.signatures.now)))

-- Those that are left about a configuration and the configurations after it.
abbrev pub signatures_left : AllSignatureConcerns → List FoundConcern
signatures_left left =
    left_or_none coverage_left left.current
    ++ flat_map found_in_coverage
    (map configuration_value (drop left.index left.configurations.now))

-- Concerns about the nodes with these paths.
abbrev pub found_in_paths : List (Vec (Bor (List ℕ))) → List FoundConcern
found_in_paths paths =
    map
    (λ path. record {
      concern = UnitAddress (bytes_of path.items);
      subject = NamedNodes;
    })
    paths

-- Those that are left.
abbrev pub addresses_left : AddressConcerns → List FoundConcern
addresses_left left = found_in_paths (drop left.index left.paths.now)

-- The concerns about what was read from a file.
abbrev pub found_in_content : List ℕ → CheckedContent → List FoundConcern
found_in_content file (Legacy image) = found_in_legacy file image
found_in_content file (Fit content) = found_in_fit file content
