use Rattle.std.specs.Prelude.{ℕ, ◌≡◌, List, [], ◌∷◌, Option, None, Some, filter, map, option_map}
use Rattle.std.specs.Prelude.{if◌then◌else◌}
use Rattle.std.specs.Borrow.{Bor}
use Rattle.std.specs.Global.{Vec}
use Rattle.bi_fdt.specs.Properties.{file_property_of}
use Rattle.bi_fdt.specs.Views.{node_of}
use Rattle.bi_fit.specs.JudgementCalls.{checked_hash_of}
use Rattle.bi_fit.specs.Judgement.{CheckedHash}
use Rattle.bi_coverage.specs.Coverage.{coverage_of}
use Rattle.bi_coverage.specs.Values.{signature_concern, configuration_value}
use Rattle.bi_fdt.specs.Content.{root_of}
use Rattle.bi_fit.specs.Content.{FitModel}
use Rattle.bi_base.specs.Slices.{bytes_of}
use Rattle.bi_common.specs.HashedImages.{found_left}
use Rattle.bi_report.specs.declared.used_hashes.UsedHashes.{UsedHashes}
use Rattle.bi_report.specs.declared.check.fit_coverage.FitCoverage.{FitCoverage}
use Rattle.bi_report.specs.SignedTrees.{addresses_below, is_any_signed}
use Rattle.bi_report.specs.declared.check.concern.Concern.{Concern as ConcernValue}
use Rattle.bi_report.specs.declared.check.concern.Concern.TheVariants as concern
use Rattle.bi_report.specs.Checking.{Concern, BadHash, SkippedHash, UnhashedImage, WeakHash}
use Rattle.bi_report.specs.Checking.{BadKey, MissingImage, Unsigned, OfSignature, UnitAddress}
use Rattle.bi_report.specs.Checking.{BadDefault, TrailingBytes, is_good}
use Rattle.bi_report.specs.FoundConcerns.{FoundConcern, Subject, HashOf, NodeItself}
use Rattle.bi_report.specs.FoundConcerns.{NamedNodes, Default, Rest, used_found}

-- Concerns as the code has them.

-- The hash nodes that are left of those of an image that U-Boot does not skip.
abbrev pub used_left : UsedHashes → List CheckedHash
used_left left = used_found (found_left left.hashes)

-- Lists of names.
abbrev pub name_lists : List (Vec (Bor (List ℕ))) → List (List (List ℕ))
name_lists lists = map (λ names. bytes_of names.items) lists

-- This is known of the signatures of a flattened image tree: what they cover, and the paths of the
-- nodes whose names have unit addresses, if one of the configurations is signed.
pub record IsCoverageOf (content : FitModel) (coverage : FitCoverage) : Type 0 where
  pub configurations : map configuration_value coverage.configurations.items ≡ coverage_of content
  pub addresses : name_lists coverage.addresses.items
      ≡ (if is_any_signed (coverage_of content)
      then addresses_below [] (root_of content.blob).children else [])

-- The concern of a value of the code.
abbrev pub concern_value : ConcernValue → Concern
concern_value (concern.BadHash image node hash) = BadHash (checked_hash_of hash)
concern_value (concern.SkippedHash image node hash) =
    let checked = checked_hash_of hash in SkippedHash checked.image checked.node_name
concern_value (concern.UnhashedImage image) = UnhashedImage (node_of image).name
concern_value (concern.WeakHash image hashes) =
    WeakHash (node_of image).name (filter is_good (used_left hashes))
concern_value (concern.BadKey node key) = BadKey (node_of node).name key
concern_value (concern.MissingImage node key index) = MissingImage (node_of node).name key index
concern_value (concern.Unsigned configuration) =
    Unsigned (option_map (λ name. name.now) configuration)
concern_value (concern.OfSignature configuration signature of_signature) =
    OfSignature configuration.now signature.now (signature_concern of_signature.now)
concern_value (concern.UnitAddress names) = UnitAddress (bytes_of names.now)
concern_value (concern.BadDefault name property) = BadDefault (option_map (λ name. name.now) name)
concern_value (concern.TrailingBytes count) = TrailingBytes count

-- What that concern is about.
abbrev pub subject_value : ConcernValue → Subject
subject_value (concern.BadHash image node hash) = HashOf (node_of image) (node_of node)
subject_value (concern.SkippedHash image node hash) = HashOf (node_of image) (node_of node)
subject_value (concern.UnhashedImage image) = NodeItself (node_of image)
subject_value (concern.WeakHash image hashes) = NodeItself (node_of image)
subject_value (concern.BadKey node key) = NodeItself (node_of node)
subject_value (concern.MissingImage node key index) = NodeItself (node_of node)
subject_value (concern.Unsigned configuration) = NamedNodes
subject_value (concern.OfSignature configuration signature of_signature) = NamedNodes
subject_value (concern.UnitAddress names) = NamedNodes
subject_value (concern.BadDefault name property) = Default (option_map file_property_of property)
subject_value (concern.TrailingBytes count) = Rest

-- The concern and what it is about.
abbrev pub found_value : ConcernValue → FoundConcern
found_value value = record { concern = concern_value value; subject = subject_value value }

-- A concern that there may be.
abbrev pub found_or_none : Option ConcernValue → List FoundConcern
found_or_none None = []
found_or_none (Some value) = found_value value ∷ []

-- Those that an iterator has left, if there is one.
abbrev pub left_or_none : {I : Type 0} → (I → List FoundConcern) → Option I → List FoundConcern
left_or_none left None = []
left_or_none left (Some iterator) = left iterator
