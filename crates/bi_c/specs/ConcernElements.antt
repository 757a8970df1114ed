use Rattle.std.specs.Prelude.{ℕ, ◌≡◌, List, Option, None, Some, map}
use Rattle.std.specs.List.{AllZip}
use Rattle.bi_blob.specs.Lookups.{property_named}
use Rattle.bi_report.specs.declared.check.ConcernKind.{ConcernKind}
use Rattle.bi_report.specs.declared.check.ConcernKind.TheVariants as kind
use Rattle.bi_report.specs.Checking.{Concern, BadHash, SkippedHash, UnhashedImage, WeakHash, BadKey}
use Rattle.bi_report.specs.Checking.{MissingImage, BadDefault, TrailingBytes, kept_concerns}
use Rattle.bi_report.specs.Checking.{kind_of}
use Rattle.bi_report.specs.FoundConcerns.{FoundConcern, Subject, HashOf, NodeItself, Default}
use Rattle.bi_report.specs.FoundConcerns.{NamedNodes, Rest, HasConcerns, concerns_in, kept_found}
use Rattle.bi_fit.specs.Names.{algo_name}
use Rattle.bi_fit.specs.declared.key.Key.{Key}
use Rattle.bi_fit.specs.declared.key.Key.TheVariants.{Kernel, Fdt, Ramdisk, Firmware, Loadables}
use Rattle.bi_fit.specs.declared.key.Key.TheVariants.{Script}
use Rattle.bi_c.specs.Arguments.{allowed_by, bounds}
use Rattle.bi_c.specs.Calls.{HasKinds}
use Rattle.bi_c.specs.ImageElements.{HasPayloadBytes}
use Rattle.bi_c.specs.TreeRegions.{name_region_of}
use Rattle.bi_c.specs.VerdictElements.{found_text_region, nowhere, verdict_number}
use Rattle.bi_c.specs.declared.concerns.ConcernElement.{ConcernElement}
use Rattle.bi_c.specs.declared.region.Region.{Region}

-- The concerns about a boot image, as a call from C returns them (profile of this project).

-- ---- numbers

-- The number of a kind of concerns, which is also the bit that allows it.
abbrev pub concern_number : ConcernKind → ℕ
concern_number kind.BadHash = 1
concern_number kind.SkippedHash = 128
concern_number kind.Unhashed = 2
concern_number kind.WeakHash = 4
concern_number kind.BadList = 8
concern_number kind.Missing = 16
concern_number kind.Unsigned = 256
concern_number kind.NoNodes = 512
concern_number kind.NoImages = 1024
concern_number kind.Uncovered = 2048
concern_number kind.Foreign = 4096
concern_number kind.Strings = 8192
concern_number kind.UnitAddress = 16384
concern_number kind.BadDefault = 32
concern_number kind.Trailing = 64

-- The number of a key of a configuration.
abbrev pub key_number : Key → ℕ
key_number Kernel = 0
key_number Fdt = 1
key_number Ramdisk = 2
key_number Firmware = 3
key_number Loadables = 4
key_number Script = 5

-- The number of the verdict that a concern is about.
abbrev pub verdict_in : Concern → ℕ
verdict_in (BadHash hash) = verdict_number hash.verdict
verdict_in other = 0

-- The number of the key that a concern is about.
abbrev pub key_in : Concern → ℕ
key_in (BadKey configuration key) = key_number key
key_in (MissingImage configuration key index) = key_number key
key_in other = 0

-- The index of the name that no image has, in the list of a key.
abbrev pub index_in : Concern → ℕ
index_in (MissingImage configuration key index) = index
index_in other = 0

-- The number of the bytes after the image.
abbrev pub size_in : Concern → ℕ
size_in (TrailingBytes count) = count
size_in other = 0

-- ---- texts

-- The name in a concern: that of an image, that of a configuration, or the default. One about
-- signatures is without names: its line has them.
abbrev pub name_in : Concern → Option (List ℕ)
name_in (BadHash hash) = Some hash.image
name_in (SkippedHash image hash) = Some image
name_in (UnhashedImage image) = Some image
name_in (WeakHash image good) = Some image
name_in (BadKey configuration key) = Some configuration
name_in (MissingImage configuration key index) = Some configuration
name_in (BadDefault default) = default
name_in other = None

-- The name of the hash node that a concern is about.
abbrev pub hash_name_in : Concern → Option (List ℕ)
hash_name_in (BadHash hash) = Some hash.node_name
hash_name_in (SkippedHash image hash) = Some hash
hash_name_in other = None

-- The algorithm of the hash node whose verdict is not good.
abbrev pub algorithm_in : Concern → Option (List ℕ)
algorithm_in (BadHash hash) = hash.algo
algorithm_in other = None

-- ---- regions

-- Where the name of what a concern is about is.
abbrev pub name_place : Subject → Region
name_place (HashOf image hash) = name_region_of image
name_place (NodeItself node) = name_region_of node
name_place (Default property) = found_text_region property
name_place NamedNodes = nowhere
name_place Rest = nowhere

-- Where the name of the hash node is, if a concern is about one.
abbrev pub hash_name_place : Subject → Region
hash_name_place (HashOf image hash) = name_region_of hash
hash_name_place other = nowhere

-- Where the name of its algorithm is, if its verdict is not good and it has one.
abbrev pub algorithm_place : Concern → Subject → Region
algorithm_place (BadHash hash) (HashOf image node) =
    found_text_region (property_named node.own.properties algo_name)
algorithm_place concern subject = nowhere

-- ---- elements

-- The element of a concern.
abbrev pub concern_element : FoundConcern → ConcernElement
concern_element found = record {
  name = name_place found.subject;
  node = hash_name_place found.subject;
  algorithm = algorithm_place found.concern found.subject;
  index = index_in found.concern;
  size = size_in found.concern;
  kind = concern_number (kind_of found.concern);
  verdict = verdict_in found.concern;
  key = key_in found.concern;
}

-- The element is that of a concern. Each text that is there is in its region.
pub record IsConcernElement (file : List ℕ) (element : ConcernElement) (concern : Concern) : Type 0
  where
    pub name : HasPayloadBytes file element.name (name_in concern)
    pub node : HasPayloadBytes file element.node (hash_name_in concern)
    pub algorithm : HasPayloadBytes file element.algorithm (algorithm_in concern)
    pub index : element.index ≡ index_in concern
    pub size : element.size ≡ size_in concern
    pub kind : element.kind ≡ concern_number (kind_of concern)
    pub verdict : element.verdict ≡ verdict_in concern
    pub key : element.key ≡ key_in concern

-- The elements are those of the concerns about the file that the policy does not allow, in their
-- order.
pub record AreConcernElements (limit depth kinds : ℕ) (file : List ℕ)
    (elements : List ConcernElement) (value : ℕ) : Type 0
  where
    pub arguments : HasKinds limit depth kinds
    pub found : List FoundConcern
    pub has_concerns : HasConcerns (bounds limit depth) file found
    pub are_elements : elements ≡ map concern_element (kept_found (allowed_by kinds) found)
    pub are_concerns :
        AllZip (IsConcernElement file) elements
        (kept_concerns (allowed_by kinds) (concerns_in found))
    pub no_value : value ≡ 0
