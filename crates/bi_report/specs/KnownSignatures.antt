use Rattle.std.specs.Prelude.{◌≡◌, ℕ, List, [], ◌∷◌, ◌++◌, None, codes, flat_map, map}
use Rattle.bi_blob.specs.Tree.{Nodes, none, node, Root}
use Rattle.bi_coverage.specs.Coverage.{ConfigurationCoverage, SignatureConcern, NoNodes, NoImages}
use Rattle.bi_coverage.specs.Coverage.{Uncovered, Foreign, Strings}
use Rattle.bi_common.specs.declared.format.Format.{Format}
use Rattle.bi_common.specs.declared.format.Format.TheVariants.{Lines, Json}
use Rattle.bi_common.specs.KnownWords.{lines}
use Rattle.bi_report.specs.CheckedFiles.{concerns_text}
use Rattle.bi_report.specs.Checking.{absence_concerns, address_concerns, allowed_by_default}
use Rattle.bi_report.specs.Checking.{coverage_concerns, nothing_allowed}
use Rattle.bi_report.specs.Checking.{SkippedHash, UnitAddress, Unsigned}
use Rattle.bi_report.specs.SignedTrees.{unit_addresses}

-- The concerns about signatures, by which a reader can judge the definitions.

-- A configuration with a signed node, about which there are these concerns.
abbrev pub signed_by : List SignatureConcern → ConfigurationCoverage
signed_by concerns = record {
  name = codes "conf-1";
  signatures = record { name = codes "signature-1"; concerns = concerns } ∷ [];
}

-- A configuration without one.
abbrev pub unsigned_example : ConfigurationCoverage
unsigned_example = record { name = codes "conf 2"; signatures = [] }

-- The lines about configurations with this coverage, if signatures are asked for.
abbrev pub signature_lines : List ConfigurationCoverage → List ℕ
signature_lines coverage =
    concerns_text Lines nothing_allowed
    (absence_concerns coverage ++ flat_map coverage_concerns coverage)

-- A tree in which three names have a unit address.
abbrev pub addressed_root : Root (List ℕ)
addressed_root = record {
  own = [];
  children = node (codes "images") []
      (node (codes "kernel@1") []
      (node (codes "hash@1") [] none none)
      (node (codes "fdt-1") [] none none))
      (node (codes "@") [] none none);
}

-- The lines about unit addresses.
abbrev pub address_lines : List ConfigurationCoverage → List ℕ
address_lines coverage =
    concerns_text Lines allowed_by_default
    (address_concerns coverage (unit_addresses addressed_root))

-- Each concern about a signed node has a line, and so has a configuration without one, if
-- signatures are asked for, or the lack of configurations. Unit addresses have lines only if there
-- is a signed node.
pub record SignatureConcernsAreKnown : Type 0 where
  pub no_nodes : signature_lines (signed_by (NoNodes ∷ []) ∷ [])
      ≡ lines (codes "no-nodes conf-1 signature-1" ∷ [])
  pub others : signature_lines
      (unsigned_example
      ∷ signed_by
      (NoImages ∷ Uncovered (codes "/") ∷ Uncovered (codes "/images/ramdisk-1")
      ∷ Foreign (codes "/images/x y") ∷ Strings ∷ [])
      ∷ [])
      ≡ lines
      (codes "unsigned conf%202"
      ∷ codes "no-images conf-1 signature-1"
      ∷ codes "uncovered conf-1 signature-1 /"
      ∷ codes "uncovered conf-1 signature-1 /images/ramdisk-1"
      ∷ codes "foreign conf-1 signature-1 /images/x%20y"
      ∷ codes "strings conf-1 signature-1"
      ∷ [])
  pub covered : signature_lines (signed_by [] ∷ []) ≡ []
  pub no_configuration : signature_lines [] ≡ lines (codes "unsigned -" ∷ [])
  pub addresses : address_lines (unsigned_example ∷ signed_by [] ∷ [])
      ≡ lines
      (codes "unit-address /images/kernel@1"
      ∷ codes "unit-address /images/kernel@1/hash@1"
      ∷ codes "unit-address /@"
      ∷ [])
  pub no_signed_node : address_lines (unsigned_example ∷ []) ≡ []
  pub json : concerns_text Json allowed_by_default
      (coverage_concerns (signed_by (Uncovered (codes "/images/ramdisk-1") ∷ [])))
      ≡ lines
      ((codes "{\"concerns\":[{\"concern\":\"uncovered\",\"configuration\":\"conf-1\","
      ++ codes "\"signature\":\"signature-1\",\"path\":\"/images/ramdisk-1\"}]}")
      ∷ [])
  pub other_json : concerns_text Json nothing_allowed
      (SkippedHash (codes "a") (codes "hash-1")
      ∷ Unsigned None
      ∷ UnitAddress (codes "-" ∷ codes "a@1" ∷ [])
      ∷ [])
      ≡ lines
      ((codes "{\"concerns\":[{\"concern\":\"skipped-hash\",\"image\":\"a\",\"node\":\"hash-1\"},"
      ++ (codes "{\"concern\":\"unsigned\",\"configuration\":null},"
      ++ codes "{\"concern\":\"unit-address\",\"path\":\"/%2D/a@1\"}]}"))
      ∷ [])
