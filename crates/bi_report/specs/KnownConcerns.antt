use Rattle.std.specs.Prelude.{◌≡◌, ℕ, false, true, List, [], ◌∷◌, ◌++◌, Option, None, Some, codes}
use Rattle.std.specs.Prelude.{drop}
use Rattle.std.specs.Prelude.{filter, map, option_map}
use Rattle.bi_base.specs.Cells.{cell}
use Rattle.bi_base.specs.Limits.{widest}
use Rattle.bi_blob.specs.Layout.{tree_with_places}
use Rattle.bi_blob.specs.Tree.{Nodes, none, node, Property, Root, FileNode, names}
use Rattle.bi_coverage.specs.Coverage.{ConfigurationCoverage}
use Rattle.bi_fit.specs.ImageTree.{ImageTree, image_nodes}
use Rattle.bi_fit.specs.Judgement.{CheckedHash, configuration_nodes}
use Rattle.bi_fit.specs.KnownFiles.{file_of_images, region_of, three_external, three_tree}
use Rattle.bi_fit.specs.KnownFiles.{tree_with_images}
use Rattle.bi_fit.specs.KnownJudgements.{configured_tree, hashed_tree}
use Rattle.bi_hash.specs.declared.verdicts.Verdict.TheVariants.{Good, Bad, Malformed}
use Rattle.bi_legacy.specs.KnownFaults.{file_of_data}
use Rattle.bi_legacy.specs.KnownFiles.{kernel_file_with_rest, multi_data_with_rest}
use Rattle.bi_legacy.specs.KnownImages.{kernel_file}
use Rattle.bi_common.specs.declared.format.Format.TheVariants.{Lines}
use Rattle.bi_common.specs.KnownWords.{lines}
use Rattle.bi_report.specs.declared.check.Allowed.{Allowed}
use Rattle.bi_report.specs.declared.check.ConcernKind.{ConcernKind}
use Rattle.bi_report.specs.declared.check.ConcernKind.TheVariants as kind
use Rattle.bi_report.specs.CheckedFiles.{concerns_text}
use Rattle.bi_report.specs.Checking.{Concern, BadHash, TrailingBytes, Unsigned, AreConcerns}
use Rattle.bi_report.specs.Checking.{JudgedHash, allowed_by_default, allowed_under, allows, skips}
use Rattle.bi_report.specs.Checking.{kind_word, content_end, default_concerns}
use Rattle.bi_report.specs.Checking.{hashed_concerns, nothing_allowed, trailing_concerns}
use Rattle.bi_report.specs.Checking.{tree_concerns}
use Rattle.bi_report.specs.CleanFiles.{IsClean}
use Rattle.bi_report.specs.KnownTexts.{hash_with, three_root}

-- The concerns about small trees, by which a reader can judge the definitions.

-- What signatures cover of a tree without signed nodes, and the concerns about it.
abbrev pub unsigned_coverage : ImageTree → List ConfigurationCoverage
unsigned_coverage tree =
    map (λ name. record { name = name; signatures = [] }) (names (configuration_nodes tree))

abbrev pub unsigned_tree_concerns : ImageTree → List Concern
unsigned_tree_concerns tree = tree_concerns tree (unsigned_coverage tree)

-- The lines of the concerns about a tree with a hash node of each verdict, and about one whose
-- configurations have lists of each kind and whose default is none of them. With lists allowed, the
-- second has those of the image and of the default. A hash node may have no algorithm, and a
-- configuration may be there without a default. The payloads of a file of 253 bytes end where it
-- ends. Zeros after an image are not a concern.
pub record ConcernsAreKnown : Type 0 where
  pub hashes : concerns_text Lines allowed_by_default (unsigned_tree_concerns hashed_tree)
      ≡ lines
      (codes "bad-hash a hash crc32 bad"
      ∷ codes "bad-hash a hash@3 crc16-ccitt unknown-algorithm"
      ∷ codes "bad-hash a hash-4 crc32 malformed"
      ∷ codes "weak-hash a crc32"
      ∷ codes "bad-hash b hash-1 crc32 no-payload"
      ∷ [])
  pub configurations :
      concerns_text Lines allowed_by_default (unsigned_tree_concerns configured_tree)
      ≡ lines
      (codes "unhashed a"
      ∷ codes "missing conf-1 fdt 1"
      ∷ codes "bad-list conf-1 ramdisk"
      ∷ codes "missing conf-1 firmware 0"
      ∷ codes "missing conf-1 loadables 1"
      ∷ codes "bad-list conf-2 kernel"
      ∷ codes "bad-default conf-3"
      ∷ [])
  pub lists_allowed : concerns_text Lines
      (record allowed_by_default { bad_list = true; missing = true })
      (unsigned_tree_concerns configured_tree)
      ≡ lines (codes "unhashed a" ∷ codes "bad-default conf-3" ∷ [])
  pub no_algorithm : concerns_text Lines allowed_by_default (BadHash (hash_with Malformed) ∷ [])
      ≡ lines (codes "bad-hash a hash-1 - malformed" ∷ [])
  pub no_default :
      concerns_text Lines allowed_by_default (default_concerns None (codes "conf-1" ∷ []))
      ≡ lines (codes "bad-default -" ∷ [])
  pub last_payload_ends : option_map
      (λ images. content_end three_external images three_tree.payloads)
      (image_nodes three_root)
      ≡ Some 253
  pub zeros : trailing_concerns (0 ∷ 0 ∷ []) ≡ []
  pub end : concerns_text Lines allowed_by_default (trailing_concerns (0 ∷ 43 ∷ 0 ∷ []))
      ≡ lines (codes "trailing 3" ∷ [])

-- A hash node of the image `a` that names this algorithm, with the verdict Good.
abbrev pub hash_by : (algorithm : List ℕ) → CheckedHash
hash_by algorithm = record {
  image = codes "a";
  node_name = codes "hash-1";
  algo = Some algorithm;
  value = Some [];
  verdict = Good;
}

-- The lines about an image with a payload and these hash nodes.
abbrev pub judged_lines : List JudgedHash → List ℕ
judged_lines hashes =
    concerns_text Lines allowed_by_default (hashed_concerns (codes "a") (Some (codes "abc")) hashes)

-- A hash node with this value of `uboot-ignore`, if it has one.
abbrev pub judged_with : (ignore : Option (List ℕ)) → CheckedHash → JudgedHash
judged_with ignore hash = record { checked = hash; is_skipped = skips ignore }

-- The lines about an image with a payload and these hash nodes, of which U-Boot skips none.
abbrev pub lines_about : List CheckedHash → List ℕ
lines_about hashes = judged_lines (map (judged_with None) hashes)

-- Good verdicts by CRC-32, MD5 and SHA-1 are not enough, and one by SHA-256, SHA-384 or SHA-512 is.
pub record StrongAlgorithmsAreKnown : Type 0 where
  pub crc32 : lines_about (hash_by (codes "crc32") ∷ [])
      ≡ lines (codes "weak-hash a crc32" ∷ [])
  pub md5 : lines_about (hash_by (codes "md5") ∷ [])
      ≡ lines (codes "weak-hash a md5" ∷ [])
  pub sha1 : lines_about (hash_by (codes "sha1") ∷ [])
      ≡ lines (codes "weak-hash a sha1" ∷ [])
  pub sha256 : lines_about (hash_by (codes "sha256") ∷ []) ≡ []
  pub sha384 : lines_about (hash_by (codes "sha384") ∷ []) ≡ []
  pub sha512 : lines_about (hash_by (codes "sha512") ∷ []) ≡ []
  pub weak : lines_about (map hash_by (codes "sha1" ∷ codes "md5" ∷ codes "crc32" ∷ []))
      ≡ lines (codes "weak-hash a sha1 md5 crc32" ∷ [])
  pub with_strong : lines_about (map hash_by (codes "md5" ∷ codes "sha512" ∷ [])) ≡ []
  pub bad_strong : lines_about
      (record (hash_by (codes "sha256")) { verdict = Bad } ∷ hash_by (codes "sha1") ∷ [])
      ≡ lines (codes "bad-hash a hash-1 sha256 bad" ∷ codes "weak-hash a sha1" ∷ [])
  pub all_bad : lines_about (record (hash_by (codes "sha256")) { verdict = Bad } ∷ [])
      ≡ lines (codes "bad-hash a hash-1 sha256 bad" ∷ codes "unhashed a" ∷ [])

-- U-Boot skips a hash node with a property `uboot-ignore` of four bytes that are not all zero. Its
-- verdict is still a concern, and it protects nothing.
pub record SkippedHashesAreKnown : Type 0 where
  pub skipped : judged_lines (judged_with (Some (cell 1)) (hash_by (codes "sha256")) ∷ [])
      ≡ lines (codes "skipped-hash a hash-1" ∷ codes "unhashed a" ∷ [])
  pub bad_and_skipped : judged_lines
      (judged_with
      (Some (cell 0x01000000))
      (record (hash_by (codes "sha256")) { verdict = Bad })
      ∷ judged_with None (hash_by (codes "sha512"))
      ∷ [])
      ≡ lines
      (codes "bad-hash a hash-1 sha256 bad" ∷ codes "skipped-hash a hash-1" ∷ [])
  pub weak : judged_lines
      (judged_with None (hash_by (codes "crc32"))
      ∷ judged_with (Some (cell 1)) (hash_by (codes "sha256"))
      ∷ judged_with None (hash_by (codes "sha1"))
      ∷ [])
      ≡ lines (codes "skipped-hash a hash-1" ∷ codes "weak-hash a crc32 sha1" ∷ [])
  pub zero : judged_lines (judged_with (Some (cell 0)) (hash_by (codes "sha256")) ∷ []) ≡ []
  pub three_bytes :
      judged_lines (judged_with (Some (0 ∷ 0 ∷ 1 ∷ [])) (hash_by (codes "sha256")) ∷ []) ≡ []
  pub no_bytes : judged_lines (judged_with (Some []) (hash_by (codes "sha256")) ∷ []) ≡ []

-- Two images, the payload of the first of which follows that of the second.
abbrev pub late_images : Nodes (List Property)
late_images =
    node (codes "a") (region_of 8 1) none (node (codes "b") (region_of 0 5) none none)

abbrev pub payloads_of_late : List (Option (List ℕ))
payloads_of_late = Some (codes "x") ∷ Some (codes "hello") ∷ []

abbrev pub late_root : Root FileNode
late_root = tree_with_places [] (tree_with_images late_images)

-- A file with these images, whose blob has 200 bytes, and with these bytes after both payloads.
abbrev pub late_file : List ℕ → List ℕ
late_file rest =
    file_of_images late_images (codes "hello" ++ 0 ∷ 0 ∷ 0 ∷ codes "x" ++ rest)

-- Where the content of this file ends, and the lines about the bytes after it.
abbrev pub late_end : List ℕ → Option ℕ
late_end rest =
    option_map
    (λ images. content_end (late_file rest) images payloads_of_late)
    (image_nodes late_root)

abbrev pub late_lines : List ℕ → Option (List ℕ)
late_lines rest =
    option_map
    (λ end. concerns_text Lines allowed_by_default (trailing_concerns (drop end (late_file rest))))
    (late_end rest)

-- The content ends with the payload that ends last, of whichever image it is.
pub record TrailingBytesAreKnown : Type 0 where
  pub end : late_end (codes "+") ≡ Some 209
  pub nothing : late_lines [] ≡ Some []
  pub zeros : late_lines (0 ∷ 0 ∷ []) ≡ Some []
  pub one : late_lines (codes "+") ≡ Some (lines (codes "trailing 1" ∷ []))
  pub after_zero : late_lines (0 ∷ codes "+") ≡ Some (lines (codes "trailing 2" ∷ []))

-- A file has these concerns and no others.
pub record HasOnlyConcerns (file : List ℕ) (concerns : List Concern) : Type 0 where
  pub are_concerns : AreConcerns widest file concerns
  pub only : (others : List Concern) → AreConcerns widest file others → others ≡ concerns

-- The bytes after the last part of a legacy image are those that have a line: the seven bytes after
-- the data of a kernel image, and the two bytes after the last part in the data of a multi-file
-- image. Without such bytes the image is clean, and so it is if they are allowed. A legacy image
-- has no signature, so it is not clean if one is asked for.
pub record LegacyConcernsAreKnown : Type 0 where
  pub after_data : HasOnlyConcerns kernel_file_with_rest (Unsigned None ∷ TrailingBytes 7 ∷ [])
  pub after_data_is_not_clean : ¬ (IsClean allowed_by_default widest kernel_file_with_rest)
  pub after_data_is_allowed :
      IsClean (record allowed_by_default { trailing = true }) widest kernel_file_with_rest
  pub in_data : HasOnlyConcerns (file_of_data 4 multi_data_with_rest)
      (Unsigned None ∷ TrailingBytes 2 ∷ [])
  pub in_data_is_not_clean :
      ¬ (IsClean allowed_by_default widest (file_of_data 4 multi_data_with_rest))
  pub nothing : HasOnlyConcerns kernel_file (Unsigned None ∷ [])
  pub nothing_is_clean : IsClean allowed_by_default widest kernel_file
  pub signature_is_asked_for : ¬ (IsClean nothing_allowed widest kernel_file)

-- The kinds, each once.
abbrev pub each_kind : List ConcernKind
each_kind =
    kind.BadHash ∷ kind.SkippedHash ∷ kind.Unhashed ∷ kind.WeakHash ∷ kind.BadList ∷ kind.Missing
    ∷ kind.Unsigned ∷ kind.NoNodes ∷ kind.NoImages ∷ kind.Uncovered ∷ kind.Foreign ∷ kind.Strings
    ∷ kind.UnitAddress ∷ kind.BadDefault ∷ kind.Trailing ∷ []

-- The words for those that are allowed.
abbrev pub allowed_words : Allowed → List (List ℕ)
allowed_words allowed = map kind_word (filter (allows allowed) each_kind)

-- Each kind is allowed by its own name. A lack of signatures is allowed unless it is asked about.
pub record AllowedKindsAreKnown : Type 0 where
  pub nothing : allowed_words nothing_allowed ≡ []
  pub bad_hash : allowed_words (record nothing_allowed { bad_hash = true })
      ≡ codes "bad-hash" ∷ []
  pub skipped_hash : allowed_words (record nothing_allowed { skipped_hash = true })
      ≡ codes "skipped-hash" ∷ []
  pub unhashed : allowed_words (record nothing_allowed { unhashed = true })
      ≡ codes "unhashed" ∷ []
  pub weak_hash : allowed_words (record nothing_allowed { weak_hash = true })
      ≡ codes "weak-hash" ∷ []
  pub bad_list : allowed_words (record nothing_allowed { bad_list = true })
      ≡ codes "bad-list" ∷ []
  pub missing : allowed_words (record nothing_allowed { missing = true })
      ≡ codes "missing" ∷ []
  pub unsigned : allowed_words (record nothing_allowed { unsigned = true })
      ≡ codes "unsigned" ∷ []
  pub no_nodes : allowed_words (record nothing_allowed { no_nodes = true })
      ≡ codes "no-nodes" ∷ []
  pub no_images : allowed_words (record nothing_allowed { no_images = true })
      ≡ codes "no-images" ∷ []
  pub uncovered : allowed_words (record nothing_allowed { uncovered = true })
      ≡ codes "uncovered" ∷ []
  pub foreign : allowed_words (record nothing_allowed { foreign = true })
      ≡ codes "foreign" ∷ []
  pub strings : allowed_words (record nothing_allowed { strings = true })
      ≡ codes "strings" ∷ []
  pub unit_address : allowed_words (record nothing_allowed { unit_address = true })
      ≡ codes "unit-address" ∷ []
  pub bad_default : allowed_words (record nothing_allowed { bad_default = true })
      ≡ codes "bad-default" ∷ []
  pub trailing : allowed_words (record nothing_allowed { trailing = true })
      ≡ codes "trailing" ∷ []
  pub unasked : allowed_words (allowed_under (record { allowed = nothing_allowed; signed = false }))
      ≡ codes "unsigned" ∷ []
  pub asked : allowed_words (allowed_under (record { allowed = nothing_allowed; signed = true }))
      ≡ []
  pub asked_and_allowed : allowed_words
      (allowed_under
      (record { allowed = record nothing_allowed { unsigned = true }; signed = true }))
      ≡ codes "unsigned" ∷ []
