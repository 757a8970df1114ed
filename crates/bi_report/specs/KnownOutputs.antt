use Rattle.std.specs.Prelude.{ℕ, ◌≡◌, Bool, true, false, List, [], ◌∷◌, ◌++◌, map, codes}
use Rattle.bi_base.specs.Limits.{Limits, widest}
use Rattle.bi_blob.specs.KnownTexts.{smallest_text}
use Rattle.bi_blob.specs.Tree.{none, node, Property}
use Rattle.bi_fit.specs.KnownFiles.{file_of_images, three_external}
use Rattle.bi_fit.specs.KnownJudgements.{configured_tree, good_crc, short_crc}
use Rattle.bi_fit.specs.Names.{data_name}
use Rattle.bi_hash.specs.declared.verdicts.Verdict.TheVariants.{Malformed}
use Rattle.bi_legacy.specs.KnownFiles.{kernel_file_with_rest}
use Rattle.bi_legacy.specs.KnownImages.{kernel_file}
use Rattle.bi_common.specs.declared.format.Format.{Format}
use Rattle.bi_common.specs.declared.format.Format.TheVariants.{Lines, Json}
use Rattle.bi_common.specs.Json.{json_text}
use Rattle.bi_common.specs.KnownWords.{lines}
use Rattle.bi_report.specs.CheckedFiles.{IsCheckOutput, check_promise, concerns_text}
use Rattle.bi_report.specs.Checking.{BadHash, TrailingBytes, WeakHash, allowed_by_default}
use Rattle.bi_report.specs.FitListing.{configuration_entry, configuration_object}
use Rattle.bi_report.specs.KnownConcerns.{hash_by, unsigned_tree_concerns}
use Rattle.bi_report.specs.KnownTexts.{hash_with}
use Rattle.bi_report.specs.ListedFiles.{IsListing}
use Rattle.bi_report.specs.VerifiedFiles.{IsVerifyOutput}

-- Whole outputs of commands on small files, as text and as JSON, with the value that the exit
-- status follows. A reader can judge the definitions by them.

-- A file with one image `a`, whose payload is `abc`, and with a hash node that has these
-- properties.
abbrev pub file_with_hash : List Property → List ℕ
file_with_hash properties =
    file_of_images
    (node (codes "a") ((data_name, codes "abc") ∷ [])
    (node (codes "hash-1") properties none none)
    none)
    []

-- The report on a legacy image, the report on that file with the CRC-32 of `abc`, and the one with
-- three of its four bytes, which is bad.
abbrev pub checksum_lines : List ℕ
checksum_lines = lines (codes "header crc32 good" ∷ codes "data crc32 good" ∷ [])

abbrev pub good_lines : List ℕ
good_lines =
    lines
    (codes "a hash-1 crc32 good 352441c2"
    ∷ codes "summary good 1 bad 0 unknown-algorithm 0 no-payload 0 malformed 0" ∷ [])

abbrev pub bad_lines : List ℕ
bad_lines =
    lines
    (codes "a hash-1 crc32 bad 352441"
    ∷ codes "summary good 0 bad 1 unknown-algorithm 0 no-payload 0 malformed 0" ∷ [])

-- The same as JSON.
abbrev pub checksums_object : List ℕ
checksums_object =
    lines (codes "{\"kind\":\"legacy\",\"header_crc32\":\"good\",\"data_crc32\":\"good\"}" ∷ [])

abbrev pub good_object : List ℕ
good_object =
    codes "{\"kind\":\"fit\",\"hashes\":[{\"image\":\"a\",\"node\":\"hash-1\","
    ++ (codes "\"algorithm\":\"crc32\",\"verdict\":\"good\",\"value\":\"352441c2\"}],"
    ++ (codes "\"summary\":{\"good\":1,\"bad\":0,\"unknown_algorithm\":0,"
    ++ lines (codes "\"no_payload\":0,\"malformed\":0}}" ∷ [])))

abbrev pub bad_object : List ℕ
bad_object =
    codes "{\"kind\":\"fit\",\"hashes\":[{\"image\":\"a\",\"node\":\"hash-1\","
    ++ (codes "\"algorithm\":\"crc32\",\"verdict\":\"bad\",\"value\":\"352441\"}],"
    ++ (codes "\"summary\":{\"good\":0,\"bad\":1,\"unknown_algorithm\":0,"
    ++ lines (codes "\"no_payload\":0,\"malformed\":0}}" ∷ [])))

-- What `verify` writes, and whether no verdict is other than Good. A file has one such value.
pub record VerifyOutputsAreKnown : Type 0 where
  pub legacy : IsVerifyOutput Lines widest true kernel_file checksum_lines
  pub legacy_json : IsVerifyOutput Json widest true kernel_file checksums_object
  pub no_hash : IsVerifyOutput Lines widest true smallest_text
      (lines (codes "summary good 0 bad 0 unknown-algorithm 0 no-payload 0 malformed 0" ∷ []))
  pub good : IsVerifyOutput Lines widest true (file_with_hash good_crc) good_lines
  pub good_json : IsVerifyOutput Json widest true (file_with_hash good_crc) good_object
  pub bad : IsVerifyOutput Lines widest false (file_with_hash short_crc) bad_lines
  pub bad_json : IsVerifyOutput Json widest false (file_with_hash short_crc) bad_object
  pub one : (format other_format : Format) (limits other_limits : Limits) (value other : Bool)
      (file text other_text : List ℕ) → IsVerifyOutput format limits value file text
      → IsVerifyOutput other_format other_limits other file other_text → value ≡ other

-- A file whose image has no hash node.
abbrev pub file_without_hash : List ℕ
file_without_hash =
    file_of_images (node (codes "a") ((data_name, codes "abc") ∷ []) none none) []

-- The concerns of each kind, as JSON.
abbrev pub each_concern : List ℕ
each_concern =
    codes "{\"concerns\":[{\"concern\":\"unhashed\",\"image\":\"a\"},"
    ++ (codes "{\"concern\":\"missing\",\"configuration\":\"conf-1\",\"key\":\"fdt\",\"index\":1},"
    ++ (codes "{\"concern\":\"bad-list\",\"configuration\":\"conf-1\",\"key\":\"ramdisk\"},"
    ++ (codes "{\"concern\":\"missing\",\"configuration\":\"conf-1\",\"key\":\"firmware\","
    ++ (codes "\"index\":0},{\"concern\":\"missing\",\"configuration\":\"conf-1\","
    ++ (codes "\"key\":\"loadables\",\"index\":1},{\"concern\":\"bad-list\","
    ++ (codes "\"configuration\":\"conf-2\",\"key\":\"kernel\"},"
    ++ (codes "{\"concern\":\"bad-default\",\"default\":\"conf-3\"},"
    ++ (codes "{\"concern\":\"bad-hash\",\"image\":\"a\",\"node\":\"hash-1\","
    ++ (codes "\"algorithm\":null,\"verdict\":\"malformed\"},"
    ++ (codes "{\"concern\":\"weak-hash\",\"image\":\"a\",\"algorithms\":[\"sha1\",\"md5\"]},"
    ++ lines (codes "{\"concern\":\"trailing\",\"size\":7}]}" ∷ [])))))))))))

-- Checking the file as lines, without options, gives this value and this text, and nothing
-- else.
pub record IsOnlyCheck (clean : Bool) (file text : List ℕ) : Type 0 where
  pub is_output : (check_promise Lines allowed_by_default widest).is_output clean file text
  pub is_text : (check_promise Lines allowed_by_default widest).is_text file text
  pub only : (other_clean : Bool) (other : List ℕ)
      → (check_promise Lines allowed_by_default widest).is_output other_clean file other
      → (other_clean ≡ clean) × (other ≡ text)

-- What `check` writes, and whether it leaves no concern. Concerns that are allowed are left out,
-- and do not count.
pub record CheckOutputsAreKnown : Type 0 where
  pub legacy : IsOnlyCheck true kernel_file []
  pub trailing : IsOnlyCheck false kernel_file_with_rest (lines (codes "trailing 7" ∷ []))
  pub nothing : IsCheckOutput Lines allowed_by_default widest true smallest_text []
  pub nothing_json : IsCheckOutput Json allowed_by_default widest true smallest_text
      (lines (codes "{\"concerns\":[]}" ∷ []))
  pub unhashed : IsCheckOutput Lines allowed_by_default widest false file_without_hash
      (lines (codes "unhashed a" ∷ []))
  pub unhashed_json : IsCheckOutput Json allowed_by_default widest false file_without_hash
      (lines (codes "{\"concerns\":[{\"concern\":\"unhashed\",\"image\":\"a\"}]}" ∷ []))
  pub allowed : IsCheckOutput Lines (record allowed_by_default { unhashed = true }) widest true
      file_without_hash []
  pub allowed_json : IsCheckOutput Json (record allowed_by_default { unhashed = true }) widest true
      file_without_hash
      (lines (codes "{\"concerns\":[]}" ∷ []))
  pub each_json : concerns_text Json allowed_by_default
      (unsigned_tree_concerns configured_tree
      ++ BadHash (hash_with Malformed)
      ∷ WeakHash (codes "a") (map hash_by (codes "sha1" ∷ codes "md5" ∷ []))
      ∷ TrailingBytes 7 ∷ [])
      ≡ each_concern

-- A listing of a kernel image with seven bytes after its data, as JSON.
abbrev pub kernel_object : List ℕ
kernel_object =
    codes "{\"kind\":\"legacy\",\"name\":\"k\",\"time\":0,\"load\":32768,\"entry\":32768,"
    ++ (codes "\"os\":\"linux\",\"arch\":\"arm\",\"type\":\"kernel\",\"compression\":\"none\","
    ++ lines (codes "\"parts\":[{\"offset\":64,\"size\":9}],\"unused\":7}" ∷ []))

-- One of three images whose payloads follow the blob.
abbrev pub three_object : List ℕ
three_object =
    codes "{\"kind\":\"fit\",\"boot_cpu\":0,\"total_size\":244,\"reservations\":[],\"images\":["
    ++ (codes "{\"name\":\"a\",\"payload\":{\"property\":\"data-offset\",\"offset\":244,"
    ++ (codes "\"size\":5}},{\"name\":\"b\",\"payload\":{\"property\":\"data-offset\","
    ++ (codes "\"offset\":252,\"size\":0}},{\"name\":\"c\",\"payload\":{"
    ++ (codes "\"property\":\"data-offset\",\"offset\":252,\"size\":1}}],"
    ++ lines (codes "\"configurations\":[],\"default\":null}" ∷ [])))))

-- Two configurations with a key for each way in which it lists images or none.
abbrev pub configuration_objects : List (List ℕ)
configuration_objects =
    (codes "{\"name\":\"conf-1\",\"keys\":[{\"key\":\"kernel\",\"images\":[\"a\"]},"
    ++ (codes "{\"key\":\"fdt\",\"missing\":1},{\"key\":\"ramdisk\",\"bad_list\":true},"
    ++ (codes "{\"key\":\"firmware\",\"missing\":0},{\"key\":\"loadables\",\"missing\":1}]}")))
    ∷ codes "{\"name\":\"conf-2\",\"keys\":[{\"key\":\"kernel\",\"bad_list\":true}]}" ∷ []

-- Whole listings as JSON, of both kinds, and the objects of configurations.
pub record JsonListingsAreKnown : Type 0 where
  pub legacy : IsListing Json widest kernel_file_with_rest kernel_object
  pub fit : IsListing Json widest three_external three_object
  pub configurations :
      map (λ name. json_text (configuration_object (configuration_entry configured_tree name)))
      (codes "conf-1" ∷ codes "conf-2" ∷ [])
      ≡ configuration_objects
