use Rattle.std.proofs.Common.{◌≡◌, ℕ, List, [], ◌∷◌, codes, Option, None, Some, refl, ap, ◌∙◌}
use Rattle.std.specs.Fmt.{digits}
use Rattle.bi_base.specs.Cells.{cell, cell8, u32_at}
use Rattle.bi_base.specs.Crc.{crc32, crc_after, low_bits}
use Rattle.bi_base.specs.Strings.{text_before_nul}
use Rattle.bi_blob.specs.Layout.{text_of_events, text_of_blocks}
use Rattle.bi_hash.specs.Algos.{find_algorithm}
use Rattle.bi_hash.specs.Digests.{digest_of}
use Rattle.bi_hash.specs.Verdicts.{verdict_of}
use Rattle.bi_hash.specs.declared.verdicts.Verdict.{Verdict}
use Rattle.bi_hash.specs.declared.verdicts.Verdict.TheVariants.{Good, Bad, UnknownAlgo, NoPayload, Malformed}
use Rattle.bi_fit.specs.Judgement.{CheckedHash, verdicts_of}
use Rattle.bi_fit.specs.Names.{key_name, default_name, algo_name, value_name}
use Rattle.bi_fit.specs.declared.key.Key.TheVariants.{Kernel, Fdt, Ramdisk, Firmware, Loadables, Script}
use Rattle.bi_fit.specs.KnownJudgements.{configuration_lists, other_lists, default_list, hashed_tree, good_crc, short_crc, other_crc}
use Rattle.bi_fit.specs.KnownJudgements.{no_value}
use Rattle.bi_fit.proofs.JudgementFacts.{find-properties}
use Rattle.bi_common.specs.Lines.{text_of_lines}
use Rattle.bi_report.specs.Checking.{ignore_name}
use Rattle.bi_report.specs.Reports.{counts_of, hash_report_lines}
use Rattle.bi_report.specs.KnownConcerns.{ConcernsAreKnown, StrongAlgorithmsAreKnown, TrailingBytesAreKnown, AllowedKindsAreKnown}
use Rattle.bi_report.specs.KnownTexts.{ReportsAreKnown, LegacyListingsAreKnown, FitListingIsKnown, EachSourceIsListed}
use Rattle.bi_report.specs.KnownTexts.{ConfigurationLinesAreKnown}

-- Small boot images have known reports, listings and concerns.

-- The hash nodes of the tree with one of each verdict.
abbrev crc32_of_abc : List ℕ
crc32_of_abc = 0x35 ∷ 0x24 ∷ 0x41 ∷ 0xc2 ∷ []

abbrev known_hash : (image node_name algo : List ℕ) → Option (List ℕ) → Verdict → CheckedHash
known_hash image node_name algo value verdict = record {
  image = image;
  node_name = node_name;
  algo = Some algo;
  value = value;
  verdict = verdict;
}

abbrev known_hashes : List CheckedHash
known_hashes =
    known_hash (codes "a") (codes "hash-1") (codes "crc32") (Some crc32_of_abc) Good
    ∷ known_hash (codes "a") (codes "hash") (codes "crc32") (Some (0x35 ∷ 0x24 ∷ 0x41 ∷ [])) Bad
    ∷ known_hash (codes "a") (codes "hash@3") (codes "crc16-ccitt") (Some (0 ∷ 0 ∷ [])) UnknownAlgo
    ∷ known_hash (codes "a") (codes "hash-4") (codes "crc32") None Malformed
    ∷ known_hash (codes "b") (codes "hash-1") (codes "crc32") (Some crc32_of_abc) NoPayload
    ∷ []

hashes_are_known : verdicts_of hashed_tree ≡ known_hashes
unfolding text_before_nul verdict_of find_algorithm digest_of cell crc32 crc_after low_bits
hashes_are_known =
    rw (
      find-properties good_crc algo_name,
      find-properties good_crc value_name,
      find-properties short_crc algo_name,
      find-properties short_crc value_name,
      find-properties other_crc algo_name,
      find-properties other_crc value_name,
      find-properties no_value algo_name,
      find-properties no_value value_name,
    )
    refl

-- The report on hash nodes.
abbrev report : List CheckedHash → List ℕ
report hashes = text_of_lines (hash_report_lines hashes (counts_of hashes))

pub reports_are_known : ReportsAreKnown
unfolding digits
reports_are_known = record {
  legacy = refl;
  no_hashes = refl;
  hashes = ap report hashes_are_known ∙ refl;
  no_algorithm = refl;
  counts = refl;
}

pub legacy_listings_are_known : LegacyListingsAreKnown
unfolding digits cell
legacy_listings_are_known = record {
  kernel = refl;
  multi = refl;
}

pub fit_listing_is_known : FitListingIsKnown
unfolding digits text_of_events text_of_blocks cell cell8 u32_at
fit_listing_is_known = refl

pub each_source_is_listed : EachSourceIsListed
unfolding digits text_of_events text_of_blocks cell cell8 u32_at
each_source_is_listed = refl

pub configuration_lines_are_known : ConfigurationLinesAreKnown
unfolding digits text_before_nul
configuration_lines_are_known =
    rw (
      find-properties configuration_lists (key_name Kernel),
      find-properties configuration_lists (key_name Fdt),
      find-properties configuration_lists (key_name Ramdisk),
      find-properties configuration_lists (key_name Firmware),
      find-properties configuration_lists (key_name Loadables),
      find-properties configuration_lists (key_name Script),
      find-properties other_lists (key_name Kernel),
      find-properties other_lists (key_name Fdt),
      find-properties other_lists (key_name Ramdisk),
      find-properties other_lists (key_name Firmware),
      find-properties other_lists (key_name Loadables),
      find-properties other_lists (key_name Script),
      find-properties default_list default_name,
    )
    refl

pub concerns_are_known : ConcernsAreKnown
unfolding digits text_before_nul verdict_of find_algorithm digest_of text_of_events text_of_blocks cell cell8
    u32_at crc32 crc_after low_bits
concerns_are_known = record {
  hashes = rw (
    find-properties good_crc algo_name,
    find-properties good_crc value_name,
    find-properties short_crc algo_name,
    find-properties short_crc value_name,
    find-properties other_crc algo_name,
    find-properties other_crc value_name,
    find-properties no_value algo_name,
    find-properties no_value value_name,
    find-properties good_crc ignore_name,
    find-properties short_crc ignore_name,
    find-properties other_crc ignore_name,
    find-properties no_value ignore_name,
  ) refl;
  configurations = rw (
    find-properties configuration_lists (key_name Kernel),
    find-properties configuration_lists (key_name Fdt),
    find-properties configuration_lists (key_name Ramdisk),
    find-properties configuration_lists (key_name Firmware),
    find-properties configuration_lists (key_name Loadables),
    find-properties configuration_lists (key_name Script),
    find-properties other_lists (key_name Kernel),
    find-properties other_lists (key_name Fdt),
    find-properties other_lists (key_name Ramdisk),
    find-properties other_lists (key_name Firmware),
    find-properties other_lists (key_name Loadables),
    find-properties other_lists (key_name Script),
    find-properties default_list default_name,
  ) refl;
  lists_allowed = rw (
    find-properties configuration_lists (key_name Kernel),
    find-properties configuration_lists (key_name Fdt),
    find-properties configuration_lists (key_name Ramdisk),
    find-properties configuration_lists (key_name Firmware),
    find-properties configuration_lists (key_name Loadables),
    find-properties configuration_lists (key_name Script),
    find-properties other_lists (key_name Kernel),
    find-properties other_lists (key_name Fdt),
    find-properties other_lists (key_name Ramdisk),
    find-properties other_lists (key_name Firmware),
    find-properties other_lists (key_name Loadables),
    find-properties other_lists (key_name Script),
    find-properties default_list default_name,
  ) refl;
  no_algorithm = refl;
  no_default = refl;
  last_payload_ends = refl;
  zeros = refl;
  end = refl;
}

pub strong_algorithms_are_known : StrongAlgorithmsAreKnown
strong_algorithms_are_known = record {
  crc32 = refl;
  md5 = refl;
  sha1 = refl;
  sha256 = refl;
  sha384 = refl;
  sha512 = refl;
  weak = refl;
  with_strong = refl;
  bad_strong = refl;
  all_bad = refl;
}

pub trailing_bytes_are_known : TrailingBytesAreKnown
unfolding digits text_of_events text_of_blocks cell cell8 u32_at
trailing_bytes_are_known = record {
  end = refl;
  nothing = refl;
  zeros = refl;
  one = refl;
  after_zero = refl;
}

pub allowed_kinds_are_known : AllowedKindsAreKnown
allowed_kinds_are_known = record {
  nothing = refl;
  bad_hash = refl;
  skipped_hash = refl;
  unhashed = refl;
  weak_hash = refl;
  bad_list = refl;
  missing = refl;
  unsigned = refl;
  no_nodes = refl;
  no_images = refl;
  uncovered = refl;
  foreign = refl;
  strings = refl;
  unit_address = refl;
  bad_default = refl;
  trailing = refl;
  unasked = refl;
  asked = refl;
  asked_and_allowed = refl;
}
