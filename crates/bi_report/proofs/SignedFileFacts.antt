use Rattle.std.proofs.Common.{◌≡◌, [], ◌∷◌, ◌++◌, codes, refl}
use Rattle.bi_base.specs.Cells.{cell, cell8, u32_at}
use Rattle.bi_base.specs.Strings.{text_before_nul}
use Rattle.bi_blob.specs.Layout.{text_of_events, text_of_blocks}
use Rattle.bi_hash.proofs.VerdictFacts.{each_algorithm_is_known}
use Rattle.bi_fit.specs.Names.{algo_name, default_name, value_name}
use Rattle.bi_fit.proofs.BuildFacts.{entries_in_order}
use Rattle.bi_fit.proofs.JudgementFacts.{find-properties}
use Rattle.bi_report.specs.KnownSignedFiles.{SignedFileIsKnown}

-- A signed file has known concerns.

pub signed_file_is_known : SignedFileIsKnown
unfolding text_of_events text_of_blocks cell cell8 u32_at text_before_nul
signed_file_is_known = record {
  uncovered = simp (find-properties, entries_in_order, each_algorithm_is_known.by_sha256);
  image_alone = simp (find-properties, entries_in_order, each_algorithm_is_known.by_sha256);
  covered = simp (find-properties, entries_in_order, each_algorithm_is_known.by_sha256);
  no_strings = simp (find-properties, entries_in_order, each_algorithm_is_known.by_sha256);
  foreign = simp (find-properties, entries_in_order, each_algorithm_is_known.by_sha256);
  no_nodes = simp (find-properties, entries_in_order, each_algorithm_is_known.by_sha256);
  json = simp (find-properties, entries_in_order, each_algorithm_is_known.by_sha256);
  allowed = simp (find-properties, entries_in_order, each_algorithm_is_known.by_sha256);
  skipped = simp (find-properties, entries_in_order, each_algorithm_is_known.by_sha256);
  not_skipped = simp (find-properties, entries_in_order, each_algorithm_is_known.by_sha256);
  three_bytes = simp (find-properties, entries_in_order, each_algorithm_is_known.by_sha256);
  unit_address = simp (find-properties, entries_in_order, each_algorithm_is_known.by_sha256);
}
