use Rattle.std.proofs.Common.{refl}
use Rattle.bi_base.specs.Cells.{cell}
use Rattle.bi_report.specs.KnownConcerns.{SkippedHashesAreKnown}
use Rattle.bi_report.specs.KnownSignatures.{SignatureConcernsAreKnown}

-- Hash nodes that U-Boot skips, and concerns about signatures, have known lines.

pub skipped_hashes_are_known : SkippedHashesAreKnown
unfolding cell
skipped_hashes_are_known = record {
  skipped = refl;
  bad_and_skipped = refl;
  weak = refl;
  zero = refl;
  three_bytes = refl;
  no_bytes = refl;
}

pub signature_concerns_are_known : SignatureConcernsAreKnown
signature_concerns_are_known = record {
  no_nodes = refl;
  others = refl;
  covered = refl;
  no_configuration = refl;
  addresses = refl;
  no_signed_node = refl;
  json = refl;
  other_json = refl;
}
