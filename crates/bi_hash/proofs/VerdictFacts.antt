use Rattle.std.proofs.Common.{refl, rules}
use Rattle.md5.proofs.StandardFacts.{digest_of_abc as md5_digest_of_abc}
use Rattle.sha1.proofs.StandardFacts.{digest_of_abc as sha1_digest_of_abc}
use Rattle.sha2.proofs.Facts256.{digest_of_abc_256}
use Rattle.sha2.proofs.Facts512.{digest_of_abc_384, digest_of_abc_512}
use Rattle.bi_base.specs.Cells.{cell}
use Rattle.bi_base.specs.Crc.{crc32, crc_after, low_bits}
use Rattle.bi_base.specs.Strings.{text_before_nul}
use Rattle.bi_hash.specs.Algos.{find_algorithm}
use Rattle.bi_hash.specs.Digests.{digest_of}
use Rattle.bi_hash.specs.Verdicts.{verdict_of}
use Rattle.bi_hash.specs.KnownVerdicts.{VerdictsAreKnown, VerdictsHaveOrder, EachAlgorithmIsKnown}

-- Small hash nodes have known verdicts, the first of two verdicts that apply is given, and each algorithm has a known digest of `abc`.

pub verdicts_are_known : VerdictsAreKnown
unfolding text_before_nul verdict_of find_algorithm digest_of cell crc32 crc_after low_bits
verdicts_are_known = search rules

pub verdicts_have_order : VerdictsHaveOrder
unfolding text_before_nul verdict_of find_algorithm digest_of
verdicts_have_order = search rules

-- The kit's crates compute the digests of `abc`.
pub each_algorithm_is_known : EachAlgorithmIsKnown
unfolding text_before_nul verdict_of find_algorithm digest_of cell crc32 crc_after low_bits
each_algorithm_is_known = record {
  by_crc32 = refl;
  by_md5 = rw md5_digest_of_abc refl;
  by_sha1 = rw sha1_digest_of_abc refl;
  by_sha256 = rw digest_of_abc_256 refl;
  by_sha384 = rw digest_of_abc_384 refl;
  by_sha512 = rw digest_of_abc_512 refl;
}
