use Rattle.std.specs.Prelude.{ℕ, List, map}
use Rattle.bi_describe.specs.declared.describe.part.DescribedPart.{DescribedPart}
use Rattle.bi_describe.specs.Descriptions.{PayloadDigest, digest_of_payload}

-- The parts of a legacy image, of which the digests are known.

-- The bytes of these parts.
abbrev pub bytes_of_parts : List DescribedPart → List (List ℕ)
bytes_of_parts parts = map (λ part. part.bytes.now) parts

-- A part as a description shows it.
abbrev pub digest_of_part : DescribedPart → PayloadDigest
digest_of_part part = digest_of_payload part.bytes.now
