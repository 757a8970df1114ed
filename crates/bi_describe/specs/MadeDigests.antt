use Rattle.bi_describe.specs.declared.describe.entries.PayloadDigest as made
use Rattle.bi_describe.specs.Descriptions.{PayloadDigest}

-- Digests as the code has them.

-- A digest that the code made.
abbrev pub digest_made : made.PayloadDigest → PayloadDigest
digest_made digest = record { size = digest.size; sha256 = digest.sha256 }
