use Rattle.std.specs.Prelude.{◌≡◌, ℕ, ◌-◌, List, [], ◌++◌, Option, Some, None, length, replicate}
use Rattle.bi_base.specs.Cells.{cell, AreBytes}
use Rattle.bi_base.specs.Crc.{crc32}
use Rattle.md5.specs.Md5.{md5}
use Rattle.sha1.specs.Sha1.{sha1}
use Rattle.sha2.specs.Sha256.{sha256}
use Rattle.sha2.specs.Sha512.{sha384, sha512}
use Rattle.bi_hash.specs.declared.algo.Algo.{Algo}
use Rattle.bi_hash.specs.declared.algo.Algo.TheVariants.{Crc32, Md5, Sha1, Sha256, Sha384, Sha512}

-- The digest of a payload: its CRC-32 as four big-endian bytes (RFC 1952, chapter 8), or its digest
-- by RFC 1321 or FIPS 180-4.
unfoldable pub digest_of : Algo → List ℕ → List ℕ
digest_of Crc32 payload = cell (crc32 payload)
digest_of Md5 payload = md5 payload
digest_of Sha1 payload = sha1 payload
digest_of Sha256 payload = sha256 payload
digest_of Sha384 payload = sha384 payload
digest_of Sha512 payload = sha512 payload

-- The digest of a payload, or no bytes if there is no payload.
abbrev pub digest_or_nothing : Algo → Option (List ℕ) → List ℕ
digest_or_nothing algo None = []
digest_or_nothing algo (Some payload) = digest_of algo payload

-- The length of a digest in bytes (RFC 1321, chapter 3.5, FIPS 180-4, chapter 1).
abbrev pub digest_size : Algo → ℕ
digest_size Crc32 = 4
digest_size Md5 = 16
digest_size Sha1 = 20
digest_size Sha256 = 32
digest_size Sha384 = 48
digest_size Sha512 = 64

-- The digest of a payload with zeros after it: as many bytes as the longest digest has.
abbrev pub padded_digest : Algo → List ℕ → List ℕ
padded_digest algo payload = digest_of algo payload ++ replicate (64 - digest_size algo) 0

-- The law that a digest is a list of bytes, of the length that its algorithm has.
abbrev pub DigestsAreBytes : Type 0
DigestsAreBytes =
    (algo : Algo) (payload : List ℕ)
    → AreBytes (digest_of algo payload) × (length (digest_of algo payload) ≡ digest_size algo)
