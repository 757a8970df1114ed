use Rattle.std.proofs.Common.{◌≡◌, ℕ, zero, suc, ◌*◌, List, length, refl, length-append, rules}
use Rattle.std.specs.Prelude.{slice_index}
use Rattle.bi_base.specs.Cells.{cell, AreBytes}
use Rattle.bi_base.specs.Crc.{crc32}
use Rattle.bi_base.proofs.CellLaws.{length-cell}
use Rattle.md5.specs.Md5.{md5, digest_bytes as md5_bytes}
use Rattle.md5.proofs.StandardFacts.{length-md5}
use Rattle.sha1.specs.Sha1.{sha1, digest_bytes as sha1_bytes}
use Rattle.sha2.specs.Sha256.{sha256, digest_bytes as sha256_bytes}
use Rattle.sha2.proofs.Facts256.{length-sha256}
use Rattle.sha2.specs.Sha512.{sha384, sha512, digest_bytes as sha512_bytes}
use Rattle.sha2.proofs.Facts512.{length-sha384, length-sha512}
use Rattle.bi_hash.specs.declared.algo.Algo.{Algo}
use Rattle.bi_hash.specs.declared.algo.Algo.TheVariants.{Crc32, Md5, Sha1, Sha256, Sha384, Sha512}
use Rattle.bi_hash.specs.Digests.{digest_of, digest_size}
use Rattle.bi_base.proofs.ByteLists.{AreBytes-none, AreBytes-append, AreBytes-take}
use Rattle.bi_hash.proofs.WordBytes.{AreBytes-be_word, AreBytes-le_word, AreBytes-be_long}

-- Proves that a digest is a list of bytes, of the length that its algorithm has.

-- The words of an MD5 hash value are written as bytes.
AreBytes-md5 : (h : List ℕ) (n : ℕ) → AreBytes (md5_bytes h n)
unfolding md5_bytes
AreBytes-md5 h zero = AreBytes-none
AreBytes-md5 h (suc n) = AreBytes-append (md5_bytes h n) _ (AreBytes-md5 h n) (AreBytes-le_word (slice_index h n))

-- The words of a SHA-1 hash value are written as bytes.
AreBytes-sha1 : (h : List ℕ) (n : ℕ) → AreBytes (sha1_bytes h n)
unfolding sha1_bytes
AreBytes-sha1 h zero = AreBytes-none
AreBytes-sha1 h (suc n) = AreBytes-append (sha1_bytes h n) _ (AreBytes-sha1 h n) (AreBytes-be_word (slice_index h n))

-- The words of a SHA-256 hash value are written as bytes.
AreBytes-sha256 : (h : List ℕ) (n : ℕ) → AreBytes (sha256_bytes h n)
unfolding sha256_bytes
AreBytes-sha256 h zero = AreBytes-none
AreBytes-sha256 h (suc n) = AreBytes-append (sha256_bytes h n) _ (AreBytes-sha256 h n) (AreBytes-be_word (slice_index h n))

-- The words of a SHA-512 hash value are written as bytes.
AreBytes-sha512 : (h : List ℕ) (n : ℕ) → AreBytes (sha512_bytes h n)
unfolding sha512_bytes
AreBytes-sha512 h zero = AreBytes-none
AreBytes-sha512 h (suc n) = AreBytes-append (sha512_bytes h n) _ (AreBytes-sha512 h n) (AreBytes-be_long (slice_index h n))

-- A SHA-1 hash value has four bytes for each word.
length-sha1 : (h : List ℕ) (n : ℕ) → length (sha1_bytes h n) ≡ n * 4
unfolding sha1_bytes
length-sha1 h zero = refl
length-sha1 h (suc n) = search (rules, length-append, length-sha1 h n)

-- A digest is a list of bytes.
pub AreBytes-digest_of : (algo : Algo) (payload : List ℕ) → AreBytes (digest_of algo payload)
unfolding digest_of cell md5 sha1 sha256 sha384 sha512
AreBytes-digest_of Crc32 payload = AreBytes-be_word (crc32 payload)
AreBytes-digest_of Md5 payload = AreBytes-md5 _ 4
AreBytes-digest_of Sha1 payload = AreBytes-sha1 _ 5
AreBytes-digest_of Sha256 payload = AreBytes-sha256 _ 8
AreBytes-digest_of Sha384 payload = AreBytes-take 48 _ (AreBytes-sha512 _ 8)
AreBytes-digest_of Sha512 payload = AreBytes-sha512 _ 8

-- A digest has the length that its algorithm gives.
pub length-digest_of : (algo : Algo) (payload : List ℕ) → length (digest_of algo payload) ≡ digest_size algo
unfolding digest_of sha1
length-digest_of Crc32 payload = length-cell (crc32 payload)
length-digest_of Md5 payload = length-md5 payload
length-digest_of Sha1 payload = length-sha1 _ 5
length-digest_of Sha256 payload = length-sha256 payload
length-digest_of Sha384 payload = length-sha384 payload
length-digest_of Sha512 payload = length-sha512 payload
