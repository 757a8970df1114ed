use Rattle.std.specs.Prelude.{◌≡◌, ℕ, List, [], ◌∷◌, ◌++◌, codes, Option, Some, None}
use Rattle.bi_hash.specs.Verdicts.{verdict_of}
use Rattle.bi_hash.specs.declared.verdicts.Verdict.{Verdict}
use Rattle.bi_hash.specs.declared.verdicts.Verdict.TheVariants.{Malformed, UnknownAlgo}
use Rattle.bi_hash.specs.declared.verdicts.Verdict.TheVariants.{NoPayload, Good, Bad}

-- Hash nodes with their verdicts, by which a reader can judge the definitions (the verdicts and
-- their order are the profile of this project).

-- The property `algo` with the name of an algorithm that is known, and with one that is not.
abbrev pub known_algo : Option (List ℕ)
known_algo = Some (codes "crc32" ++ 0 ∷ [])

abbrev pub unknown_algo : Option (List ℕ)
unknown_algo = Some (codes "crc16-ccitt" ++ 0 ∷ [])

-- The payload `abc`, and the property `value` with its CRC-32.
abbrev pub known_payload : Option (List ℕ)
known_payload = Some (codes "abc")

abbrev pub known_value : Option (List ℕ)
known_value = Some (0x35 ∷ 0x24 ∷ 0x41 ∷ 0xc2 ∷ [])

-- Each verdict.
pub record VerdictsAreKnown : Type 0 where
  pub good : verdict_of known_algo known_value known_payload ≡ Good
  pub after_nul :
      verdict_of (Some (codes "crc32" ++ 0 ∷ codes "x")) known_value known_payload ≡ Good
  pub empty_payload : verdict_of known_algo (Some (0 ∷ 0 ∷ 0 ∷ 0 ∷ [])) (Some []) ≡ Good
  pub too_short : verdict_of known_algo (Some (0x35 ∷ 0x24 ∷ 0x41 ∷ [])) known_payload ≡ Bad
  pub too_long :
      verdict_of known_algo (Some (0x35 ∷ 0x24 ∷ 0x41 ∷ 0xc2 ∷ 0 ∷ [])) known_payload ≡ Bad
  pub empty_value : verdict_of known_algo (Some []) known_payload ≡ Bad
  pub other_payload : verdict_of known_algo known_value (Some (codes "abd")) ≡ Bad
  pub no_payload : verdict_of known_algo known_value None ≡ NoPayload
  pub unknown : verdict_of unknown_algo known_value known_payload ≡ UnknownAlgo
  pub empty_name : verdict_of (Some (0 ∷ [])) known_value known_payload ≡ UnknownAlgo
  pub no_value : verdict_of known_algo None known_payload ≡ Malformed
  pub no_algo : verdict_of None known_value known_payload ≡ Malformed
  pub no_nul : verdict_of (Some (codes "crc32")) known_value known_payload ≡ Malformed

-- Hash nodes to which two verdicts apply: the first in their order is given.
pub record VerdictsHaveOrder : Type 0 where
  pub value_before_unknown : verdict_of unknown_algo None known_payload ≡ Malformed
  pub value_before_payload : verdict_of known_algo None None ≡ Malformed
  pub algo_before_payload : verdict_of None known_value None ≡ Malformed
  pub nul_before_unknown :
      verdict_of (Some (codes "crc16-ccitt")) known_value known_payload ≡ Malformed
  pub nul_before_payload : verdict_of (Some (codes "crc32")) known_value None ≡ Malformed
  pub unknown_before_payload : verdict_of unknown_algo known_value None ≡ UnknownAlgo
  pub nothing : verdict_of None None None ≡ Malformed

-- The digests of `abc`: by MD5 (RFC 1321, A.5), and by SHA-1, SHA-256, SHA-384 and SHA-512 (NIST,
-- examples of FIPS 180).
abbrev pub md5_of_abc : List ℕ
md5_of_abc =
    0x90 ∷ 0x01 ∷ 0x50 ∷ 0x98 ∷ 0x3c ∷ 0xd2 ∷ 0x4f ∷ 0xb0
    ∷ 0xd6 ∷ 0x96 ∷ 0x3f ∷ 0x7d ∷ 0x28 ∷ 0xe1 ∷ 0x7f ∷ 0x72 ∷ []

abbrev pub sha1_of_abc : List ℕ
sha1_of_abc =
    0xa9 ∷ 0x99 ∷ 0x3e ∷ 0x36 ∷ 0x47 ∷ 0x06 ∷ 0x81 ∷ 0x6a
    ∷ 0xba ∷ 0x3e ∷ 0x25 ∷ 0x71 ∷ 0x78 ∷ 0x50 ∷ 0xc2 ∷ 0x6c
    ∷ 0x9c ∷ 0xd0 ∷ 0xd8 ∷ 0x9d ∷ []

abbrev pub sha256_of_abc : List ℕ
sha256_of_abc =
    0xba ∷ 0x78 ∷ 0x16 ∷ 0xbf ∷ 0x8f ∷ 0x01 ∷ 0xcf ∷ 0xea
    ∷ 0x41 ∷ 0x41 ∷ 0x40 ∷ 0xde ∷ 0x5d ∷ 0xae ∷ 0x22 ∷ 0x23
    ∷ 0xb0 ∷ 0x03 ∷ 0x61 ∷ 0xa3 ∷ 0x96 ∷ 0x17 ∷ 0x7a ∷ 0x9c
    ∷ 0xb4 ∷ 0x10 ∷ 0xff ∷ 0x61 ∷ 0xf2 ∷ 0x00 ∷ 0x15 ∷ 0xad ∷ []

abbrev pub sha384_of_abc : List ℕ
sha384_of_abc =
    0xcb ∷ 0x00 ∷ 0x75 ∷ 0x3f ∷ 0x45 ∷ 0xa3 ∷ 0x5e ∷ 0x8b
    ∷ 0xb5 ∷ 0xa0 ∷ 0x3d ∷ 0x69 ∷ 0x9a ∷ 0xc6 ∷ 0x50 ∷ 0x07
    ∷ 0x27 ∷ 0x2c ∷ 0x32 ∷ 0xab ∷ 0x0e ∷ 0xde ∷ 0xd1 ∷ 0x63
    ∷ 0x1a ∷ 0x8b ∷ 0x60 ∷ 0x5a ∷ 0x43 ∷ 0xff ∷ 0x5b ∷ 0xed
    ∷ 0x80 ∷ 0x86 ∷ 0x07 ∷ 0x2b ∷ 0xa1 ∷ 0xe7 ∷ 0xcc ∷ 0x23
    ∷ 0x58 ∷ 0xba ∷ 0xec ∷ 0xa1 ∷ 0x34 ∷ 0xc8 ∷ 0x25 ∷ 0xa7 ∷ []

abbrev pub sha512_of_abc : List ℕ
sha512_of_abc =
    0xdd ∷ 0xaf ∷ 0x35 ∷ 0xa1 ∷ 0x93 ∷ 0x61 ∷ 0x7a ∷ 0xba
    ∷ 0xcc ∷ 0x41 ∷ 0x73 ∷ 0x49 ∷ 0xae ∷ 0x20 ∷ 0x41 ∷ 0x31
    ∷ 0x12 ∷ 0xe6 ∷ 0xfa ∷ 0x4e ∷ 0x89 ∷ 0xa9 ∷ 0x7e ∷ 0xa2
    ∷ 0x0a ∷ 0x9e ∷ 0xee ∷ 0xe6 ∷ 0x4b ∷ 0x55 ∷ 0xd3 ∷ 0x9a
    ∷ 0x21 ∷ 0x92 ∷ 0x99 ∷ 0x2a ∷ 0x27 ∷ 0x4f ∷ 0xc1 ∷ 0xa8
    ∷ 0x36 ∷ 0xba ∷ 0x3c ∷ 0x23 ∷ 0xa3 ∷ 0xfe ∷ 0xeb ∷ 0xbd
    ∷ 0x45 ∷ 0x4d ∷ 0x44 ∷ 0x23 ∷ 0x64 ∷ 0x3c ∷ 0xe8 ∷ 0x0e
    ∷ 0x2a ∷ 0x9a ∷ 0xc9 ∷ 0x4f ∷ 0xa5 ∷ 0x4c ∷ 0xa4 ∷ 0x9f ∷ []

-- The verdict on a hash node that names an algorithm and has this value, with the payload `abc`.
abbrev pub verdict_on_abc : (algorithm value : List ℕ) → Verdict
verdict_on_abc algorithm value =
    verdict_of (Some (algorithm ++ 0 ∷ [])) (Some value) known_payload

-- The name of each algorithm, with the digest of `abc` that it gives.
pub record EachAlgorithmIsKnown : Type 0 where
  pub by_crc32 : verdict_on_abc (codes "crc32") (0x35 ∷ 0x24 ∷ 0x41 ∷ 0xc2 ∷ []) ≡ Good
  pub by_md5 : verdict_on_abc (codes "md5") md5_of_abc ≡ Good
  pub by_sha1 : verdict_on_abc (codes "sha1") sha1_of_abc ≡ Good
  pub by_sha256 : verdict_on_abc (codes "sha256") sha256_of_abc ≡ Good
  pub by_sha384 : verdict_on_abc (codes "sha384") sha384_of_abc ≡ Good
  pub by_sha512 : verdict_on_abc (codes "sha512") sha512_of_abc ≡ Good
