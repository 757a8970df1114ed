use Rattle.std.specs.Prelude.{ℕ, ◌≡◌, List, map, option_map}
use Rattle.bi_base.specs.Limits.{Limits}
use Rattle.bi_fit.specs.ImageTree.{ImageTree}
use Rattle.bi_legacy.specs.Meaning.{LegacyImage}
use Rattle.bi_norm.specs.Meaning.{Meaning, OfLegacy, OfFit, Means}
use Rattle.bi_common.specs.declared.format.Format.{Format}
use Rattle.bi_describe.specs.Describing.{description_text}
use Rattle.bi_describe.specs.Descriptions.{digest_of_payload}

-- What a description shows: all of a meaning but the bytes of its payloads, of which it shows the
-- lengths and the SHA-256 (profile of this project). The law is for meanings that some file has,
-- within any limits. It is the contract of a function in `laws`.

-- Two legacy images have the same header fields, and parts of the same lengths and SHA-256.
pub record AreSimilarImages (one other : LegacyImage) : Type 0 where
  pub name : one.name ≡ other.name
  pub time : one.time ≡ other.time
  pub load : one.load ≡ other.load
  pub entry : one.entry ≡ other.entry
  pub os : one.os ≡ other.os
  pub arch : one.arch ≡ other.arch
  pub image_type : one.image_type ≡ other.image_type
  pub compression : one.compression ≡ other.compression
  pub parts : map digest_of_payload one.parts ≡ map digest_of_payload other.parts

-- Two flattened image trees have the same boot processor, reservations and tree, and the same
-- images have payloads, which have the same lengths and SHA-256.
pub record AreSimilarTrees (one other : ImageTree) : Type 0 where
  pub cpu : one.cpu ≡ other.cpu
  pub reservations : one.reservations ≡ other.reservations
  pub root : one.root ≡ other.root
  pub payloads : map (option_map digest_of_payload) one.payloads
      ≡ map (option_map digest_of_payload) other.payloads

-- Two meanings are the same once each payload is replaced by its length and its SHA-256.
abbrev pub AreSimilar : Meaning → Meaning → Type 0
AreSimilar (OfLegacy one) (OfLegacy other) = AreSimilarImages one other
AreSimilar (OfFit one) (OfFit other) = AreSimilarTrees one other
AreSimilar one other = ⊥

-- Files with one description, in one form, have meanings that are the same once each payload is
-- replaced by its length and its SHA-256, whatever the limits.
abbrev pub SameDescriptionIsSimilar : Type 0
SameDescriptionIsSimilar =
    (format : Format) (limits other_limits : Limits) (file other_file : List ℕ)
    (one other : Meaning) → Means limits file one → Means other_limits other_file other
    → description_text format one ≡ description_text format other → AreSimilar one other
