use Rattle.std.specs.Prelude.{ℕ, ◌<◌, List, Option, Some, None, length, sum, map}
use Rattle.bi_base.specs.Limits.{Limits}
use Rattle.bi_norm.specs.Meaning.{Meaning, OfLegacy, OfFit}

-- The bound on the payloads that a command hashes (profile of this project).

-- The length of a payload: 0 if there is none.
abbrev pub payload_length : Option (List ℕ) → ℕ
payload_length None = 0
payload_length (Some payload) = length payload

-- How many bytes the payloads of a flattened image tree have together. Bytes that several images
-- name count for each of them.
abbrev pub payloads_length : List (Option (List ℕ)) → ℕ
payloads_length payloads = sum (map payload_length payloads)

-- The payloads of the image together are longer than the limit for files. The parts of a legacy
-- image are in its file, one after the other, so together they are never longer than the limit.
abbrev pub IsOverPayloadBound : Limits → Meaning → Type 0
IsOverPayloadBound limits (OfLegacy image) = ⊥
IsOverPayloadBound limits (OfFit tree) = limits.file < payloads_length tree.payloads
