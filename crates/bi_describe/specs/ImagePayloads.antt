use Rattle.std.specs.Prelude.{ℕ, List, Option, map, option_map}
use Rattle.bi_describe.specs.declared.describe.image_payload.ImagePayload.{ImagePayload}

-- The payloads of images, of which the digests are known.

-- The bytes of a payload, if there is one.
abbrev pub bytes_of_payload : ImagePayload → Option (List ℕ)
bytes_of_payload payload = option_map (λ bytes. bytes.now) payload.bytes

-- Those of these payloads.
abbrev pub bytes_of_payloads : List ImagePayload → List (Option (List ℕ))
bytes_of_payloads payloads = map bytes_of_payload payloads
