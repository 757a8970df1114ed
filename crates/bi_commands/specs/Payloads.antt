use Rattle.std.specs.Prelude.{◌≡◌, List, map, string_bytes}
use Rattle.bi_base.specs.Errors.{IsFaultOrNoMemory}
use Rattle.bi_base.specs.declared.fault.Error.{Error}
use Rattle.bi_base.specs.Limits.{Limits}
use Rattle.bi_base.specs.Reading.{too_large}
use Rattle.bi_norm.specs.Meaning.{Meaning}
use Rattle.bi_common.specs.PayloadBounds.{IsOverPayloadBound}
use Rattle.bi_commands.specs.declared.extract_all.Payload.{Payload}
use Rattle.bi_commands.specs.declared.extract_all.Payloads.{Payloads}
use Rattle.bi_commands.specs.ExtractingAll.{PayloadFile}

-- The payloads that `extract_all` returns.

-- The file of a payload.
abbrev pub payload_file : Payload → PayloadFile
payload_file payload = record {
  name = string_bytes payload.file_name;
  bytes = payload.bytes.now;
}

-- The files of these payloads.
abbrev pub payloads_model : Payloads → List PayloadFile
payloads_model payloads = map payload_file payloads.payloads.items

-- The error that collecting the payloads of a meaning can have, whatever file it was read from:
-- TooLarge at the limit, if they are over the payload bound, or that memory ran out.
abbrev pub IsPayloadError : Limits → Meaning → Error → Type 0
IsPayloadError limits meaning =
    IsFaultOrNoMemory
    (λ fault. IsOverPayloadBound limits meaning × (fault ≡ too_large limits.file))
