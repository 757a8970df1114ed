use Rattle.bi_report.specs.declared.list.fit.PlacedPayload.{PlacedPayload}
use Rattle.bi_report.specs.FitListing.{PayloadEntry}

-- A payload, as the code has it.
abbrev pub placed_payload_entry : PlacedPayload → PayloadEntry
placed_payload_entry payload =
    record { property = payload.property.now; offset = payload.offset; size = payload.size }
