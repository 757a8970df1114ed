use Rattle.std.specs.Prelude.{◌≡◌, ◌⊎◌, ℕ, ◌+◌, max, List, [], ◌∷◌, Option}
use Rattle.bi_base.specs.declared.fault.Error.{Error}
use Rattle.bi_base.specs.declared.fault.Error.TheVariants.{OutOfMemory, Refused}
use Rattle.bi_base.specs.Limits.{Limits}
use Rattle.bi_base.specs.Reading.{too_large}
use Rattle.bi_fit.specs.declared.image.Place.{Place}
use Rattle.bi_fit.specs.declared.image.Place.TheVariants.{Absent, Data, DataOffset, DataPosition}
use Rattle.bi_fit.specs.Content.{FitModel, ImageModel, tree_of}
use Rattle.bi_norm.specs.Meaning.{OfFit}
use Rattle.bi_common.specs.PayloadBounds.{payload_length}
use Rattle.bi_report.specs.SignedTrees.{IsOverCheckBound}

-- Where the content of a file ends, by what reading it returned, and the errors of checking it.

-- The offset of a payload, 0 if there is none.
abbrev pub offset_at : Place → ℕ
offset_at Absent = 0
offset_at (Data offset) = offset
offset_at (DataOffset offset) = offset
offset_at (DataPosition offset) = offset

-- Where a payload at this place ends, 0 if there is none.
abbrev pub end_at : Place → Option (List ℕ) → ℕ
end_at place payload = offset_at place + payload_length payload

-- Where the last of a blob of this size and these images ends.
abbrev pub end_of_read_payloads : (total_size : ℕ) → List ImageModel → ℕ
end_of_read_payloads total_size [] = total_size
end_of_read_payloads total_size (image ∷ later) =
    max (end_at image.place image.payload) (end_of_read_payloads total_size later)

-- The error that checking can have: TooLarge at the limit if the payloads or the needed paths are
-- over their bound, or that memory ran out.
abbrev pub IsReadCheckError : Limits → FitModel → Error → Type 0
IsReadCheckError limits content error =
    (error ≡ Refused (too_large limits.file) × IsOverCheckBound limits (OfFit (tree_of content)))
    ⊎ (error ≡ OutOfMemory)
