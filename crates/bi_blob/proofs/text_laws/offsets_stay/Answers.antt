use Rattle.bi_blob.proofs.Texts.Offsets.{offsets_stay, new_offset_is_at_end}
use Rattle.bi_blob.proofs.text_laws.offsets_stay.Goals as goal

pub returns : goal.returns
returns c = record { used = offsets_stay; new = new_offset_is_at_end }
