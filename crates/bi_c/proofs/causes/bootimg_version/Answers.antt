use Rattle.std.proofs.Common.{refl}
use Rattle.bi_c.proofs.CallAnswers.{buffer_is_filled}
use Rattle.bi_c.proofs.causes.bootimg_version.Goals as goal

pub returns : goal.returns
returns c =
    buffer_is_filled _ _ c.as_bytes.result.now _ _ 0 _ _ (record { is_version = c.as_bytes.ensures.value; no_value = refl })
    c.fill.ensures.answer c.fill.ensures.filled
