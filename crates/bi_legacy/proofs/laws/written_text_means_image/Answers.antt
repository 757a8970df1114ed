use Rattle.bi_legacy.proofs.NoEmitFault.{no_emit_fault_image}
use Rattle.bi_legacy.proofs.TextMeans.{legacy_text_means}
use Rattle.bi_legacy.proofs.laws.written_text_means_image.Goals as goal

pub returns : goal.returns
returns c = λ image limits ranges name_bytes parts_bytes fits none. record {
  is_file = legacy_text_means image (no_emit_fault_image image limits ranges name_bytes parts_bytes fits none);
  short = none.1.1.0;
}
