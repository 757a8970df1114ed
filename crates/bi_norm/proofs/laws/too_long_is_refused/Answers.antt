use Rattle.bi_norm.proofs.FilesWithoutMeaning.{too_long_is_file_fault, too_long_is_not_converted, too_long_means_nothing}
use Rattle.bi_norm.proofs.laws.too_long_is_refused.Goals as goal

pub returns : goal.returns
returns c = record {
  is_fault = too_long_is_file_fault;
  means_nothing = too_long_means_nothing;
  is_convert_fault = too_long_is_not_converted;
}
