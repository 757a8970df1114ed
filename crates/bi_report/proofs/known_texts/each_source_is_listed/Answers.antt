use Rattle.bi_report.proofs.TextFacts.{each_source_is_listed}
use Rattle.bi_report.proofs.known_texts.each_source_is_listed.Goals as goal

pub returns : goal.returns
returns c = each_source_is_listed
