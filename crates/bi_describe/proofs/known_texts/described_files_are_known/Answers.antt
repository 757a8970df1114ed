use Rattle.bi_describe.proofs.DescribedFileFacts.{described_files_are_known}
use Rattle.bi_describe.proofs.known_texts.described_files_are_known.Goals as goal

pub returns : goal.returns
returns c = described_files_are_known c.one_meaning.ensures
