use Rattle.bi_common.proofs.PrintedTexts.{json_lines_are_ascii}
use Rattle.bi_common.proofs.known_texts.json_lines_are_ascii.Goals as goal

pub returns : goal.returns
returns c = json_lines_are_ascii
