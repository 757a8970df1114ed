use Rattle.bi_files.proofs.BesideNames.{slashes_trimmed}
use Rattle.bi_files.proofs.directories.without_slashes.Goals as goal

pub returns : goal.returns
returns c = slashes_trimmed c.args.name.now c.trim_end_matches.result.now c.trim_end_matches.ensures.matches
