use Rattle.bi_files.proofs.NewDirectories.{no_directory_is_saved}
use Rattle.bi_files.proofs.NewFiles.{nothing_is_saved}
use Rattle.bootimg.proofs.run.run.Goals as goal

pub returns-clause-saves_nothing : goal.returns-clause-saves_nothing
returns-clause-saves_nothing g c = nothing_is_saved

pub returns-clause-saves_no_directory : goal.returns-clause-saves_no_directory
returns-clause-saves_no_directory g c = no_directory_is_saved
