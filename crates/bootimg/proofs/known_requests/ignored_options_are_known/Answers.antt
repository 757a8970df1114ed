use Rattle.bootimg.proofs.IgnoredOptions.{ignored_options_are_known}
use Rattle.bootimg.proofs.known_requests.ignored_options_are_known.Goals as goal

pub returns : goal.returns
returns c = ignored_options_are_known
