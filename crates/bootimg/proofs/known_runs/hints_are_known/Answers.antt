use Rattle.bootimg.proofs.HintFacts.{failure_hints_are_known, image_writers_are_known, refused_words_are_known}
use Rattle.bootimg.proofs.known_runs.hints_are_known.Goals as goal

pub returns : goal.returns
returns c =
    record { words = refused_words_are_known; failures = failure_hints_are_known; writers = image_writers_are_known }
