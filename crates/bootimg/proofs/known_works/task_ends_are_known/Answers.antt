use Rattle.bootimg.proofs.TaskFacts.{task_ends_are_known}
use Rattle.bootimg.proofs.known_works.task_ends_are_known.Goals as goal

pub returns : goal.returns
returns c =
    task_ends_are_known c.one_meaning.ensures c.scans_are_known.ensures c.pages_are_known.ensures c.objects_are_known.ensures
    c.nothing_inside_is_description.ensures
