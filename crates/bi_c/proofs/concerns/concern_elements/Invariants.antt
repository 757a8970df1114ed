use Rattle.std.proofs.Common.{◌≡◌, ◌++◌, map}
use Rattle.bi_report.specs.CheckedImages.{found_of, kept_left}
use Rattle.bi_report.specs.FoundConcerns.{kept_found}
use Rattle.bi_c.specs.ConcernElements.{concern_element}
use Rattle.bi_c.proofs.concerns.concern_elements.Given as goal

-- The elements so far and those of the concerns that are left are all elements.
abbrev pub invariant-loop-concern : goal.invariant-loop-concern
invariant-loop-concern l =
    l.elements.items ++ map concern_element (kept_left l.concern-iterator)
    ≡ map concern_element (kept_found l.fn.allowed (found_of l.fn.image))
