use Rattle.std.proofs.Common.{List, [], ◌∷◌, ◌++◌, map, ap, ap₂, sym, ◌∙◌, append_assoc, append-nil}
use Rattle.bi_report.specs.CheckedImages.{kept_left}
use Rattle.bi_report.specs.ConcernValues.{found_value}
use Rattle.bi_report.specs.FoundConcerns.{FoundConcern, kept_found}
use Rattle.bi_c.specs.ConcernElements.{concern_element}
use Rattle.bi_c.specs.declared.concerns.ConcernElement.{ConcernElement}
use Rattle.bi_c.proofs.concerns.concern_elements.Goals as goal

pub loop-concern-init : goal.loop-concern-init
loop-concern-init c =
    ap₂ (λ (elements : List ConcernElement) (found : List FoundConcern). elements ++ map concern_element found)
    c.new-elements.ensures.items
    (ap kept_left c.into_iter-concern-iterator.ensures.into_iter_gives ∙ c.kept-concern-items.ensures
    ∙ ap (kept_found c.args.allowed) c.concerns.ensures)

pub loop-concern-preserved : goal.loop-concern-preserved
loop-concern-preserved c =
    let before : List ConcernElement = c.loop-concern.elements.items in
    let first : ConcernElement = concern_element (found_value c.in-Some.concern) in
    let later : List ConcernElement = map concern_element (kept_left c.next.new.self) in
    ap (λ (elements : List ConcernElement). elements ++ later)
    (c.in_ok-push.ensures.items ∙ ap (λ (element : ConcernElement). before ++ element ∷ []) c.concern_element.ensures)
    ∙ append_assoc before (first ∷ []) later
    ∙ ap (λ (found : List FoundConcern). before ++ map concern_element found) (sym c.in-Some.ensures.steps)
    ∙ c.loop-concern.invariant

pub returns : goal.returns
returns c =
    let before : List ConcernElement = c.loop-concern.elements.items in
    sym (append-nil before)
    ∙ ap (λ (found : List FoundConcern). before ++ map concern_element found) (sym c.in-None.ensures.steps.0)
    ∙ c.loop-concern.invariant
