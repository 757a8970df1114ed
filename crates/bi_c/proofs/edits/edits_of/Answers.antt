use Rattle.std.proofs.Common.{◌≡◌, ◌+◌, ◌∷◌, [], ◌++◌, take, drop, get_or, add-one, drop-cons, arith, sym, subst}
use Rattle.std.proofs.lemmas.List.{take_more}
use Rattle.std.specs.List.{AllByRecursion, AllZip}
use Rattle.bi_common.proofs.UnshownNames.{some_holds}
use Rattle.bi_c.specs.declared.edits.EditElement.{EditElement}
use Rattle.bi_c.specs.EditCalls.{IsEditElement, IsEditOf}
use Rattle.bi_c.proofs.EditElements.{one_edit_added}
use Rattle.bi_c.proofs.edits.edits_of.Goals as goal

-- A list of elements has no element past its end.
abbrev no_element : EditElement
no_element = record {
  word = record { offset = 0; size = 0 };
  payload = record { offset = 0; size = 0 };
  kind = 0;
  number = 0;
}

pub loop-element-preserved : goal.loop-element-preserved
loop-element-preserved c =
    let input = c.args.input.now in
    let elements = c.args.elements.now in
    let index = c.loop-element.element-index in
    let element = get_or elements index no_element in
    let within = c.loop-element-test.true in
    let first : drop index elements ≡ element ∷ drop (index + 1) elements = rw add-one (drop-cons elements index no_element within) in
    let items = c.loop-element.edits.items in
    let pushed : c.push.new.self.items ≡ items ++ c.in-Some.edit ∷ [] = rw c.in-Ok-push.is at c.push.ensures.items in
    record {
      counted = omega (arith, c.loop-element.invariant.counted);
      so_far = subst (λ front. AllZip (IsEditOf input) front c.push.new.self.items) (sym (take_more elements index no_element within))
          (subst (AllZip (IsEditOf input) (take index elements ++ element ∷ [])) (sym pushed)
          (one_edit_added input (take index elements) items element c.in-Some.edit c.loop-element.invariant.so_far
          (some_holds (IsEditOf input element) c.in-Ok.found c.in-Some.edit c.in-Some.is c.in-Ok.ensures.some)));
      left = (subst (AllByRecursion (IsEditElement input)) first c.loop-element.invariant.left).1;
    }
