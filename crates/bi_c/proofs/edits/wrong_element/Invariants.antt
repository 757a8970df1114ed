use Rattle.std.proofs.Common.{◌≡◌, take}
use Rattle.std.specs.List.{AllByRecursion}
use Rattle.bi_c.specs.EditCalls.{IsEditElement}
use Rattle.bi_c.proofs.edits.wrong_element.Given as goal

-- The elements so far are those of edits, and they are counted.
abbrev pub invariant-loop-element : goal.invariant-loop-element
invariant-loop-element l = record {
  counted : l.index ≡ l.element-index;
  before : AllByRecursion (IsEditElement l.input) (take l.element-index l.elements);
}
