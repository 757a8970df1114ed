use Rattle.std.proofs.Common.{◌≡◌, take, drop}
use Rattle.std.specs.List.{AllByRecursion, AllZip}
use Rattle.bi_c.specs.EditCalls.{IsEditElement, IsEditOf}
use Rattle.bi_c.proofs.edits.edits_of.Given as goal

-- The edits so far are those of the elements so far. The elements that are left are those of edits.
abbrev pub invariant-loop-element : goal.invariant-loop-element
invariant-loop-element l = record {
  counted : l.index ≡ l.element-index;
  so_far : AllZip (IsEditOf l.input) (take l.element-index l.elements) l.edits.items;
  left : AllByRecursion (IsEditElement l.input) (drop l.element-index l.elements);
}
