use Rattle.std.proofs.Common.{◌≡◌, ◌≢◌, ℕ, ◌<◌, List, [], length, get_or, drop, arith, sym, ◌∙◌, subst}
use Rattle.std.proofs.lemmas.List.{drop_all, length-map}
use Rattle.bi_base.specs.Checks.{HasNoFault}
use Rattle.std.specs.Borrow.{Bor}
use Rattle.std.proofs.lemmas.Bool.{eqb-true, eqb-false}
use Rattle.bi_base.specs.Slices.{bytes_of}
use Rattle.bi_legacy.specs.Emitting.{EmitPartPasses, emit_part_checks}
use Rattle.bi_legacy.proofs.EmitParts.{drop-bytes_of, empty_here, empty_later, none_empty}
use Rattle.bi_legacy.proofs.emitting.check_parts.Goals as goal

pub returns-then-is_empty-clause-fault : goal.returns-then-is_empty-clause-fault
returns-then-is_empty-clause-fault c =
    let parts = c.args.parts.now in
    let index = c.loop-index.index in
    let nothing : Bor (List ℕ) = record { ref_ptr = (0, 0); now = [] } in
    let e = drop-bytes_of parts index nothing (omega arith) in
    rw (c.refuse.ensures, c.table_offset.ensures)
    (c.loop-index.invariant.fault _ (empty_here index _ _ _ e (eqb-true _ 0 (sym c.is_empty.ensures ∙ c.if-is_empty.true))))

pub loop-index-preserved : goal.loop-index-preserved
loop-index-preserved c =
    let parts = c.args.parts.now in
    let index = c.loop-index.index in
    let nothing : Bor (List ℕ) = record { ref_ptr = (0, 0); now = [] } in
    let e = drop-bytes_of parts index nothing (omega arith) in
    let some : length (get_or parts index nothing).now ≢ 0 = eqb-false _ 0 (sym c.is_empty.ensures ∙ c.if-is_empty.false) in
    let longer : 0 < length (get_or parts index nothing).now = omega arith in
    record {
      ok = λ rest. c.loop-index.invariant.ok (none_empty index _ _ _ e longer rest);
      fault = λ fault rest. c.loop-index.invariant.fault fault (empty_later index _ _ _ fault e longer rest);
    }

pub returns-clause-ok : goal.returns-clause-ok
returns-clause-ok c =
    let parts = bytes_of c.args.parts.now in
    let index = c.loop-index.index in
    let none : drop index parts ≡ [] = drop_all index parts
    (omega (arith, length-map c.args.parts.now (λ (part : Bor (List ℕ)). part.now))) in
    c.loop-index.invariant.ok (subst (λ (left : List (List ℕ)). HasNoFault EmitPartPasses (emit_part_checks index left)) (sym none) tt)
