use Rattle.std.proofs.Common.{sym, ◌∙◌, arith, rules}
use Rattle.std.proofs.lemmas.List.{length-map, map-set}
use Rattle.bi_base.specs.Slices.{bytes_of}
use Rattle.bi_edit.proofs.Outcomes.{holds_of_none}
use Rattle.bi_edit.proofs.PartNumbers.{no_number_no_part, number_past_parts, number_of_part}
use Rattle.bi_edit.proofs.edited_legacy.set_part.Goals as goal

pub returns-in_default-clause-there : goal.returns-in_default-clause-there
returns-in_default-clause-there c =
    let parts = c.args.parts.now.items in
    sym (no_number_no_part c.args.digits.now c.args.bytes.now (bytes_of parts) (omega (arith, length-map parts (λ slice. slice.now)))
    (holds_of_none c.in_ok-number.field-0 c.in_default.is c.in_ok-number.ensures.none)).0

pub returns-in_default-clause-set : goal.returns-in_default-clause-set
returns-in_default-clause-set c =
    let parts = c.args.parts.now.items in
    sym (no_number_no_part c.args.digits.now c.args.bytes.now (bytes_of parts) (omega (arith, length-map parts (λ slice. slice.now)))
    (holds_of_none c.in_ok-number.field-0 c.in_default.is c.in_ok-number.ensures.none)).1

pub returns-then-number-count-clause-there : goal.returns-then-number-count-clause-there
returns-then-number-count-clause-there c =
    let parts = c.args.parts.now.items in
    sym (number_past_parts c.args.digits.now c.args.bytes.now (bytes_of parts) c.in-Some.number
    (omega (arith, length-map parts (λ slice. slice.now))) (omega arith) (search rules)).0

pub returns-then-number-count-clause-set : goal.returns-then-number-count-clause-set
returns-then-number-count-clause-set c =
    let parts = c.args.parts.now.items in
    sym (number_past_parts c.args.digits.now c.args.bytes.now (bytes_of parts) c.in-Some.number
    (omega (arith, length-map parts (λ slice. slice.now))) (omega arith) (search rules)).1

pub returns-clause-there : goal.returns-clause-there
returns-clause-there c =
    let parts = c.args.parts.now.items in
    sym (number_of_part c.args.digits.now c.args.bytes.now (bytes_of parts) c.in-Some.number
    (omega (arith, length-map parts (λ slice. slice.now))) (omega arith) (search rules)).0

pub returns-clause-set : goal.returns-clause-set
returns-clause-set c =
    let parts = c.args.parts.now.items in
    map-set (λ slice. slice.now) parts c.in-Some.number c.args.bytes
    ∙ sym (number_of_part c.args.digits.now c.args.bytes.now (bytes_of parts) c.in-Some.number
    (omega (arith, length-map parts (λ slice. slice.now))) (omega arith) (search rules)).1
