use Rattle.std.proofs.Common.{◌≡◌, ◌<◌, ◌+◌, [], length, take, get_or, subst, sym, ◌∙◌, arith}
use Rattle.std.specs.List.{sum_by}
use Rattle.bi_base.specs.declared.fault.Cause.TheVariants.{BadPart}
use Rattle.bi_norm.specs.Cutting.{IsCutFault}
use Rattle.bi_commands.specs.Parts.{input_length_of, lengths_of}
use Rattle.bi_commands.specs.declared.parts.Part.{Part}
use Rattle.bi_commands.specs.declared.parts.Part.TheVariants.{Bytes}
use Rattle.bi_commands.proofs.FilledParts.{sum_by_all, part_too_long, too_short}
use Rattle.bi_commands.proofs.parts.check_lengths.Goals as goal

pub returns-then-end-input-clause-fault : goal.returns-then-end-input-clause-fault
returns-then-end-input-clause-fault c =
    let input = c.args.input.now in
    let parts = c.args.parts.now in
    let i = c.loop-part.part-index in
    let loop = c.loop-part.invariant in
    let d : Part = Bytes (record { ref_ptr = (0, 0); now = [] }) in
    let longer : length input < sum_by input_length_of (take i parts) + input_length_of (get_or parts i d) =
    omega (arith, loop.is_sum, c.input_length.ensures, c.if-end-input.true) in
    rw c.refuse.ensures
    (subst (λ n. IsCutFault input (lengths_of parts) (record { cause = BadPart; offset = n })) (sym loop.is_sum)
    (part_too_long input parts i d c.loop-part-test.true (omega (arith, loop.within, loop.is_sum)) longer))

pub returns-then-start-input-clause-fault : goal.returns-then-start-input-clause-fault
returns-then-start-input-clause-fault c =
    let input = c.args.input.now in
    let parts = c.args.parts.now in
    let loop = c.loop-part.invariant in
    let all = sum_by_all parts c.loop-part.part-index c.loop-part-test.false in
    let is : c.loop-part.start ≡ sum_by input_length_of parts = loop.is_sum ∙ all in
    rw c.refuse-then-start-input.ensures
    (subst (λ n. IsCutFault input (lengths_of parts) (record { cause = BadPart; offset = n })) (sym is)
    (too_short input parts (omega (arith, is, c.if-start-input.true))))
