use Rattle.std.proofs.Common.{◌≡◌, ◌≤◌, ◌+◌, ◌++◌, ◌∷◌, [], Bor, ℕ, List, length, take, get_or, ap, subst, sym, ◌∙◌, arith, rules}
use Rattle.std.proofs.lemmas.List.{map-append, take_all, take_more}
use Rattle.std.proofs.lemmas.List.Sums.{sum-map, sum_by_more, sum_by_more_le}
use Rattle.std.proofs.lemmas.Result.{err_from_is_err_and}
use Rattle.std.specs.List.{AllByRecursion, sum_by, slice_range}
use Rattle.bi_base.specs.Cells.{AreBytes}
use Rattle.bi_base.specs.Slices.{bytes_of}
use Rattle.bi_commands.specs.Parts.{IsFilled, content_of, input_length_of}
use Rattle.bi_commands.specs.declared.parts.Part.{Part}
use Rattle.bi_commands.specs.declared.parts.Part.TheVariants.{Bytes}
use Rattle.bi_commands.proofs.FilledParts.{as_long, bytes_next, filled_next, sum_of_lengths}
use Rattle.bi_commands.proofs.parts.fill.Goals as goal

pub returns-in_err-contents-clause-failed : goal.returns-in_err-contents-clause-failed
returns-in_err-contents-clause-failed c =
    let parts = c.args.parts.now in
    let p = err_from_is_err_and c.from_residual-in_err-contents.result c.from_residual-in_err-contents.ensures.1 in
    rw (p.1, p.2) (sum_of_lengths parts ∙ sym (sum-map input_length_of parts) ∙ c.in_ok-check_lengths.ensures.ok)

pub returns-in_err-push-clause-failed : goal.returns-in_err-push-clause-failed
returns-in_err-push-clause-failed c =
    let parts = c.args.parts.now in
    let p = err_from_is_err_and c.from_residual-in_err-push.result c.from_residual-in_err-push.ensures.1 in
    rw (p.1, p.2) (sum_of_lengths parts ∙ sym (sum-map input_length_of parts) ∙ c.in_ok-check_lengths.ensures.ok)

pub loop-part-preserved : goal.loop-part-preserved
loop-part-preserved c =
    let input = c.args.input.now in
    let parts = c.args.parts.now in
    let i = c.loop-part.part-index in
    let loop = c.loop-part.invariant in
    let within = c.loop-part-test.true in
    let d : Part = Bytes (record { ref_ptr = (0, 0); now = [] }) in
    let part = get_or parts i d in
    let start = c.loop-part.start in
    let end = start + c.input_length.result in
    let taken : c.input_length.result ≡ input_length_of part = c.input_length.ensures in
    let all : sum_by input_length_of parts ≡ length input = sym (sum-map input_length_of parts) ∙ c.in_ok-check_lengths.ensures.ok in
    let fits : end ≤ length input = omega (arith, all, taken, loop.is_sum, sum_by_more_le input_length_of parts i d within) in
    let piece = slice_range input start end in
    let size : length piece + start ≡ end = search rules in
    let before = bytes_of c.loop-part.contents.items in
    let content : c.content-content.result.now ≡ content_of part piece = c.content-content.ensures.content in
    let items : bytes_of c.push.new.self.items ≡ before ++ c.content-content.result.now ∷ [] =
    ap bytes_of c.in_ok-push.ensures.items ∙ map-append (λ (slice : Bor (List ℕ)). slice.now) c.loop-part.contents.items (_ ∷ []) in
    let next = filled_next (take i parts) part input start end before (omega (arith, taken)) size loop.filled in
    record {
      within = fits;
      is_sum = omega (arith, loop.is_sum, taken, sum_by_more input_length_of parts i d within);
      filled =
          subst (λ all. IsFilled all (take end input) (bytes_of c.push.new.self.items)) (sym (take_more parts i d within))
          (subst (IsFilled (take i parts ++ part ∷ []) (take end input)) (sym (items ∙ ap (λ one. before ++ one ∷ []) content)) next);
      bytes = subst (AllByRecursion AreBytes) (sym items)
          (bytes_next before c.content-content.result.now loop.bytes c.content-content.ensures.bytes);
    }

pub returns-clause-one_each : goal.returns-clause-one_each
returns-clause-one_each c =
    as_long (take c.loop-part.part-index c.args.parts.now) _ c.loop-part.contents.items c.loop-part.invariant.filled
    ∙ ap length (take_all c.loop-part.part-index c.args.parts.now c.loop-part-test.false)
