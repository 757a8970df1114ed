use Rattle.std.proofs.Common.{ap, subst, sym, ◌∙◌}
use Rattle.std.proofs.lemmas.Result.{err_from_is_err_and}
use Rattle.bi_fdt.specs.Order.{IsNumberOrder}
use Rattle.bi_fit.specs.Content.{FitModel, tree_of}
use Rattle.bi_describe.specs.TreeEntries.{tree_entries}
use Rattle.bi_describe.proofs.DescribedImages.{fit_lines_are, fit_tokens_are}
use Rattle.bi_describe.proofs.InsideLengths.{deep_refused_names}
use Rattle.bi_describe.proofs.LongNames.{refused_names}
use Rattle.bi_describe.proofs.describe.fit.DescribedFit.new.Goals as goal

pub returns-in_err-order-clause-failed : goal.returns-in_err-order-clause-failed
returns-in_err-order-clause-failed c =
    let p = err_from_is_err_and c.from_residual-in_err-order.result c.from_residual-in_err-order.ensures.1 in
    rw (p.1, p.2) (λ format. refused_names format c.args.limits c.args.fit.now c.file.result c.in_err-order.field-0.0 c.requires.held
    c.file.ensures.value c.in_err-order.ensures.failed)

pub returns-in_err-order-clause-deep_failed : goal.returns-in_err-order-clause-deep_failed
returns-in_err-order-clause-deep_failed c =
    let p = err_from_is_err_and c.from_residual-in_err-order.result c.from_residual-in_err-order.ensures.1 in
    rw (p.1, p.2) (λ format insides inside. deep_refused_names format c.args.limits c.args.fit.now c.file.result c.in_err-order.field-0.0
    c.requires.held c.file.ensures.value c.in_err-order.ensures.failed insides inside)

pub returns-clause-lines : goal.returns-clause-lines
returns-clause-lines c =
    fit_lines_are c.args.fit.now c.blob.result.now _ c.blob.ensures
    (c.in_ok-entries.ensures ∙ ap (λ (content : FitModel). tree_entries (tree_of content)) c.in_ok-bounded.ensures.same)

pub returns-clause-tokens : goal.returns-clause-tokens
returns-clause-tokens c =
    fit_tokens_are c.args.fit.now c.blob.result.now _ c.blob.ensures
    (c.in_ok-entries.ensures ∙ ap (λ (content : FitModel). tree_entries (tree_of content)) c.in_ok-bounded.ensures.same)

pub entries_of-requires-clause-order : goal.entries_of-requires-clause-order
entries_of-requires-clause-order c =
    let order = c.in_ok-order.ensures.order in
    record {
      names = c.in_ok-order.order.names;
      sorted = order.sorted;
      in_order = subst (λ (content : FitModel). IsNumberOrder c.in_ok-order.order.names content.blob.table c.in_ok-order.order.properties)
          (sym c.in_ok-bounded.ensures.same) order.in_order;
    }
