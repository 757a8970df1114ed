use Rattle.std.proofs.Common.{◌≡◌, ◌<◌, false, replicate, length, flat_map, sym, ap, subst, ◌∙◌}
use Rattle.std.specs.List.{AllByRecursion, AllZip}
use Rattle.bi_base.specs.declared.fault.Fault.{Fault}
use Rattle.bi_base.specs.Reading.{too_large}
use Rattle.bi_base.specs.Slices.{bytes_of}
use Rattle.bi_base.proofs.Refusals.{refused_by}
use Rattle.bi_blob.specs.Tree.{AreDistinct, as_nodes}
use Rattle.bi_fdt.specs.Numbers.{AreNumbered, IsNumberOf}
use Rattle.bi_fit.specs.LongNames.{name_if_long}
use Rattle.bi_tree.specs.TreeNodes.{below}
use Rattle.bi_tree.proofs.NumberedNames.{length-bytes}
use Rattle.bi_plain.specs.Ranked.{HaveLongNames, all_numbers, marked_names, marked_numbers, marked_table, with_marks}
use Rattle.bi_plain.proofs.MarkedNames.{marked_are_distinct, marked_are_numbered}
use Rattle.bi_plain.proofs.UsedNames.{all_within, long_names_used, used_marks, used_ranked}
use Rattle.bi_plain.proofs.writer.names.ranked_names.Goals as goal

pub used_names-requires : goal.used_names-requires
used_names-requires c =
    let names = bytes_of c.args.names.now in
    let nodes = as_nodes (below c.args.root.now) in
    subst (λ n. AllByRecursion (λ number. number < n) (all_numbers nodes)) (length-bytes c.args.names.now)
    (all_within names nodes c.requires.numbered)

pub returns-in_err-check_long_names-clause-failed : goal.returns-in_err-check_long_names-clause-failed
returns-in_err-check_long_names-clause-failed c =
    let names = bytes_of c.args.names.now in
    let nodes = as_nodes (below c.args.root.now) in
    let late : Fault → Type 0 = λ fault. (fault ≡ too_large c.args.limit) × HaveLongNames c.args.limit nodes in
    let marks = used_marks names nodes c.requires.numbered in
    let kept : bytes_of c.deref.result.now ≡ marked_names names marks =
    ap bytes_of c.deref.ensures.value ∙ c.in_ok-used.ensures.names
    ∙ ap (λ n. marked_names names (with_marks (all_numbers nodes) (replicate n false))) (sym (length-bytes c.args.names.now)) in
    refused_by c.from_residual-in_err-check_long_names.result c.in_err-check_long_names.field-0.0 late
    c.from_residual-in_err-check_long_names.ensures.1 (
      c.in_err-check_long_names.ensures.fault.0,
      long_names_used names nodes c.requires.numbered c.requires.distinct c.args.limit
          (subst (λ l. c.args.limit < length (flat_map name_if_long l)) kept c.in_err-check_long_names.ensures.fault.1),
    )

pub rank_names-requires : goal.rank_names-requires
rank_names-requires c =
    let names = bytes_of c.args.names.now in
    let nodes = as_nodes (below c.args.root.now) in
    let marks = used_marks names nodes c.requires.numbered in
    let kept : bytes_of c.deref-2.result.now ≡ marked_names names marks =
    ap bytes_of c.deref-2.ensures.value ∙ c.in_ok-used.ensures.names
    ∙ ap (λ n. marked_names names (with_marks (all_numbers nodes) (replicate n false))) (sym (length-bytes c.args.names.now)) in
    subst AreDistinct (sym kept) (marked_are_distinct names marks c.requires.distinct)

pub returns-clause-ranks : goal.returns-clause-ranks
returns-clause-ranks c =
    let names = bytes_of c.args.names.now in
    let nodes = as_nodes (below c.args.root.now) in
    let marks = used_marks names nodes c.requires.numbered in
    let sorted = bytes_of c.in_ok-ranked.ranked.names.items in
    let kept : bytes_of c.deref-2.result.now ≡ marked_names names marks =
    ap bytes_of c.deref-2.ensures.value ∙ c.in_ok-used.ensures.names
    ∙ ap (λ n. marked_names names (with_marks (all_numbers nodes) (replicate n false))) (sym (length-bytes c.args.names.now)) in
    let numbers : c.in_ok-used.used.numbers.items ≡ marked_numbers 0 names marks =
    c.in_ok-used.ensures.numbers
    ∙ ap (λ n. marked_numbers 0 names (with_marks (all_numbers nodes) (replicate n false))) (sym (length-bytes c.args.names.now)) in
    record {
      in_order = c.in_ok-ranked.ensures.in_order;
      ranks = used_ranked names nodes c.requires.numbered sorted c.in_ok-ranks.ranks.items
          (c.in_ok-ranks.ensures.numbers (marked_names names marks) sorted (marked_table names marks)
          (subst (AllZip (IsNumberOf sorted) (marked_names names marks)) (sym c.deref-3.ensures.value)
          (subst (λ l. AllZip (IsNumberOf sorted) l c.in_ok-ranked.ranked.ranks.items) kept c.in_ok-ranked.ensures.ranked))
          (subst (AreNumbered (marked_names names marks) (marked_table names marks)) (sym (c.deref-4.ensures.value ∙ numbers))
          (marked_are_numbered names marks)));
    }
