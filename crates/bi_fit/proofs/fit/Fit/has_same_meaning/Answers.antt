use Rattle.std.proofs.Common.{sym, ap, subst, ◌∙◌}
use Rattle.std.proofs.lemmas.Bool.{false≢true}
use Rattle.bi_blob.specs.Tree.{EachOwn}
use Rattle.bi_blob.specs.Lookups.{root_node}
use Rattle.bi_fdt.specs.Content.{root_of}
use Rattle.bi_fit.specs.ImageTree.{ImageTree}
use Rattle.bi_fit.specs.NormalNodes.{HasDistinctNames, alone}
use Rattle.bi_fit.proofs.NormalTrees.{held_distinct}
use Rattle.bi_fit.proofs.ComparedTrees.{one_compared_tree, same_blobs}
use Rattle.bi_fit.proofs.fit.Fit.has_same_meaning.Goals as goal

pub are_same_blobs-requires-clause-distinct : goal.are_same_blobs-requires-clause-distinct
are_same_blobs-requires-clause-distinct c =
    subst (λ blob. EachOwn HasDistinctNames (alone (root_node (root_of blob)))) (sym c.blob.ensures)
    (held_distinct c.args.self.now c.give_invariant.ensures)

pub are_same_blobs-requires-clause-other_distinct : goal.are_same_blobs-requires-clause-other_distinct
are_same_blobs-requires-clause-other_distinct c =
    subst (λ blob. EachOwn HasDistinctNames (alone (root_node (root_of blob)))) (sym c.blob-2.ensures)
    (held_distinct c.args.other.now c.give_invariant-2.ensures)

pub returns-then-not-branch-clause-compared : goal.returns-then-not-branch-clause-compared
returns-then-not-branch-clause-compared c =
    let tells = rw (c.blob.ensures, c.blob-2.ensures) at c.in_ok-are_same_blobs.ensures in (
      (λ true. absurd (false≢true true)),
      (λ same.
          absurd
          (false≢true
          (sym c.if-not-branch.true
          ∙ tells.1 (same_blobs c.args.self.now c.args.other.now c.give_invariant.ensures c.give_invariant-2.ensures same)))),
    )

pub returns-clause-compared : goal.returns-clause-compared
returns-clause-compared c =
    let tells = rw (c.blob.ensures, c.blob-2.ensures) at c.in_ok-are_same_blobs.ensures in (
      (λ true.
          one_compared_tree c.args.self.now c.args.other.now c.give_invariant.ensures c.give_invariant-2.ensures
          (tells.0 c.if-not-branch.false)
          (c.in_ok-have_same_payloads.ensures.0 true)),
      (λ same. c.in_ok-have_same_payloads.ensures.1 (ap (λ (tree : ImageTree). tree.payloads) same)),
    )
