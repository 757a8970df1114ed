use Rattle.std.proofs.Common.{◌++◌, ap, append-nil, sym, ◌∙◌}
use Rattle.bi_fdt.specs.Views.{node_of}
use Rattle.bi_c.proofs.VerdictElements.{other_has_none}
use Rattle.bi_c.proofs.verdicts.push_child.Goals as goal

pub returns-then-not-is_hash-clause-added : goal.returns-then-not-is_hash-clause-added
returns-then-not-is_hash-clause-added c =
    sym (append-nil c.args.elements.now.items)
    ∙ ap (λ l. c.args.elements.now.items ++ l)
    (sym (other_has_none (node_of c.args.image) _ (node_of c.args.child) (sym c.is_hash.ensures ∙ c.if-not-is_hash.true)))
