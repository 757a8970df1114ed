use Rattle.std.proofs.Common.{List, ℕ, Bor, not, ap, ◌∙◌}
use Rattle.std.proofs.lemmas.List.{map-append}
use Rattle.bi_base.specs.Slices.{bytes_of}
use Rattle.bi_fdt.specs.Views.{node_of}
use Rattle.bi_coverage.proofs.Meanings.{with_cipher, without_cipher}
use Rattle.bi_coverage.proofs.covered_names.covered_names.Goals as goal

pub returns-then-is_none : goal.returns-then-is_none
returns-then-is_none c =
    without_cipher (node_of c.args.image).children (bytes_of c.in_ok-found.found.items) node_of c.child.result c.child.ensures.child
    c.in_ok-found.ensures (c.is_none.ensures ∙ ap not c.if-is_none.true)

pub returns : goal.returns
returns c =
    ap bytes_of c.in_ok-push.ensures.items
    ∙ map-append (λ (name : Bor (List ℕ)). name.now) c.in_ok-found.found.items _
    ∙ with_cipher (node_of c.args.image).children (bytes_of c.in_ok-found.found.items) node_of c.child.result c.child.ensures.child
    c.in_ok-found.ensures (c.is_none.ensures ∙ ap not c.if-is_none.false)
