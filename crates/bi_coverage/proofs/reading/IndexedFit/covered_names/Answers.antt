use Rattle.std.proofs.Common.{sym, ap, ◌∙◌, arith}
use Rattle.bi_base.specs.Slices.{bytes_of}
use Rattle.bi_fit.specs.Content.{tree_of}
use Rattle.bi_coverage.specs.IndexedFits.{IndexedFit}
use Rattle.bi_coverage.specs.Signatures.{covered_below}
use Rattle.bi_coverage.proofs.Meanings.{covered_nothing}
use Rattle.bi_coverage.proofs.SignedConfigurations.{covered_within, covered_list}
use Rattle.bi_coverage.proofs.reading.IndexedFit.covered_names.Goals as goal

pub index-requires : goal.index-requires
index-requires c =
    let within = covered_within c.self.inside.fit.now c.self.invariant.held c.self.inside.covered.items c.self.invariant.are_covered
    c.args.image.now c.in-Some.index (sym c.image.ensures ∙ c.in-Some.is) in
    omega (arith, within)

pub returns-in-Some : goal.returns-in-Some
returns-in-Some c =
    ap bytes_of c.deref.ensures.value
    ∙ covered_list c.self.inside.fit.now c.self.invariant.held c.self.inside.covered.items c.self.invariant.are_covered
    c.args.image.now c.in-Some.index (sym c.image.ensures ∙ c.in-Some.is) c.index.result.now c.index.ensures
    ∙ ap (λ (indexed : IndexedFit). covered_below (tree_of indexed.content) c.args.image.now) c.self.view_is

pub returns-in-None : goal.returns-in-None
returns-in-None c =
    sym (covered_nothing c.self.inside.fit.now c.self.invariant.held c.args.image.now (sym c.image.ensures ∙ c.in-None.is))
    ∙ ap (λ (indexed : IndexedFit). covered_below (tree_of indexed.content) c.args.image.now) c.self.view_is
