use Rattle.std.proofs.Common.{◌≡◌, ◌<◌, ◌*◌, ℕ, map, length, refl, sym, ap, subst, ◌∙◌, arith}
use Rattle.std.proofs.lemmas.Bool.{eqb-false}
use Rattle.bi_base.specs.Reading.{too_large}
use Rattle.bi_base.specs.Slices.{bytes_of}
use Rattle.bi_base.proofs.Refusals.{refused_by}
use Rattle.bi_fit.specs.Content.{tree_of}
use Rattle.bi_coverage.specs.Coverage.{signature_with}
use Rattle.bi_coverage.specs.IndexedFits.{IndexedFit}
use Rattle.bi_coverage.specs.Numbers.{sum_of}
use Rattle.bi_coverage.specs.Signatures.{references, parts_for, paths_of_parts, needed_lengths, needed_paths, total_length}
use Rattle.bi_coverage.specs.Values.{meaning_of_node, signature_value}
use Rattle.bi_coverage.specs.NeededParts.{part_value}
use Rattle.bi_coverage.proofs.SignedConfigurations.{coverage_read, each_length, needed_once, needed_sum}
use Rattle.bi_coverage.proofs.reading.IndexedFit.read_configuration.Goals as goal
use Rattle.bi_coverage.proofs.reading.IndexedFit.read_configuration.Goals.{After-needed_length}

-- The names are the references of the configuration.
names_are : (c : After-needed_length) →
    bytes_of c.names.result.now ≡ references (tree_of c.args.self.now.content) (meaning_of_node c.args.configuration)
names_are c =
    c.names.ensures ∙ c.in_ok-references.ensures
    ∙ ap (λ (indexed : IndexedFit). references (tree_of indexed.content) (meaning_of_node c.args.configuration)) c.self.view_is

-- The length of what each signed node needs.
needed_is : (c : After-needed_length) →
    total_length (paths_of_parts (parts_for (tree_of c.args.self.now.content) c.name-name.result.now (bytes_of c.names.result.now)))
    ≡ total_length (needed_paths (tree_of c.args.self.now.content) (meaning_of_node c.args.configuration))
needed_is c =
    each_length (tree_of c.args.self.now.content) (meaning_of_node c.args.configuration) c.name-name.result.now
    (bytes_of c.names.result.now) _ c.name-name.ensures (names_are c) refl

-- Some nodes are signed.
are_some : (c : After-needed_length) → 0 < length c.in_ok-signed.signed.items
are_some c =
    let some = eqb-false _ 0 (sym c.is_empty.ensures ∙ c.if-is_empty.false) in
    omega (arith, some)

pub returns-in_err-length-clause-failed : goal.returns-in_err-length-clause-failed
returns-in_err-length-clause-failed c =
    let at = (goal.at.returns-in_err-length-clause-failed c).After-needed_length in
    let tree = tree_of c.args.self.now.content in
    let more = needed_once tree (meaning_of_node c.args.configuration) c.in_ok-signed.signed.items c.in_ok-signed.ensures
    c.args.self.now.limit c.args.total (are_some at)
    (subst (λ (length : ℕ). c.args.self.now.limit < length) (needed_is at) c.in_err-length.ensures.fault.1) in
    refused_by _ _ _ c.from_residual-in_err-length.ensures.1 (c.in_err-length.ensures.fault.0, more)

pub returns-in_err-sum-clause-failed : goal.returns-in_err-sum-clause-failed
returns-in_err-sum-clause-failed c =
    let at = (goal.at.returns-in_err-sum-clause-failed c).After-needed_length in
    let tree = tree_of c.args.self.now.content in
    let all = needed_sum tree (meaning_of_node c.args.configuration) c.in_ok-signed.signed.items c.in_ok-signed.ensures
    c.in_ok-length.length (c.in_ok-length.ensures.length ∙ needed_is at) in
    let limit : c.self.inside.limit ≡ c.args.self.now.limit = ap (λ (indexed : IndexedFit). indexed.limit) c.self.view_is in
    let count : c.len.result ≡ length c.in_ok-signed.signed.items = omega arith in
    let same : c.len.result * c.in_ok-length.length ≡ sum_of (needed_lengths tree (meaning_of_node c.args.configuration)) =
    ap (λ (n : ℕ). n * c.in_ok-length.length) count ∙ all in
    refused_by _ _ _ c.from_residual-in_err-sum.ensures.1
    (c.in_err-sum.ensures.fault.0 ∙ ap too_large limit, omega (arith, same, limit, c.in_err-sum.ensures.fault.1))

pub returns-clause-read : goal.returns-clause-read
returns-clause-read c =
    let at = (goal.at.returns-clause-read c).After-needed_length in
    let content = c.args.self.now.content in
    coverage_read content (meaning_of_node c.args.configuration) c.name-name.result.now c.in_ok-signed.signed.items
    (bytes_of c.names.result.now) (map part_value c.in_ok-parts.parts.items) (map signature_value c.in_ok-signatures.signatures.items)
    c.name-name.ensures c.in_ok-signed.ensures (names_are at)
    (c.in_ok-parts.ensures
    ∙ ap (parts_for (tree_of content) c.name-name.result.now) (c.names-2.ensures ∙ sym c.names.ensures))
    (c.in_ok-signatures.ensures
    ∙ ap (λ names. map (signature_with content names (map part_value c.deref.result.now)) (map meaning_of_node c.deref-2.result.now))
    (c.names-3.ensures ∙ sym c.names.ensures)
    ∙ ap (λ parts. map (signature_with content (bytes_of c.names.result.now) (map part_value parts))
    (map meaning_of_node c.deref-2.result.now))
    c.deref.ensures.value
    ∙ ap (λ nodes. map (signature_with content (bytes_of c.names.result.now) (map part_value c.in_ok-parts.parts.items))
    (map meaning_of_node nodes)) c.deref-2.ensures.value)

pub returns-clause-sum : goal.returns-clause-sum
returns-clause-sum c =
    let at = (goal.at.returns-clause-sum c).After-needed_length in
    let tree = tree_of c.args.self.now.content in
    let all = needed_sum tree (meaning_of_node c.args.configuration) c.in_ok-signed.signed.items c.in_ok-signed.ensures
    c.in_ok-length.length (c.in_ok-length.ensures.length ∙ needed_is at) in
    let count : c.len.result ≡ length c.in_ok-signed.signed.items = omega arith in
    let same : c.len.result * c.in_ok-length.length ≡ sum_of (needed_lengths tree (meaning_of_node c.args.configuration)) =
    ap (λ (n : ℕ). n * c.in_ok-length.length) count ∙ all in
    omega (arith, same, c.in_ok-sum.ensures.sum)
