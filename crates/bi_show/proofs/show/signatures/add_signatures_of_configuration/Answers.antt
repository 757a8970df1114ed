use Rattle.std.proofs.Common.{◌≡◌, ◌++◌, ℕ, Bor, List, true, false, filter, map, ap, sym, ◌∙◌}
use Rattle.bi_blob.specs.Lookups.{siblings}
use Rattle.bi_coverage.specs.Coverage.{signature_coverage}
use Rattle.bi_coverage.specs.Signatures.{is_signed}
use Rattle.bi_coverage.specs.Values.{meaning_of_node, meaning_of_sibling, signature_concern, signature_value}
use Rattle.bi_coverage.specs.declared.reading.SignatureCoverage.{SignatureCoverage}
use Rattle.bi_fdt.specs.Content.{root_of}
use Rattle.bi_fdt.specs.Views.{node_of}
use Rattle.bi_fit.specs.Content.{tree_of}
use Rattle.bi_fit.specs.Names.{configurations_name, is_signature_name}
use Rattle.bi_fit.specs.Siblings.{siblings_left}
use Rattle.bi_show.specs.FitPages.{concerns_cell, configuration_cell, configuration_signature_row, has_signature, signature_row}
use Rattle.bi_show.specs.Rows.{cells_of_rows}
use Rattle.bi_show.proofs.ShownRows.{one_more_row}
use Rattle.bi_show.proofs.ShownSignatures.{all_left, coverage_of_children, first_and_others, others_left, rows_from_first, some_left}
use Rattle.bi_show.proofs.ShownSignatures.{word_of_first, word_of_nothing}
use Rattle.bi_show.proofs.show.signatures.add_signatures_of_configuration.Goals as goal
use Rattle.bi_show.proofs.show.signatures.add_signatures_of_configuration.Goals.{then-has_signature+in-len1-up, else-has_signature}

pub loop-child-init : goal.loop-child-init
loop-child-init c =
    let content = c.args.fit.now in
    let entry = node_of c.args.node in
    let start : siblings_left c.into_iter-child-iterator.result ≡ siblings entry.children =
    ap siblings_left c.into_iter-child-iterator.ensures.into_iter_gives ∙ c.children-child-items.ensures in (
      ap (λ l. cells_of_rows c.args.rows.now.items
          ++ map (configuration_signature_row content.blob.file (root_of content.blob) (tree_of content) entry)
          (filter (λ child. is_signature_name child.name) l)) start,
      c.requires.covered ∙ coverage_of_children content entry
          ∙ ap (λ l. map (signature_coverage content (meaning_of_node c.args.node)) (filter is_signed (map meaning_of_sibling l)))
          (sym start),
    )

pub unreachable-requires : goal.unreachable-requires
unreachable-requires c =
    some_left c.args.fit.now (node_of c.args.node) (node_of c.in-Some.child) _ (siblings_left c.next.new.self) c.loop-child.left.now
    c.in-Some.ensures.steps (sym c.is_signature.ensures ∙ c.if-is_signature.true) c.loop-child.invariant.1
    (sym c.has_signature.ensures ∙ c.if-has_signature.true) c.in_default.len_below

pub loop-child-preserved-in_ok-push : goal.loop-child-preserved-in_ok-push
loop-child-preserved-in_ok-push c =
    let content = c.args.fit.now in
    let entry = node_of c.args.node in
    let child = node_of c.in-Some.child in
    let left = c.loop-child.left.now in
    let before = c.loop-child.rows.items in
    let row = configuration_signature_row content.blob.file (root_of content.blob) (tree_of content) entry in
    let named : is_signature_name child.name ≡ true = sym c.is_signature.ensures ∙ c.if-is_signature.true in
    let cell = configuration_cell content.blob.file (root_of content.blob) (tree_of content) entry child in
    let rows = (λ (covers : c.if-has_signature.covers.now ≡ cell).
    one_more_row before c.push.new.self.items c.in_ok-signature_row.field-0 (row child) _ _ c.in_ok-push.ensures.items
    (c.in_ok-signature_row.ensures
    ∙ ap (λ name. signature_row configurations_name name c.if-has_signature.covers.now child) c.name.ensures
    ∙ ap (λ covers. signature_row configurations_name entry.name covers child) covers)
    (rows_from_first row (cells_of_rows before) _ child _ _ c.in-Some.ensures.steps named c.loop-child.invariant.0)) in
    elim c.if-has_signature.branch [
      | then-has_signature+in-len1-up w ↦
          let has : has_signature child ≡ true = sym c.has_signature.ensures ∙ w.if-has_signature.true in
          let covered = w.covered-item.result in
          let parts = first_and_others left covered w.in-len1-up.len_at_least w.covered-item.is in (
            rows (ap (λ (text : Bor (List ℕ)). text.now) w.covers-is
                ∙ w.concerns_word-covers.ensures
                ∙ ap (λ l. concerns_cell (map signature_concern l)) w.deref.ensures.value
                ∙ word_of_first content entry child _ _ left c.in-Some.ensures.steps named c.loop-child.invariant.1 covered _ has parts),
            ap (λ (left : Bor (List SignatureCoverage)). map signature_value left.now) w.left-is
                ∙ others_left content entry child _ _ left c.in-Some.ensures.steps named c.loop-child.invariant.1 covered _ has parts,
          )
      | else-has_signature w ↦
          let has : has_signature child ≡ false = sym c.has_signature.ensures ∙ w.if-has_signature.false in (
            rows (ap (λ (text : Bor (List ℕ)). text.now) w.covers-is
                ∙ word_of_nothing content entry child _ _ left c.in-Some.ensures.steps named c.loop-child.invariant.1 has),
            ap (λ (left : Bor (List SignatureCoverage)). map signature_value left.now) w.left-is
                ∙ all_left content entry child _ _ left c.in-Some.ensures.steps named c.loop-child.invariant.1 has,
          )
    ]
