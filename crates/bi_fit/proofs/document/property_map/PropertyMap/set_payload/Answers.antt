use Rattle.std.proofs.Common.{◌≡◌, ◌⊎◌, inl, inr, ℕ, List, length, Some, option_map, refl, subst, sym, ap, ◌∙◌}
use Rattle.std.specs.Borrow.{Bor}
use Rattle.std.specs.FinMap.{insert}
use Rattle.std.proofs.lemmas.Result.{on_ok_weaker}
use Rattle.bi_base.specs.declared.align.Align.{Align}
use Rattle.bi_base.specs.Cells.{cell}
use Rattle.bi_blob.specs.Tree.{PropertyMap}
use Rattle.bi_fdt.specs.Numbers.{IsNumberOf}
use Rattle.bi_fit.specs.declared.form.Form.{Form}
use Rattle.bi_fit.specs.declared.form.Form.TheVariants.{External, Aligned}
use Rattle.bi_fit.specs.ImageTree.{without_payload}
use Rattle.bi_fit.specs.Names.{data_name, data_offset_name, data_size_name}
use Rattle.bi_fit.specs.Text.{alignment_of, with_payload}
use Rattle.bi_fit.proofs.document.property_map.PropertyMap.set_payload.Goals as goal

-- In a form other than Embedded a payload has its offset and its size.
with_payload-external : (form : Form) (begin : ℕ) (payload : List ℕ) (properties : PropertyMap) →
    (form ≡ External) ⊎ ((align : Align) × (form ≡ Aligned align)) →
    with_payload (alignment_of form) begin (Some payload) properties
    ≡ insert (insert properties data_offset_name (cell begin)) data_size_name (cell (length payload))
with_payload-external form begin payload properties (inl is) =
    ap (λ form. with_payload (alignment_of form) begin (Some payload) properties) is
with_payload-external form begin payload properties (inr aligned) =
    ap (λ form. with_payload (alignment_of form) begin (Some payload) properties) aligned.1

pub returns-in-Embedded-clause-set : goal.returns-in-Embedded-clause-set
returns-in-Embedded-clause-set c =
    let ranks = c.ranks-ranks.result in
    let shown : insert (without_payload c.args.self.now.by_name) data_name c.in-Some.payload.now
    ≡ with_payload (alignment_of c.args.form) c.args.begin (option_map (λ (payload : Bor (List ℕ)). payload.now) c.args.payload)
    (without_payload c.args.self.now.by_name) =
    rw (c.in-Embedded.is, c.in-Some.is) refl in
    on_ok_weaker c.insert.result (λ is.
    ap (λ m. m.by_name) is
    ∙ ap (λ m. insert m.by_name data_name c.in-Some.payload.now) c.remove_payload.ensures
    ∙ shown)
    (c.insert.ensures.inserted data_name
    (subst (λ m. IsNumberOf m.names data_name ranks.payload) c.self.view_is c.ranks-ranks.ensures.numbers.payload))

pub returns-in_ok-insert-in-External-clause-set : goal.returns-in_ok-insert-in-External-clause-set
returns-in_ok-insert-in-External-clause-set c =
    let ranks = c.ranks-ranks.result in
    let size = cell (length c.in-Some.payload.now) in
    let shown : insert (insert (without_payload c.args.self.now.by_name) data_offset_name (cell c.args.begin)) data_size_name size
    ≡ with_payload (alignment_of c.args.form) c.args.begin (option_map (λ (payload : Bor (List ℕ)). payload.now) c.args.payload)
    (without_payload c.args.self.now.by_name) =
    rw c.in-Some.is (sym (with_payload-external c.args.form c.args.begin c.in-Some.payload.now (without_payload c.args.self.now.by_name)
    c.in-External.is)) in
    let first = c.in_ok-insert-in-External.ensures.inserted data_offset_name
    (subst (λ m. IsNumberOf m.names data_offset_name ranks.offset) c.self.view_is c.ranks-ranks.ensures.numbers.offset) in
    on_ok_weaker c.insert-in-External-2.result (λ is.
    ap (λ m. m.by_name) is
    ∙ ap (λ m. insert m.by_name data_size_name size) first
    ∙ ap (λ m. insert (insert m.by_name data_offset_name (cell c.args.begin)) data_size_name size) c.remove_payload.ensures
    ∙ shown)
    (c.insert-in-External-2.ensures.inserted data_size_name
    (subst (λ names. IsNumberOf names data_size_name ranks.size) (sym c.in_ok-insert-in-External.ensures.same_names)
    (subst (λ m. IsNumberOf m.names data_size_name ranks.size) c.self.view_is c.ranks-ranks.ensures.numbers.size)))
