use Rattle.std.proofs.Common.{◌≡◌, true, false, refl, sym, ap, ◌∙◌}
use Rattle.std.specs.Prelude.{◌&&◌}
use Rattle.std.specs.Option.{option_map}
use Rattle.bi_blob.specs.Lookups.{value_named}
use Rattle.bi_blob.specs.Tree.{properties_of}
use Rattle.bi_fdt.specs.Views.{node_of}
use Rattle.bi_fit.specs.Names.{is_signature_name, value_name}
use Rattle.bi_coverage.specs.Signatures.{has_bytes}
use Rattle.bi_coverage.proofs.Meanings.{signed_is}
use Rattle.bi_coverage.proofs.signed.is_signed.Goals as goal

pub returns-then-not-starts_with : goal.returns-then-not-starts_with
returns-then-not-starts_with c =
    let named : is_signature_name (node_of c.args.child).name ≡ false =
    ap is_signature_name (sym c.name.ensures) ∙ sym c.starts_with.ensures.value ∙ c.if-not-starts_with.true in
    let value = value_named (properties_of (node_of c.args.child).own) value_name in
    ap (λ b. b && has_bytes value) (sym named) ∙ signed_is (node_of c.args.child) value refl

pub returns : goal.returns
returns c =
    let named : is_signature_name (node_of c.args.child).name ≡ true =
    ap is_signature_name (sym c.name.ensures) ∙ sym c.starts_with.ensures.value ∙ c.if-not-starts_with.false in
    c.has_bytes.ensures ∙ ap (λ b. b && has_bytes (option_map (λ value. value.now) c.property.result)) (sym named)
    ∙ signed_is (node_of c.args.child) (option_map (λ value. value.now) c.property.result) c.property.ensures
