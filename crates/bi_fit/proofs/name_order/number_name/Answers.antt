use Rattle.std.proofs.Common.{[], ◌∷◌, ◌++◌, length, sym, ap, ◌∙◌, ◌≡◌}
use Rattle.std.specs.Prelude.{if◌then◌else◌}
use Rattle.std.proofs.lemmas.List.{length-map}
use Rattle.bi_base.specs.Slices.{bytes_of}
use Rattle.bi_fdt.specs.Numbers.{names_of_table}
use Rattle.bi_fit.proofs.ChangedNames.{bytes_push, number_last, among_numbered, not_among}
use Rattle.bi_fit.proofs.name_order.number_name.Goals as goal

pub returns-in-Some-clause-names : goal.returns-in-Some-clause-names
returns-in-Some-clause-names c =
    let names = bytes_of c.args.names.now.items in
    sym (ap (λ b. if b then names else names ++ c.args.name.now ∷ [])
    (among_numbered (names_of_table c.args.blob.now.table) c.args.name.now c.in-Some.number c.in-Some.ensures))

pub returns-clause-number : goal.returns-clause-number
returns-clause-number c =
    let old = c.args.names.now.items in
    let count : c.len-number.result ≡ length (bytes_of old) = c.len-number.ensures ∙ c.args.names.now.ok.0
    ∙ sym (length-map old (λ slice. slice.now)) in
    rw (c.in_ok-push.ensures.items, bytes_push old c.args.name, count) (number_last (bytes_of old) c.args.name.now)

pub returns-clause-names : goal.returns-clause-names
returns-clause-names c =
    let old = c.args.names.now.items in
    let names = bytes_of old in
    ap bytes_of c.in_ok-push.ensures.items ∙ bytes_push old c.args.name
    ∙ sym (ap (λ b. if b then names else names ++ c.args.name.now ∷ [])
    (not_among (names_of_table c.args.blob.now.table) c.args.name.now c.in_default.ensures))
