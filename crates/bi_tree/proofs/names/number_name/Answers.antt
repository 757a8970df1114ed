use Rattle.std.proofs.Common.{◌≡◌, ◌<◌, [], ◌∷◌, length, sym, ap, subst, ◌∙◌, arith}
use Rattle.bi_base.specs.Slices.{bytes_of}
use Rattle.bi_blob.specs.Tree.{AreDistinct}
use Rattle.bi_fdt.specs.Numbers.{IsNumberOf}
use Rattle.bi_tree.specs.TreeNodes.{index_named}
use Rattle.bi_tree.proofs.NumberedNames.{found_number, name_not_found, distinct_with_new, bytes_with, length-bytes}
use Rattle.bi_tree.proofs.names.number_name.Goals as goal

pub returns-in_ok-push-clause-more : goal.returns-in_ok-push-clause-more
returns-in_ok-push-clause-more c =
    (c.args.name.now ∷ [], ap bytes_of c.in_ok-push.ensures.items ∙ bytes_with c.args.names.now.items c.args.name)

pub returns-in_ok-push-clause-distinct : goal.returns-in_ok-push-clause-distinct
returns-in_ok-push-clause-distinct c distinct =
    let names = bytes_of c.args.names.now.items in
    let none : index_named c.args.name.now names ≡ length names =
    ap (λ l. index_named c.args.name.now (bytes_of l)) (sym c.deref.ensures.value) ∙ sym c.find_name-number.ensures.index
    ∙ c.if-number-len.true ∙ c.len.ensures ∙ sym c.deref.ensures.len ∙ ap length c.deref.ensures.value
    ∙ sym (length-bytes c.args.names.now.items) in
    subst AreDistinct (sym (ap bytes_of c.in_ok-push.ensures.items ∙ bytes_with c.args.names.now.items c.args.name))
    (distinct_with_new c.args.name.now names (name_not_found c.args.name.now names none) distinct)

pub returns-else-number-len-clause-number : goal.returns-else-number-len-clause-number
returns-else-number-len-clause-number c =
    let names = bytes_of c.args.names.now.items in
    let index : c.find_name-number.result ≡ index_named c.args.name.now names =
    c.find_name-number.ensures.index ∙ ap (λ l. index_named c.args.name.now (bytes_of l)) c.deref.ensures.value in
    let within : index_named c.args.name.now names < length names =
    omega (
      arith,
      c.find_name-number.ensures.within,
      c.deref.ensures.len,
      c.len.ensures,
      c.if-number-len.false,
      index,
      length-bytes c.args.names.now.items,
    ) in
    subst (IsNumberOf names c.args.name.now) (sym index) (found_number c.args.name.now names within)
