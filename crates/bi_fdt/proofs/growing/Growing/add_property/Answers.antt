use Rattle.std.proofs.Common.{◌≡◌, ℕ, List, map, slice_get, ◌+◌, ◌-◌, [], ◌∷◌, ◌++◌, length, refl, sym, ap, subst, ◌∙◌, arith, rules}
use Rattle.std.proofs.lemmas.List.{length-append, with_items_is}
use Rattle.std.proofs.Math.ListN.{set}
use Rattle.std.specs.Prelude.{IsSome, IfSome}
use Rattle.std.specs.Vec.{with_items}
use Rattle.bi_blob.specs.Tree.{FileProperty}
use Rattle.bi_fdt.specs.declared.table.Entry.{Entry}
use Rattle.bi_fdt.specs.declared.table.Entry.TheVariants as entry
use Rattle.bi_fdt.specs.Numbers.{IsNumberOf, with_used_name}
use Rattle.bi_fdt.specs.PropertyMarks.{HasMarked}
use Rattle.bi_fdt.proofs.PropertyMarks.{bound_more}
use Rattle.bi_fdt.proofs.TableNames.{number_few}
use Rattle.bi_fdt.proofs.GrowingTables.{growing_property, innermost_within}
use Rattle.bi_fdt.proofs.growing.Growing.add_property.Goals as goal

pub overflow_cast-node : goal.overflow_cast-node
overflow_cast-node c = search (rules, innermost_within)

pub overflow_cast-number : goal.overflow_cast-number
overflow_cast-number c =
    let grown = c.requires.grown in
    omega (
      arith,
      number_few grown.file c.args.self.now.entries.items c.args.self.now.names.used c.insert.new.self.used c.args.name.now
          c.in-Some.number grown.is.named
          c.in_ok-number.ensures.added.used (subst
          (λ number. IfSome number (IsNumberOf c.insert.new.self.used c.args.name.now)) c.in-Some.is
          c.in_ok-number.ensures.added.is_number),
      c.requires.few,
    )

pub overflow_sub-property_count : goal.overflow_sub-property_count
overflow_sub-property_count c = search (rules, innermost_within, length-append)

pub overflow_sub-property_count-2 : goal.overflow_sub-property_count-2
overflow_sub-property_count-2 c = search (rules, innermost_within, length-append)

pub set_property_count-requires : goal.set_property_count-requires
set_property_count-requires c = search (rules, innermost_within, length-append)

pub returns-clause-added : goal.returns-clause-added
returns-clause-added c =
    let old = c.args.self.now in
    let index : ℕ = old.innermost.entry in
    let pushed : List Entry = old.entries.items ++ entry.Property c.args.property c.in-Some.number ∷ [] in
    let now : c.deref_mut.result.now ≡ pushed = c.deref_mut.ensures.value ∙ c.in_ok-push.ensures.items in
    let counted : c.len.result ≡ length c.push.new.self.items = search rules in
    let long : c.len.result ≡ length pushed = counted ∙ ap length c.in_ok-push.ensures.items in
    let held : (with_items c.push.new.self c.set_property_count.new.entries).items ≡ c.set_property_count.new.entries =
    with_items_is c.push.new.self c.set_property_count.new.entries (c.set_property_count.auto.entries ∙ c.deref_mut.ensures.len) in
    let longer : length (with_items c.push.new.self c.set_property_count.new.entries).items ≡ length old.entries.items + 1 =
    ap length held ∙ c.set_property_count.auto.entries ∙ ap length now
    ∙ length-append old.entries.items (entry.Property c.args.property c.in-Some.number ∷ []) in
    let some : IsSome c.in_ok-number.field-0 = subst IsSome (sym c.in-Some.is) refl in
    let number : IsNumberOf c.insert.new.self.used c.args.name.now c.in-Some.number =
    subst (λ number. IfSome number (IsNumberOf c.insert.new.self.used c.args.name.now)) c.in-Some.is
    c.in_ok-number.ensures.added.is_number in
    record {
      count = longer;
      strings = c.insert.ensures.strings;
      is_new = λ file innermost outer growing childless. (c.in_ok-number.ensures.added.is_new _ (growing.properties childless)).0 some;
      grown = λ file innermost outer growing childless named.
          growing_property file old (record {
            entries = with_items c.push.new.self c.set_property_count.new.entries;
            names = c.insert.new.self;
            innermost = old.innermost;
            outer = old.outer;
          })
          innermost outer c.args.property c.in-Some.number growing childless
          (λ n at.
          held
          ∙ c.set_property_count.ensures n (ap (λ l. slice_get l index) now ∙ at)
          ∙ ap (λ l. set l index (entry.Node (record n { property_count = c.len.result - index - 1 }))) now
          ∙ ap (λ k. set pushed index (entry.Node (record n { property_count = k - index - 1 }))) long)
          refl refl
          (c.in_ok-number.ensures.added.used ∙ ap (with_used_name old.names.used) (sym named))
          (subst (λ name. IsNumberOf c.insert.new.self.used name c.in-Some.number) (sym named) number)
          (c.in_ok-number.ensures.added.marks _ (omega (arith, longer, innermost_within file old innermost outer growing))
          (bound_more (length old.entries.items) _ old.names.marks (omega (arith, longer)) growing.marks))
          (subst (λ name. HasMarked c.insert.new.self index
          (map (λ (q : FileProperty). q.name) innermost.properties ++ name ∷ [])) (sym named)
          (c.in_ok-number.ensures.added.marked some _ (growing.properties childless)));
    }
