use Rattle.std.proofs.Common.{◌≡◌, ℕ, zero, suc, true, false, slice_get, ◌<◌, length, refl, ap, ◌∙◌, arith, rules}
use Rattle.std.proofs.Math.ListN.{set}
use Rattle.std.proofs.lemmas.List.{with_items_is, nil_from_length}
use Rattle.std.proofs.lemmas.Bool.{false≢true}
use Rattle.bi_fdt.specs.declared.table.Entry.TheVariants as entry
use Rattle.bi_fdt.proofs.GrowingTables.{growing_ended, growing_finished, innermost_within}
use Rattle.bi_fdt.proofs.growing.Growing.end_node.Goals as goal

pub set_after-requires : goal.set_after-requires
set_after-requires c = search (rules, innermost_within)

pub returns-in-Some : goal.returns-in-Some
returns-in-Some c = search (rules, with_items_is, growing_ended, set)

-- A list that has no last item is empty.
none_left : (n : ℕ) → (0 < n → false ≡ true) → n ≡ 0
none_left zero some = refl
none_left (suc n) some = absurd (false≢true (some (omega arith)))

pub returns-in-None : goal.returns-in-None
returns-in-None c =
    let old = c.args.self.now in
    let index : ℕ = old.innermost.entry in
    let long : c.len-after.result ≡ length old.entries.items = search rules in
    let now = c.deref_mut.ensures.value in
    let none : length old.outer.items ≡ 0 = none_left (length old.outer.items) c.in-None.ensures.variant.1 in
    record {
      finished = λ file innermost outer growing.
          growing_finished file old _ innermost outer growing
          (λ n at.
          with_items_is old.entries c.set_after.new.entries (c.set_after.auto.entries ∙ c.deref_mut.ensures.len)
          ∙ c.set_after.ensures n (ap (λ l. slice_get l index) now ∙ at)
          ∙ ap (λ l. set l index (entry.Node (record n { after = c.len-after.result }))) now
          ∙ ap (λ k. set old.entries.items index (entry.Node (record n { after = k }))) long)
          (nil_from_length old.outer.items none) refl;
    }
