use Rattle.std.proofs.Common.{◌≡◌, ◌++◌, ◌∷◌, [], ℕ, List, Some, Bor, map, length, slice_get, sym, ap, subst, ◌∙◌, arith, rules}
use Rattle.std.proofs.lemmas.List.{map-append, append-nil, length-map}
use Rattle.bi_fdt.specs.NameParts.{NamePart}
use Rattle.bi_fdt.specs.NameTails.{IsHead, AreHeads}
use Rattle.bi_fdt.proofs.NumberedNames.{placed_last, placed_there, heads_length, known_name, AreHeads-push}
use Rattle.bi_fdt.proofs.name_table.NameTable.add.Goals as goal

pub returns-then-number-len-clause-more : goal.returns-then-number-len-clause-more
returns-then-number-len-clause-more c =
    let tails = c.args.self.now.tails in
    let heads = c.args.self.now.heads in
    let names : List (List ℕ) = map (λ name. name.now) c.args.self.now.names.items in
    let name = c.args.name.now in
    let part : NamePart = (c.args.tail, c.head_of.result.now) in
    let is : IsHead tails part name = record { head = c.head_of.ensures; tail = c.requires.tail } in
    let pushed : c.push.new.self.items ≡ c.args.self.now.names.items ++ c.args.name ∷ [] = search rules in
    let now : map (λ (n : Bor (List ℕ)). n.now) c.push.new.self.items ≡ names ++ name ∷ [] =
    ap (map (λ n. n.now)) pushed ∙ map-append (λ n. n.now) c.args.self.now.names.items (c.args.name ∷ []) in
    let mapped : length names ≡ length c.args.self.now.names.items = simp length-map in
    let last : c.in_ok-number.number ≡ length heads = omega (arith, heads_length tails heads names c.requires.table) in
    let added = placed_last heads part c.in_ok-number.number c.add.new.self c.in_ok-number.ensures.added last in
    record {
      is_table = subst (AreHeads tails c.add.new.self) (sym now)
          (subst (λ l. AreHeads tails l (names ++ name ∷ [])) (sym added.1)
          (AreHeads-push tails heads names part name c.requires.table is added.0));
      names = (name ∷ [], now);
      tails = ([], sym (append-nil tails));
    }

-- The head of the name was there, at the place of the name.
was_there : (c : goal.Else-number-len) → (slice_get c.args.self.now.heads c.in_ok-number.number ≡ Some (c.args.tail, c.head_of.result.now))
    × (c.add.new.self ≡ c.args.self.now.heads)
was_there c = search (rules, length-map, heads_length, placed_there)

pub returns-else-number-len-clause-added : goal.returns-else-number-len-clause-added
returns-else-number-len-clause-added c =
    let kept : c.reserve.new.self.items ≡ c.args.self.now.names.items = search rules in
    ap (λ items. slice_get (map (λ (n : Bor (List ℕ)). n.now) items) c.in_ok-number.number) kept
    ∙ known_name c.args.self.now.tails c.args.self.now.heads _ _ c.args.name.now c.in_ok-number.number c.requires.table
    (record { head = c.head_of.ensures; tail = c.requires.tail }) (was_there c).0

pub returns-else-number-len-clause-more : goal.returns-else-number-len-clause-more
returns-else-number-len-clause-more c = search (rules, was_there, append-nil)
