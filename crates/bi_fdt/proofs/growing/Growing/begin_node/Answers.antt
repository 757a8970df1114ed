use Rattle.std.proofs.Common.{◌≡◌, ℕ, List, ◌+◌, ◌≤◌, ◌∷◌, [], ◌++◌, length, refl, sym, ◌∙◌, ap, subst, arith, rules}
use Rattle.std.proofs.lemmas.Bool.{not-true, not-false}
use Rattle.std.proofs.lemmas.List.{length-append}
use Rattle.bi_blob.specs.Tree.{names}
use Rattle.bi_blob.specs.NameSets.{HoldsNames}
use Rattle.bi_blob.specs.BlobFaults.{token_fault, IsNewNode}
use Rattle.bi_blob.proofs.NameSets.{HoldsNames-none, HoldsNames-insert, HoldsNames-new, HoldsNames-held}
use Rattle.bi_blob.specs.OpenNodes.{OpenFileNode}
use Rattle.bi_fdt.specs.declared.growing.Growing.{Growing}
use Rattle.bi_fdt.specs.declared.growing.OpenNode.{OpenNode}
use Rattle.bi_fdt.specs.TableItems.{NodeItem}
use Rattle.bi_fdt.specs.Growth.{IsGrowing, IsChildTaken}
use Rattle.bi_fdt.proofs.OpenEntries.{AreOpen-held}
use Rattle.bi_fdt.proofs.GrowingTables.{growing_begun, open_nodes_within, outer_count}
use Rattle.bi_fdt.proofs.growing.Growing.begin_node.Goals as goal

-- The innermost open node has the names of its children.
held : (file : List ℕ) (growing : Growing) (innermost : OpenFileNode) (outer : List OpenFileNode) →
    IsGrowing file growing innermost outer →
    HoldsNames growing.innermost.children (names innermost.children)
held file growing innermost outer is = AreOpen-held _ _ (names innermost.children) innermost.name outer is.opened

-- The outer nodes and the innermost have entries.
outer_few : (file : List ℕ) (growing : Growing) (innermost : OpenFileNode) (outer : List OpenFileNode) →
    IsGrowing file growing innermost outer →
    length growing.outer.items + 1 ≤ length growing.entries.items
outer_few file growing innermost outer is =
    omega (arith, outer_count file growing innermost outer is, open_nodes_within file growing innermost outer is)

pub overflow_cast-len : goal.overflow_cast-len
overflow_cast-len c = search (rules, outer_few)

pub overflow_add-len : goal.overflow_add-len
overflow_add-len c = search (rules, outer_few)

pub returns-then-not-branch-clause-failed : goal.returns-then-not-branch-clause-failed
returns-then-not-branch-clause-failed c =
    let taken : IsChildTaken c.args.self.now c.args.name.now c.args.place (token_fault c.args.place IsNewNode) = record {
      is_fault = refl;
      taken = λ file innermost outer growing.
          HoldsNames-held c.args.self.now.innermost.children c.args.name (names innermost.children)
          (held file c.args.self.now innermost outer growing)
          (not-false _ (sym c.in_ok-insert.ensures.added ∙ c.if-not-branch.true));
    } in
    search rules

pub returns-clause-ok : goal.returns-clause-ok
returns-clause-ok c =
    let old = c.args.self.now in
    let counted : c.len.result ≡ length old.entries.items = search rules in
    record {
      count = ap length c.in_ok-push.ensures.items ∙ length-append old.entries.items _;
      strings = refl;
      is_new = λ file innermost outer growing.
          HoldsNames-new old.innermost.children c.args.name (names innermost.children) (held file old innermost outer growing)
          (not-true _ (sym c.in_ok-insert.ensures.added ∙ c.if-not-branch.false));
      grown = λ file innermost outer growing named.
          let depth : c.len-2.result + 1 ≡ length outer + 1 = omega (
            arith,
            c.len-2.ensures,
            outer_count file old innermost outer growing,
          ) in
          growing_begun file old (record {
            entries = c.push.new.self;
            names = old.names;
            innermost = c.replace.new.dest;
            outer = c.push-2.new.self;
          }) innermost outer c.args.name.now c.args.place
          (record {
            place = c.args.place;
            name_length = length c.args.name.now;
            depth = c.len-2.result + 1;
            property_count = 0;
            after = 0;
          }) c.replace.result
          growing c.in_ok-push.ensures.items (λ i. NodeItem (depth i) c.args.place (named i)) depth refl
          (ap (λ a. a.entry) c.replace.ensures.after ∙ counted)
          (subst (λ (a : OpenNode). HoldsNames a.children []) (sym c.replace.ensures.after)
          (HoldsNames-none c.new.result c.new.ensures.empty))
          c.push-2.ensures.items (ap (λ a. a.entry) c.replace.ensures.value)
          (subst (λ (a : OpenNode). HoldsNames a.children (names innermost.children ++ c.args.name.now ∷ [])) (sym c.replace.ensures.value)
          (HoldsNames-insert old.innermost.children c.insert.new.self c.args.name (names innermost.children)
          (held file old innermost outer growing) c.in_ok-insert.ensures.updates))
          refl;
    }
