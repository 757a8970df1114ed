use Rattle.std.proofs.Common.{◌≡◌, ◌↔◌, ℕ, List, sym, ap, ◌∙◌}
use Rattle.bi_describe.specs.declared.describe.inside.InsideTree.{InsideTree}
use Rattle.bi_describe.specs.KeptEntries.{root_entries}
use Rattle.bi_describe.specs.MadeInsides.{HoldsInside, entries_inside}
use Rattle.bi_describe.specs.ReducedMeanings.{ReducedTree}
use Rattle.bi_describe.proofs.EntriesApart.{roots_apart}

-- Trees inside payloads are the same if and only if what the code has of them is.

pub insides_same : (payload other_payload : List ℕ) (tree others : ReducedTree) (one other : InsideTree) →
    HoldsInside payload tree one → HoldsInside other_payload others other →
    ((one.blob.cpu ≡ other.blob.cpu) × (one.blob.reservations ≡ other.blob.reservations)
    × (entries_inside one.nodes ≡ entries_inside other.nodes)) ↔ (tree ≡ others)
insides_same payload other_payload tree others one other is also = (
  (λ same. let root = roots_apart tree.root others.root (sym is.entries ∙ same.2 ∙ also.entries) in
      (λ i. record {
        cpu = (sym is.cpu ∙ same.0 ∙ also.cpu) i;
        reservations = (sym is.reservations ∙ same.1 ∙ also.reservations) i;
        root = root i;
      })),
  (λ same. (
    is.cpu ∙ ap (λ (tree : ReducedTree). tree.cpu) same ∙ sym also.cpu,
    is.reservations ∙ ap (λ (tree : ReducedTree). tree.reservations) same ∙ sym also.reservations,
    is.entries ∙ ap (λ (tree : ReducedTree). root_entries tree.root) same ∙ sym also.entries,
  )),
)
