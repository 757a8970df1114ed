use Rattle.std.proofs.Common.{◌≡◌, ℕ, suc, ◌<◌, List, [], ◌∷◌, Some, slice_get, get_or, length, inl, inr, sym, ap, ◌∙◌, arith, rules}
use Rattle.std.proofs.Math.Nat.{eq-or-lt_of_le}
use Rattle.std.proofs.lemmas.List.{length-map, get_or-map}
use Rattle.std.proofs.lemmas.Option.{slice_get-get_or, same_Some}
use Rattle.std.proofs.lemmas.Bool.{false≢true}
use Rattle.std.proofs.lemmas.Slice.Eq.{bytes_eq-Decides}
use denote.Ref.{Bor}
use Rattle.bi_base.specs.Slices.{bytes_of}
use Rattle.bi_blob.specs.Tree.{IsNew}
use Rattle.bi_fdt.proofs.kept_names.KeptNames.find.Goals as goal

-- The name at an index.
there : (items : List (Bor (List ℕ))) (d : Bor (List ℕ)) (names : List (List ℕ)) (index : ℕ) → bytes_of items
    ≡ names → index < length items →
    slice_get names index ≡ Some (get_or items index d).now
there items d names index is within =
    ap (λ l. slice_get l index) (sym is)
    ∙ slice_get-get_or (bytes_of items) index d.now (omega (arith, within, length-map items (λ (item : Bor (List ℕ)). item.now)))
    ∙ ap Some (get_or-map (λ (item : Bor (List ℕ)). item.now) items index d d.now within)

-- A name at no index is new.
nowhere : (names : List (List ℕ)) (name : List ℕ) → ((k : ℕ) → k < length names → ¬ (slice_get names k ≡ Some name)) → IsNew name names
nowhere [] name none = tt
nowhere (first ∷ names) name none =
    ((λ same. none 0 (omega arith) (ap Some same)), nowhere names name (λ k within. none (suc k) (omega (arith, within))))

pub returns-then-eq : goal.returns-then-eq
returns-then-eq c = search (rules, there, bytes_eq-Decides)

pub loop-number-preserved : goal.loop-number-preserved
loop-number-preserved c k within at = elim (eq-or-lt_of_le {n = k} {m = c.loop-number.number} (omega (arith, within))) [
  | inl same ↦ absurd (false≢true
      (c.if-eq.ensures ∙ (bytes_eq-Decides _ _).1
      (same_Some _ _ (sym (there c.deref-other-items.result.now _ c.args.self.now c.loop-number.number
      (ap bytes_of c.deref-other-items.ensures.value ∙ c.self.view_is) c.loop-number-test.true)
      ∙ ap (slice_get c.args.self.now) (sym same) ∙ at))))
  | inr below ↦ c.loop-number.invariant k below at
]

pub returns : goal.returns
returns c = search (rules, nowhere, length-map)
