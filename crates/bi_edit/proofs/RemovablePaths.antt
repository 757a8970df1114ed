use Rattle.std.proofs.Common.{◌≡◌, ◌≤◌, ◌<◌, ℕ, Bool, true, false, not, List, []}
use Rattle.std.proofs.Common.{◌∷◌, length, get_or, bytes_eq, refl, sym, ap, ◌∙◌, arith, true≢false}
use Rattle.std.proofs.Common.{IsTrue}
use Rattle.bi_base.proofs.EqualBytes.{same_bytes, other_bytes}
use Rattle.bi_fit.specs.Names.{images_name}
use Rattle.bi_edit.specs.Places.{IsNodePath, IsRemovable, images_path}

-- Which paths of one name are those of nodes that can be removed.

-- A list of one item.
pub one_item : {X : Type 0} (xs : List X) (x : X) → 1 ≤ length xs → length xs < 2 → x ≡ get_or xs 0 x → xs ≡ x ∷ []
one_item [] x some few is = absurd (omega (arith, some))
one_item (first ∷ []) x some few is = ap (λ y. y ∷ []) (sym is)
one_item (first ∷ second ∷ later) x some few is = absurd (omega (arith, few))

-- A path of one name can be removed if this is not `images`.
pub removable_one : (path : List (List ℕ)) (name : List ℕ) (differs : Bool) → IsNodePath path → path ≡ name ∷ [] →
    differs ≡ not (bytes_eq name images_name) → (IsTrue differs → IsRemovable path) × (IsRemovable path → IsTrue differs)
removable_one path name differs is_path is test = where_same (bytes_eq name images_name) refl
  where
    where_same : (b : Bool) → bytes_eq name images_name ≡ b →
        (IsTrue differs → IsRemovable path) × (IsRemovable path → IsTrue differs)
    where_same true same = (
      λ yes. absurd (true≢false (sym yes ∙ test ∙ ap not same)),
      λ can. absurd (can.not_images (is ∙ ap (λ n. n ∷ []) (same_bytes name images_name same))),
    )
    where_same false other = (
      λ yes. record {
        is_path = is_path;
        not_root = λ root. (let e : name ∷ [] ≡ [] = sym is ∙ root in absurd cc);
        not_images = λ images. other_bytes name images_name other (let e : name ∷ [] ≡ images_path = sym is ∙ images in cc);
      },
      λ can. test ∙ ap not other,
    )
