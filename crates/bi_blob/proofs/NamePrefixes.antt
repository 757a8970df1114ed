use Rattle.std.proofs.Common.{◌≡◌, ℕ, ◌+◌, ◌*◌, ◌^◌, ◌<◌, ◌≤◌, List, [], ◌∷◌, ◌++◌, length, take, drop, replicate, suc, zero, rules}
use Rattle.std.proofs.Common.{refl, sym, ap, ◌∙◌, arith}
use Rattle.std.specs.Cmp.{ranked}
use Rattle.std.specs.Cmp.Lexicographic.{slice_cmp}
use Rattle.std.specs.Ordering.{nat_cmp, ordering_then, ordering_reverse, MatchOrdering}
use Rattle.std.specs.declared.cmp.Ordering.{Ordering}
use Rattle.std.specs.declared.cmp.Ordering.TheVariants.{Less, Equal, Greater}
use Rattle.std.proofs.lemmas.Cmp.{nat_list_cmp_total}
use Rattle.std.proofs.lemmas.List.{take-replicate}
use Rattle.std.proofs.lemmas.Nat.{mul-add-lt}
use Rattle.bi_base.specs.Cells.{AreBytes}
use Rattle.bi_base.proofs.ByteLists.{AreBytes-drop}
use Rattle.bi_blob.specs.NamesByPrefix.{prefix_of_name, PrefixesKeepByteOrder}

-- Short names without zeros are the same if their prefixes are, and the order of names by prefix and then by bytes is byte order.

-- Zeros, with the first bytes of a name written over them, are the beginning of the name with zeros after it.
pub over_zeros : (count most added : ℕ) (name : List ℕ) → count ≤ most → count ≤ length name → (count < most → count ≡ length name) →
    most ≤ added → take count name ++ drop count (replicate most 0) ≡ take most (name ++ replicate added 0)
over_zeros zero zero added name below within whole enough = refl
over_zeros zero (suc most) added [] below within whole enough = sym (take-replicate (suc most) added 0 enough)
over_zeros zero (suc most) added (byte ∷ later) below within whole enough = absurd (omega (arith, whole (omega (arith))))
over_zeros (suc count) zero added name below within whole enough = absurd (omega (arith, below))
over_zeros (suc count) (suc most) added [] below within whole enough = absurd (omega (arith, within))
over_zeros (suc count) (suc most) added (byte ∷ later) below within whole enough =
    ap (λ l. byte ∷ l)
    (over_zeros count most added later (omega (arith, below)) (omega (arith, within)) (λ less. omega (arith, whole (omega (arith, less))))
    (omega (arith, enough)))

-- The first bytes of a name as a number, with zeros after a shorter name, the first byte the highest.
abbrev leading : ℕ → List ℕ → ℕ
leading zero name = 0
leading (suc count) [] = 0
leading (suc count) (byte ∷ later) = byte * 256 ^ count + leading count later

power_is_positive : (count : ℕ) → 0 < 256 ^ count
power_is_positive zero = omega arith
power_is_positive (suc count) = omega (arith, power_is_positive count)

leading_fits : (count : ℕ) (name : List ℕ) → AreBytes name → leading count name < 256 ^ count
leading_fits zero name bytes = power_is_positive zero
leading_fits (suc count) [] bytes = power_is_positive (suc count)
leading_fits (suc count) (byte ∷ later) bytes =
    omega (
      arith,
      mul-add-lt byte (256 ^ count) (leading count later) 256 (bytes.each 0)
          (leading_fits count later (AreBytes-drop 1 (byte ∷ later) bytes)),
    )

-- A name with a lower number is before one with a higher one.
leading_order : (count : ℕ) (one other : List ℕ) → AreBytes one → AreBytes other → leading count one < leading count other →
    slice_cmp nat_cmp one other ≡ Less
leading_order zero one other one_bytes other_bytes less = absurd (omega (arith, less))
leading_order (suc count) [] [] one_bytes other_bytes less = absurd (omega (arith, less))
leading_order (suc count) [] (y ∷ ys) one_bytes other_bytes less = refl
leading_order (suc count) (x ∷ xs) [] one_bytes other_bytes less = absurd (omega (arith, less))
leading_order (suc count) (x ∷ xs) (y ∷ ys) one_bytes other_bytes less =
    by (nat_cmp x y) refl (ranked x y (nat_cmp x y) refl)
    (leading_order count xs ys (AreBytes-drop 1 (x ∷ xs) one_bytes) (AreBytes-drop 1 (y ∷ ys) other_bytes))
  where
    by : (o : Ordering) → nat_cmp x y ≡ o → MatchOrdering o (x < y) (x ≡ y) (y < x) →
        (leading count xs < leading count ys → slice_cmp nat_cmp xs ys ≡ Less) → slice_cmp nat_cmp (x ∷ xs) (y ∷ ys) ≡ Less
    by Less is below later = rw is refl
    by Equal is same later =
        let rest : leading count xs < leading count ys = omega (arith, less, ap (λ n. n * 256 ^ count) same) in
        rw is (later rest)
    by Greater is above later =
        absurd (omega (
          arith,
          less,
          mul-add-lt y (256 ^ count) (leading count ys) x above
              (leading_fits count ys (AreBytes-drop 1 (y ∷ ys) other_bytes)),
        ))

-- The prefix of a name is the number of its first eight bytes.
prefix_is_leading : (name : List ℕ) → prefix_of_name name ≡ leading 8 name
unfolding prefix_of_name
prefix_is_leading [] = omega arith
prefix_is_leading (a ∷ []) = omega arith
prefix_is_leading (a ∷ b ∷ []) = omega arith
prefix_is_leading (a ∷ b ∷ c ∷ []) = omega arith
prefix_is_leading (a ∷ b ∷ c ∷ d ∷ []) = omega arith
prefix_is_leading (a ∷ b ∷ c ∷ d ∷ e ∷ []) = omega arith
prefix_is_leading (a ∷ b ∷ c ∷ d ∷ e ∷ f ∷ []) = omega arith
prefix_is_leading (a ∷ b ∷ c ∷ d ∷ e ∷ f ∷ g ∷ []) = omega arith
prefix_is_leading (a ∷ b ∷ c ∷ d ∷ e ∷ f ∷ g ∷ h ∷ later) = omega arith

-- The order of names by prefix, and of those with one prefix by their bytes, is byte order.
pub prefixes_keep_order : PrefixesKeepByteOrder
prefixes_keep_order one other one_bytes other_bytes = let a = prefix_of_name one in search (rules, by)
  where
    by : (o : Ordering) →
        MatchOrdering o (prefix_of_name one < prefix_of_name other) (prefix_of_name one ≡ prefix_of_name other)
        (prefix_of_name other < prefix_of_name one) →
        ordering_then o (slice_cmp nat_cmp one other) ≡ slice_cmp nat_cmp one other
    by Less below = sym (leading_order 8 one other one_bytes other_bytes
        (omega (arith, below, prefix_is_leading one, prefix_is_leading other)))
    by Equal same = refl
    by Greater above =
        let less = leading_order 8 other one other_bytes one_bytes (omega (arith, above, prefix_is_leading one, prefix_is_leading other)) in
        sym (nat_list_cmp_total.antisymm one other ∙ ap ordering_reverse less)
