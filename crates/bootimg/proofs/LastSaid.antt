use Rattle.std.proofs.Common.{◌≡◌, ◌++◌, ◌∷◌, ◌⊎◌, ℕ, List, [], inl, inr, refl, sym, ap, codes, arith, drop, take, length, ◌-◌, ◌≤◌, ◌<◌}
use Rattle.std.proofs.Common.{subst}
use Rattle.std.proofs.lemmas.Grind.{common_steps}
use Rattle.bootimg.specs.Explanations.{IsLastSaid, FollowsColon}

-- What a text says after its last colon and space, while the text is looked through.

-- `said` is what follows the last colon and space before `rest`, or the whole text: each later one is in `rest`.
pub record IsLastBefore (text said rest : List ℕ) : Type 0 where
  pub is_end : (text ≡ said) ⊎ FollowsColon text said
  pub before : List ℕ
  pub is_rest : text ≡ before ++ rest
  pub in_rest : (later : List ℕ) → FollowsColon said later → FollowsColon rest later

pub last_at_begin : (text : List ℕ) → IsLastBefore text text text
last_at_begin text = record { is_end = inl refl; before = []; is_rest = refl; in_rest = λ later follows. follows }

-- Without bytes in the rest nothing follows a colon there.
none_follows : (before later : List ℕ) → ¬ ([] ≡ before ++ (codes ": " ++ later))
none_follows [] later is = cc
none_follows (byte ∷ before) later is = cc

some_byte : (byte : ℕ) (rest : List ℕ) → ¬ (length (byte ∷ rest) < 1)
some_byte byte rest within = omega (arith, within)

no_byte : ¬ (1 ≤ length {A = ℕ} [])
no_byte within = omega (arith, within)

pub last_at_end : (text said rest : List ℕ) → length rest < 1 → IsLastBefore text said rest → IsLastSaid text said
last_at_end text said [] within last = record {
  is_end = last.is_end;
  is_last = λ later follows. let inside = last.in_rest later follows in none_follows inside.before later inside.is;
}
last_at_end text said (byte ∷ rest) within last = elim (some_byte byte rest within) [ ]

-- What follows a colon and a space in a text that does not begin with them follows them after its first byte.
after_byte : (byte : ℕ) (rest before later : List ℕ) → ((after : List ℕ) → ¬ (byte ∷ rest ≡ codes ": " ++ after))
    → byte ∷ rest ≡ before ++ (codes ": " ++ later) → FollowsColon rest later
after_byte byte rest [] later other is = elim (other later is) [ ]
after_byte byte rest (first ∷ before) later other is = record { before = before; is = ap (drop 1) is }

no_colon_first : (text said : List ℕ) (byte : ℕ) (rest : List ℕ) → ((after : List ℕ) → ¬ (byte ∷ rest ≡ codes ": " ++ after))
    → IsLastBefore text said (byte ∷ rest) → IsLastBefore text said rest
no_colon_first text said byte rest other last = record {
  is_end = last.is_end;
  before = last.before ++ byte ∷ [];
  is_rest = grind (arith, common_steps, last.is_rest);
  in_rest = λ later follows. let inside = last.in_rest later follows in after_byte byte rest inside.before later other inside.is;
}

pub colon : (text said after : List ℕ) → IsLastBefore text said (codes ": " ++ after) → IsLastBefore text after (32 ∷ after)
colon text said after last = record {
  is_end = inr (record { before = last.before; is = last.is_rest });
  before = last.before ++ 58 ∷ [];
  is_rest = grind (arith, common_steps, last.is_rest);
  in_rest = λ later follows. record { before = 32 ∷ follows.before; is = ap (λ text. 32 ∷ text) follows.is };
}

-- The bytes after the first one, as a pattern takes them.
after_first : (byte : ℕ) (later : List ℕ) → later ≡ take (length (byte ∷ later) - 1) (drop 1 (byte ∷ later))
after_first byte later = grind (arith, common_steps)

pub after_no_colon : (text said rest : List ℕ) → 1 ≤ length rest → ((after : List ℕ) → ¬ (rest ≡ codes ": " ++ after))
    → IsLastBefore text said rest → IsLastBefore text said (take (length rest - 1) (drop 1 rest))
after_no_colon text said [] within other last = elim (no_byte within) [ ]
after_no_colon text said (byte ∷ later) within other last =
    subst (IsLastBefore text said) (after_first byte later) (no_colon_first text said byte later other last)

pub after_colon : (text said after : List ℕ) → IsLastBefore text said (codes ": " ++ after)
    → IsLastBefore text after (take (length (codes ": " ++ after) - 1) (drop 1 (codes ": " ++ after)))
after_colon text said after last = subst (IsLastBefore text after) (after_first 58 (32 ∷ after)) (colon text said after last)

pub after_this_colon : (text said rest after : List ℕ) → rest ≡ codes ": " ++ after → IsLastBefore text said rest
    → IsLastBefore text after (take (length rest - 1) (drop 1 rest))
after_this_colon text said rest after is last =
    subst (λ rest. IsLastBefore text after (take (length rest - 1) (drop 1 rest))) (sym is)
    (after_colon text said after (subst (IsLastBefore text said) is last))
