use Rattle.std.proofs.Common.{◌≡◌, ◌≢◌, ℕ, ◌≤◌, ◌==◌, length, List, [], ◌∷◌, Bool, true, false, take, drop, refl, sym, ap, ◌∙◌}
use Rattle.std.proofs.Common.{one-add, arith}
use Rattle.std.proofs.lemmas.List.{take-append-drop}
use Rattle.std.specs.List.{AllByRecursion, position_or_len}
use Rattle.std.proofs.lemmas.Bool.{eqb-true, eqb-false}
use Rattle.bi_coverage.specs.PathParts.{BeginsWithNode, IsRestOfPath}

-- A path is cut at a slash.

-- Whether a byte is a slash.
abbrev is_slash : ℕ → Bool
is_slash byte = byte == 47

-- No slash is before the first one.
cut_at : (names : List ℕ) →
    AllByRecursion (λ byte. byte ≢ 47) (take (position_or_len is_slash names) names)
    × IsRestOfPath (drop (position_or_len is_slash names) names)
cut_at [] = (tt, tt)
cut_at (byte ∷ later) = by (is_slash byte) refl (cut_at later)
  where
    by : (b : Bool) → is_slash byte ≡ b →
        AllByRecursion (λ byte. byte ≢ 47) (take (position_or_len is_slash later) later)
        × IsRestOfPath (drop (position_or_len is_slash later) later) →
        AllByRecursion (λ byte. byte ≢ 47) (take (position_or_len is_slash (byte ∷ later)) (byte ∷ later))
        × IsRestOfPath (drop (position_or_len is_slash (byte ∷ later)) (byte ∷ later))
    by true is rest = rw is (tt, eqb-true byte 47 is)
    by false is rest = rw (is, one-add) ((eqb-false byte 47 is, rest.0), rest.1)

-- The first one is within the bytes.
pub slash_within : (names : List ℕ) → position_or_len is_slash names ≤ length names
slash_within [] = omega arith
slash_within (byte ∷ later) = by (is_slash byte) refl (slash_within later)
  where
    by : (b : Bool) → is_slash byte ≡ b → position_or_len is_slash later ≤ length later →
        position_or_len is_slash (byte ∷ later) ≤ length (byte ∷ later)
    by true is rest = rw is (omega arith)
    by false is rest = rw is (omega (arith, rest))

-- So a path begins with the name before it.
pub path_begins_with_node : (path names name later : List ℕ) (first index : ℕ) → path ≡ first ∷ names → first ≡ 47 →
    index ≡ position_or_len is_slash names → name ≡ take index names → later ≡ drop index names → BeginsWithNode path name later
path_begins_with_node path names name later first index is slash at is_name is_later =
    rw (is_name, is_later, at) (record {
      is = is ∙ ap (λ byte. byte ∷ names) slash ∙ ap (λ l. 47 ∷ l) (sym (take-append-drop (position_or_len is_slash names) names));
      no_slash = (cut_at names).0;
      is_rest = (cut_at names).1;
    })
