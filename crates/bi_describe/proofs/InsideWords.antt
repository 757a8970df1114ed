use Rattle.std.proofs.Common.{◌≡◌, ℕ, Bool, true, false, List, [], ◌∷◌, ◌++◌, bytes_eq, codes, refl, sym, subst, ◌∙◌, true≢false}
use Rattle.std.specs.Prelude.{◌==◌, ◌||◌, if◌then◌else◌}
use Rattle.std.specs.List.{list_any}
use Rattle.bi_base.proofs.EqualBytes.{same_bytes}
use Rattle.bi_common.specs.Lines.{Text}
use Rattle.bi_describe.specs.declared.compare.line_keeper.KeyPart.{KeyPart}
use Rattle.bi_describe.specs.declared.compare.line_keeper.KeyPart.TheVariants as part
use Rattle.bi_describe.specs.declared.compare.line_keeper.OpenLine.{OpenLine}
use Rattle.bi_describe.specs.Differences.{is_inside_word, words_of_key_named}
use Rattle.bi_describe.specs.IgnoredWords.{inside_path}
use Rattle.bi_describe.specs.LineKeeping.{is_in_key, line_after_word, part_after}

-- A path inside a payload is none of the words that a line begins with.

abbrev has_slash : List ℕ → Bool
has_slash text = list_any (λ byte. byte == 47) text

slash_found : (before after : List ℕ) → has_slash (before ++ (47 ∷ after)) ≡ true
slash_found [] after = refl
slash_found (byte ∷ before) after = by (byte == 47) (slash_found before after)
  where
    by : (b : Bool) → has_slash (before ++ (47 ∷ after)) ≡ true → (b || has_slash (before ++ (47 ∷ after))) ≡ true
    by true found = refl
    by false found = found

path_is_other : (payload : List ℕ) (names : List (List ℕ)) (word : List ℕ) → has_slash word ≡ false →
    bytes_eq (inside_path payload names) word ≡ false
path_is_other payload names word none = by (bytes_eq (inside_path payload names) word) refl
  where
    by : (b : Bool) → bytes_eq (inside_path payload names) word ≡ b → b ≡ false
    by true is = absurd (true≢false (sym (subst (λ word. has_slash word ≡ true) (same_bytes (inside_path payload names) word is)
        (slash_found payload _)) ∙ none))
    by false is = refl

path_is_not_inside : (payload : List ℕ) (names : List (List ℕ)) → is_inside_word (Text (inside_path payload names)) ≡ false
path_is_not_inside payload names = path_is_other payload names (codes "inside") refl

path_has_own_key : (payload : List ℕ) (names : List (List ℕ)) → words_of_key_named (inside_path payload names) ≡ 1
path_has_own_key payload names =
    rw (
      path_is_other payload names (codes "property") refl,
      path_is_other payload names (codes "reservation") refl,
      path_is_other payload names (codes "node") refl,
      path_is_other payload names (codes "payload") refl,
      path_is_other payload names (codes "part") refl,
    ) refl

-- To the key of a line it is a word like any other.
next_after_path : (next : KeyPart) (payload : List ℕ) (names : List (List ℕ)) →
    part_after next (Text (codes "/")) ≡ part_after next (Text (inside_path payload names))
next_after_path part.First payload names = rw (path_is_not_inside payload names, path_has_own_key payload names) refl
next_after_path part.Payload payload names = refl
next_after_path part.Second payload names = rw (path_has_own_key payload names) refl
next_after_path (part.Named missing) payload names = refl

pub line_after_path : (line : OpenLine) (end : ℕ) (payload : List ℕ) (names : List (List ℕ)) →
    line_after_word line (Text (codes "/")) end ≡ line_after_word line (Text (inside_path payload names)) end
line_after_path line end payload names = (λ i. record {
  start = line.start;
  key_end = if is_in_key line.next then end else line.key_end;
  next = next_after_path line.next payload names i;
  has_word = true;
})
