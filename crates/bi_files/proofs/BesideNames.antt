use Rattle.std.proofs.Common.{◌≡◌, ◌≢◌, ◌++◌, ◌∷◌, [], ◌∙◌, ◌<◌, ◌-◌, ℕ, List, Option, None, Some, Result, Ok, Err, IfOk, codes, drop, take}
use Rattle.std.proofs.Common.{length}
use Rattle.std.proofs.Common.{false, get_or, ap, refl, subst, sym, inl, inr, lit<, arith, true≢false}
use Rattle.std.specs.List.{AllByRecursion}
use Rattle.std.specs.Prelude.{IfSome}
use Rattle.std.specs.Fmt.{decimal}
use Rattle.std.specs.Str.Pattern.{CutsSuffixes, FindsCharSuffix, IsTrimEndMatches, RFindsChar, SplitsAroundMatch}
use Rattle.std.proofs.lemmas.List.{append-nil, append_assoc, drop_all, take-append-drop}
use Rattle.std.proofs.lemmas.Str.{len_utf8_ascii}
use Rattle.std.proofs.lemmas.Str.Pattern.{NoCharPasses-char, drop_at_char, ends_char}
use Rattle.bi_files.specs.Directories.{IsWithoutSlashes}
use Rattle.bi_files.specs.Files.{IsBeside}

-- The name of a new file beside a file is in the directory of the file, and has no directory if the file's name has none.

-- After the directory of the name, which ends with its last slash.
pub beside_in_directory : (name front back written : List ℕ) (number : ℕ) → SplitsAroundMatch (RFindsChar 47) name front back
    → written ≡ front ++ (codes "/.bootimg-" ++ decimal number) → IsBeside name number written
beside_in_directory name front back written number split is =
    let finds = split.2 in
    let front_is = split.3 in
    let back_is = split.4 in
    let at = drop_at_char 47 name split.0 split.1 finds.1 (lit< tt) in
    record {
      directory = front ++ 47 ∷ [];
      last = back;
      is_name = sym (take-append-drop split.0 name) ∙ ap (λ l. l ++ drop split.0 name) (sym front_is)
          ∙ ap (λ l. front ++ l) (at ∙ ap (λ l. 47 ∷ l) (sym back_is)) ∙ sym (append_assoc front (47 ∷ []) back);
      is_beside = is ∙ sym (append_assoc front (47 ∷ []) (codes ".bootimg-" ++ decimal number));
      ends_with_slash = inr (front, refl);
      last_has_no_slash = subst (λ l. (index : ℕ) → index < length l → get_or l index 0 ≢ 47) (sym back_is)
          (λ index inside. NoCharPasses-char 47 (drop split.1 name) index finds.0 (lit< tt) inside);
    }

-- Of a name without a slash.
pub beside_without_directory : (name written : List ℕ) (number : ℕ) → RFindsChar 47 name None
    → written ≡ codes ".bootimg-" ++ decimal number → IsBeside name number written
beside_without_directory name written number none is = record {
  directory = [];
  last = name;
  is_name = refl;
  is_beside = is;
  ends_with_slash = inl refl;
  last_has_no_slash = λ index inside. NoCharPasses-char 47 name index none (lit< tt) inside;
}

-- The same for a text that is made if there is memory.
pub made_in_directory : {T E : Type 0} (bytes : T → List ℕ) (result : Result T E) (name front back : List ℕ) (number : ℕ)
    → SplitsAroundMatch (RFindsChar 47) name front back
    → IfOk result (λ text. bytes text ≡ front ++ (codes "/.bootimg-" ++ decimal number))
    → IfOk result (λ text. IsBeside name number (bytes text))
made_in_directory bytes (Err error) name front back number split written = tt
made_in_directory bytes (Ok text) name front back number split written =
    beside_in_directory name front back (bytes text) number split written

pub made_without_directory : {T E : Type 0} (bytes : T → List ℕ) (result : Result T E) (name : List ℕ) (number : ℕ)
    → RFindsChar 47 name None → IfOk result (λ text. bytes text ≡ codes ".bootimg-" ++ decimal number)
    → IfOk result (λ text. IsBeside name number (bytes text))
made_without_directory bytes (Err error) name number none written = tt
made_without_directory bytes (Ok text) name number none written = beside_without_directory name (bytes text) number none written

-- ---- slashes at the end

-- A slash that was cut off the end of a text.
last_slash : (text : List ℕ) (width : ℕ) → FindsCharSuffix 47 text (Some width) → text ≡ take (length text - width) text ++ 47 ∷ []
last_slash text width finds =
    sym (take-append-drop (length text - width) text)
    ∙ ap (λ l. take (length text - width) text ++ l)
    (drop_at_char 47 text (length text - width) (length text) finds.1 (lit< tt) ∙ ap (λ l. 47 ∷ l)
    (drop_all (length text) text (omega arith)))

-- What was cut off are slashes.
slashes_cut : (word name : List ℕ) (widths : List ℕ) → CutsSuffixes (FindsCharSuffix 47) word widths name
    → (slashes : List ℕ) × (word ≡ name ++ slashes) × AllByRecursion (λ byte. byte ≡ 47) slashes
slashes_cut word name [] cut = ([], sym cut ∙ sym (append-nil name), tt)
slashes_cut word name (width ∷ widths) cut =
    let middle = cut.0 in
    let before = slashes_cut word middle widths cut.1 in (
      47 ∷ before.0,
      before.1 ∙ ap (λ l. l ++ before.0) (last_slash middle width cut.2 ∙ ap (λ l. l ++ 47 ∷ []) (sym cut.3))
          ∙ append_assoc name (47 ∷ []) before.0,
      (refl, before.2),
    )

-- Nothing that ends with a slash is left.
no_last_slash : (name : List ℕ) (found : Option ℕ) → FindsCharSuffix 47 name found → IfSome found (λ width. width ≡ 0)
    → (before : List ℕ) → name ≢ before ++ 47 ∷ []
no_last_slash name None finds none before is = absurd (true≢false (sym ((ends_char 47 name false finds (lit< tt)).1 before is)))
no_last_slash name (Some width) finds none before is = omega (arith, finds.0, none, len_utf8_ascii 47 (lit< tt))

pub slashes_trimmed : (word name : List ℕ) → IsTrimEndMatches (FindsCharSuffix 47) word name → IsWithoutSlashes word name
slashes_trimmed word name trimmed =
    let cut = slashes_cut word name trimmed.0.0 trimmed.0.1 in
    record {
      slashes = cut.0;
      is_word = cut.1;
      are_slashes = cut.2;
      ends_without = no_last_slash name trimmed.1.0 trimmed.1.1 trimmed.1.2;
    }
