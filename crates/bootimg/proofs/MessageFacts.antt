use Rattle.std.proofs.Common.{◌≡◌, ◌++◌, ◌∷◌, ◌==◌, ◌&&◌, ◌||◌, ℕ, List, [], Bool, true, false, Some, inl, inr, refl, sym, ◌∙◌, ap}
use Rattle.std.proofs.Common.{codes}
use Rattle.bootimg.specs.Explanations.{FollowsColon, IsAbout, IsLastSaid, topic_of}
use Rattle.bootimg.specs.KnownInputs.{MessagesAreKnown}
use Rattle.bootimg.specs.declared.explanations.Topic.{Topic}
use Rattle.bootimg.proofs.SaidTopics.{said_once}

-- What small messages are about.

-- Whether a colon and a space are in a text.
abbrev has_colon : List ℕ → Bool
has_colon [] = false
has_colon (byte ∷ []) = false
has_colon (byte ∷ next ∷ later) = (byte == 58 && next == 32) || has_colon (next ∷ later)

found_later : (one : Bool) {other : Bool} → other ≡ true → one || other ≡ true
found_later true is = refl
found_later false is = is

is_found : (before later : List ℕ) → has_colon (before ++ (codes ": " ++ later)) ≡ true
is_found [] later = refl
is_found (byte ∷ []) later = found_later (byte == 58 && 58 == 32) (is_found [] later)
is_found (byte ∷ next ∷ before) later = found_later (byte == 58 && next == 32) (is_found (next ∷ before) later)

no_colon : (text later : List ℕ) → has_colon text ≡ false → ¬ (FollowsColon text later)
no_colon text later none follows = differ (sym none ∙ (ap has_colon follows.is ∙ is_found follows.before later)) where
  differ : ¬ (false ≡ true)
  differ is = cc

-- What is said by a text without a colon, and after the last one.
whole : (text : List ℕ) → has_colon text ≡ false → IsLastSaid text text
whole text none = record { is_end = inl refl; is_last = λ later. no_colon text later none }

after : (before said : List ℕ) → has_colon said ≡ false → IsLastSaid (before ++ (codes ": " ++ said)) said
after before said none =
    record { is_end = inr (record { before = before; is = refl }); is_last = λ later. no_colon said later none }

some_once : (one other : Topic) → Some one ≡ Some other → one ≡ other
some_once one other is = cc

about_one : (text : List ℕ) (given other : Topic) → IsAbout text given → IsAbout text other → given ≡ other
about_one text given other about about' =
    some_once given other
    (sym about.topic ∙ (ap topic_of (said_once text about.said about'.said about.is_said about'.is_said) ∙ about'.topic))

-- A text that says something that no name begins is about nothing.
about_none : (text said : List ℕ) → IsLastSaid text said → ((given : Topic) → ¬ (topic_of said ≡ Some given))
    → (given : Topic) → ¬ (IsAbout text given)
about_none text said is_said none given about =
    none given (ap topic_of (said_once text said about.said is_said about.is_said) ∙ about.topic)

pub messages_are_known : MessagesAreKnown
messages_are_known = record {
  name = record { said = codes "Truncated"; is_said = whole (codes "Truncated") refl; topic = refl };
  letters = record { said = codes "badMAGIC"; is_said = whole (codes "badMAGIC") refl; topic = refl };
  offset = record { said = codes "Truncated at 12"; is_said = whole (codes "Truncated at 12") refl; topic = refl };
  line = record { said = codes "TooLarge at 64"; is_said = after (codes "bootimg: a.itb") (codes "TooLarge at 64") refl; topic = refl };
  longer = record { said = codes "BadNameOffset at 8"; is_said = after (codes "bootimg") (codes "BadNameOffset at 8") refl; topic = refl };
  concern = record { said = codes "weak-hash k crc32"; is_said = after (codes "a.itb") (codes "weak-hash k crc32") refl; topic = refl };
  usage = record { said = codes "bad image 3"; is_said = after (codes "bootimg: usage") (codes "bad image 3") refl; topic = refl };
  words = record { said = codes "write failed"; is_said = whole (codes "write failed") refl; topic = refl };
  one = about_one;
  longer_name = about_none (codes "Truncatedness") (codes "Truncatedness") (whole (codes "Truncatedness") refl) (λ given is. cc);
  two_colons =
      about_none (codes "Truncated: bootimg") (codes "bootimg") (after (codes "Truncated") (codes "bootimg") refl) (λ given is. cc);
  empty = about_none [] [] (whole [] refl) (λ given is. cc);
}
