use Rattle.std.proofs.Common.{◌≡◌, ◌<◌, ◌+◌, ℕ, Bool, true, List, ◌∷◌, drop, get_or, length, sym, ap, ◌∙◌, add-one}
use Rattle.std.specs.Prelude.{◌||◌}
use Rattle.std.specs.List.{list_any}
use Rattle.std.proofs.Math.Seq.{drop-cons}
use Rattle.bi_describe.specs.declared.ignored.Ignored.{Ignored as MadeWord}
use Rattle.bi_describe.specs.Ignoring.{Ignored}
use Rattle.bi_describe.specs.MadeWords.{ignored_word, ignored_words}

-- Of some words one leaves something out if and only if the first does, or one of the later ones.

-- The words from one on are this one and those after it.
words_from : (words : List MadeWord) (index : ℕ) (word : MadeWord) → word ≡ get_or words index word → index < length words →
    ignored_words (drop index words) ≡ ignored_word word ∷ ignored_words (drop (index + 1) words)
words_from words index word is within =
    let cons : drop index words ≡ get_or words index word ∷ drop (index + 1) words = rw add-one (drop-cons words index word within) in
    ap ignored_words cons ∙ ap (λ item. ignored_word item ∷ ignored_words (drop (index + 1) words)) (sym is)

any_from : (leaves_out : Ignored → Bool) (words : List MadeWord) (index : ℕ) (word : MadeWord) → word ≡ get_or words index word →
    index < length words → list_any leaves_out (ignored_words (drop index words))
    ≡ (leaves_out (ignored_word word) || list_any leaves_out (ignored_words (drop (index + 1) words)))
any_from leaves_out words index word is within = ap (list_any leaves_out) (words_from words index word is within)

-- One that does ends the search.
pub any_found : (leaves_out : Ignored → Bool) (words : List MadeWord) (index : ℕ) (word : MadeWord) (all : Bool) →
    word ≡ get_or words index word → index < length words → leaves_out (ignored_word word) ≡ true →
    list_any leaves_out (ignored_words (drop index words)) ≡ all → true ≡ all
any_found leaves_out words index word all is within does left =
    sym (ap (λ b. b || list_any leaves_out (ignored_words (drop (index + 1) words))) does)
    ∙ sym (any_from leaves_out words index word is within) ∙ left
