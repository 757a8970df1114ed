use Rattle.std.proofs.Common.{ap, sym, take, ◌∙◌}
use Rattle.std.specs.List.{list_any}
use Rattle.std.proofs.lemmas.List.{take-map}
use Rattle.bi_describe.specs.MadeInsides.{has_place, trees_after}
use Rattle.bi_describe.specs.MadeWords.{ignored_word, ignored_words, place_of_payload}
use Rattle.bi_describe.specs.OpenedPayloads.{is_word_inside}
use Rattle.bi_describe.proofs.HeldInsides.{on_ok}
use Rattle.bi_describe.proofs.WordsLeftOut.{held_for, is_whole, no_word_inside, word_again, word_first}
use Rattle.bi_describe.proofs.describe.insides.Insides.leave_out_word.Goals as goal

pub returns-in_default : goal.returns-in_default
returns-in_default c = λ insides held.
    held_for _ _ c.args.self.now
    (no_word_inside c.args.words.now c.args.index c.index-words-index.result c.index-words-index.is c.requires insides
    (λ place. sym (c.payload_of_word.ensures place) ∙ ap (has_place place) c.in_default.is)) held

pub returns-then-is_payload_of_one : goal.returns-then-is_payload_of_one
returns-then-is_payload_of_one c = λ insides held.
    let found = place_of_payload c.in-Some.place.now in
    held_for _ _ c.args.self.now
    (word_again c.args.words.now c.args.index c.index-words-index.result c.index-words-index.is c.requires insides found
    (λ place. sym (ap (has_place place) c.in-Some.is) ∙ c.payload_of_word.ensures place)
    (ap (list_any (is_word_inside found)) (take-map ignored_word c.args.index c.args.words.now) ∙ sym c.if-is_payload_of_one.ensures)) held

pub returns : goal.returns
returns c =
    let words = ignored_words c.args.words.now in
    let found = place_of_payload c.in-Some.place.now in
    let before = ap (list_any (is_word_inside found)) (take-map ignored_word c.args.index c.args.words.now)
    ∙ sym c.if-is_payload_of_one.ensures in
    on_ok c.leave_out_at.result (λ less insides held.
    held_for _ _ c.leave_out_at.new.self
    (word_first c.args.words.now c.args.index c.index-words-index.result c.index-words-index.is c.requires insides found
    (λ place. sym (ap (has_place place) c.in-Some.is) ∙ c.payload_of_word.ensures place) before)
    (less insides (trees_after words (take c.args.index words) insides)
    (is_whole c.args.words.now c.args.index c.index-words-index.result c.index-words-index.is c.requires insides found before) held))
    c.leave_out_at.ensures
