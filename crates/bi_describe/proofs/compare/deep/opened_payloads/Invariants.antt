use Rattle.std.proofs.Common.{◌≡◌, take}
use Rattle.std.specs.Prelude.{◌&&◌}
use Rattle.std.specs.List.{list_any}
use Rattle.bi_describe.specs.Devicetrees.{Insides}
use Rattle.bi_describe.specs.Ignoring.{PayloadPlace}
use Rattle.bi_describe.specs.MadeInsides.{HoldInsides, is_one_of_places, whole_devicetrees}
use Rattle.bi_describe.specs.MadeWords.{ignored_words}
use Rattle.bi_describe.specs.OpenedPayloads.{can_open, is_word_inside}
use Rattle.bi_describe.proofs.compare.deep.opened_payloads.Given as goal

-- The payloads that the words before this one open.
abbrev pub invariant-loop-word : goal.invariant-loop-word
invariant-loop-word l =
    (trees others : Insides) → HoldInsides (whole_devicetrees trees) l.insides → HoldInsides (whole_devicetrees others) l.other →
    (place : PayloadPlace) → is_one_of_places l.places.items place
    ≡ (list_any (is_word_inside place) (ignored_words (take l.word-index l.words)) && can_open (ignored_words l.words) trees others place)
