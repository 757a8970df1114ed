use Rattle.std.specs.Prelude.{ℕ, List, [], ◌∷◌, Option, Some, filter, flat_map, map}
use Rattle.std.specs.Option.{option_map}
use Rattle.bi_fit.specs.Judgement.{CheckedHash}
use Rattle.bi_base.specs.Slices.{bytes_of}
use Rattle.bi_common.specs.Json.{Json}
use Rattle.bi_common.specs.Lines.{Line, name_or_dash}
use Rattle.bi_report.specs.declared.details.Detail.{Detail as MadeDetail}
use Rattle.bi_report.specs.declared.details.Detail.TheVariants as detail
use Rattle.bi_report.specs.Checking.{is_good}
use Rattle.bi_report.specs.ConcernValues.{used_left}
use Rattle.bi_report.specs.Details.{Detail, NameDetail, PathDetail, WordDetail, NumberDetail}
use Rattle.bi_report.specs.Details.{DigitsDetail, NamesDetail, name_json}

-- Details as the code has them.

-- The algorithms of the Good ones of these hash nodes: the names, the words for them, and the
-- strings.
abbrev pub good_algorithms : List CheckedHash → List (Option (List ℕ))
good_algorithms hashes = map (λ hash. hash.algo) (filter is_good hashes)

abbrev pub algorithm_words : List CheckedHash → Line
algorithm_words hashes = map name_or_dash (good_algorithms hashes)

abbrev pub algorithm_strings : List CheckedHash → List Json
algorithm_strings hashes = map name_json (good_algorithms hashes)

-- A detail, if it is one.
abbrev pub details_in : MadeDetail → List Detail
details_in detail.Nothing = []
details_in (detail.Name member name) =
    NameDetail member.now (option_map (λ name. name.now) name) ∷ []
details_in (detail.Needed member path) = NameDetail member.now (Some path.now) ∷ []
details_in (detail.Path member names) = PathDetail member.now (bytes_of names.now) ∷ []
details_in (detail.Word member word) = WordDetail member.now word.now ∷ []
details_in (detail.Number member number) = NumberDetail member.now number ∷ []
details_in (detail.Digits member value) =
    DigitsDetail member.now (option_map (λ value. value.now) value) ∷ []
details_in (detail.Algorithms member hashes) =
    NamesDetail member.now (good_algorithms (used_left hashes)) ∷ []

-- Details.
abbrev pub made_details : List MadeDetail → List Detail
made_details details = flat_map details_in details
