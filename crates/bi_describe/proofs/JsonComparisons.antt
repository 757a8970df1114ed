use Rattle.std.proofs.Common.{List, [], ◌∷◌, map, subst, sym}
use Rattle.bi_common.specs.Json.{HaveNumbers, json_values}
use Rattle.bi_common.specs.JsonGrammar.{IsJsonLine}
use Rattle.bi_common.proofs.JsonTexts.{json_lines_are_json}
use Rattle.bi_describe.specs.ComparisonJson.{comparison_object, signed_object}
use Rattle.bi_describe.specs.Differences.{SignedLine}
use Rattle.bi_describe.specs.JsonLaws.{ComparisonsAreJson}

-- Each comparison in JSON is JSON.

-- No line has a number.
no_numbers : (lines : List SignedLine) → HaveNumbers (json_values (map signed_object lines))
no_numbers [] = tt
no_numbers (line ∷ later) = ((tt, (tt, tt)), no_numbers later)

pub comparisons_are_json : ComparisonsAreJson
comparisons_are_json limits one other same text is =
    subst IsJsonLine (sym is.differs.is_text)
    (json_lines_are_json (comparison_object same is.differs.lines) (tt, (no_numbers is.differs.lines, tt)))
