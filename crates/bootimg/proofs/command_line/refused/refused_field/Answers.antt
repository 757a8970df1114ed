use Rattle.std.proofs.Common.{option_map, refl, subst}
use Rattle.std.proofs.lemmas.Result.{IfOk-weaker}
use Rattle.bootimg.specs.RefusedWords.{FindsFirst, NoFields, OfFields, given_word}
use Rattle.bootimg.proofs.command_line.refused.refused_field.Goals as goal

pub returns-in-Some : goal.returns-in-Some
returns-in-Some c =
    IfOk-weaker c.first_refused.result _ _
    (λ found is. OfFields c.in-Some.fields c.in-Some.ensures.some
    (subst (λ all. FindsFirst all (option_map given_word found)) c.given_fields.ensures is))
    c.first_refused.ensures

pub returns-in-None : goal.returns-in-None
returns-in-None c = NoFields c.in-None.ensures.none refl
