use Rattle.std.proofs.Common.{◌≡◌, ℕ, IfNone, Option, None, Some, sym, ap, ◌∙◌}
use Rattle.std.specs.Fmt.{decimal}
use Rattle.std.proofs.lemmas.Fmt.{parse-decimal}
use Rattle.bi_describe.proofs.ignored.path_words.number_of_text.Goals as goal

none_weaker : {A B : Type 0} (found : Option ℕ) → IfNone found A → (A → B) → IfNone found B
none_weaker None is then = then is
none_weaker (Some number) is then = tt

pub returns-in-Ok-clause-none : goal.returns-in-Ok-clause-none
returns-in-Ok-clause-none c = none_weaker c.number_if_shown.result c.number_if_shown.ensures.none (λ other number small is.
    let read = parse-decimal 64 number _ _ small small (sym is) c.parse.ensures.value.0 in
    let same : c.in-Ok.number ≡ number = cc in
    other (ap decimal same ∙ is))

pub returns-in-Err-clause-none : goal.returns-in-Err-clause-none
returns-in-Err-clause-none c number small is =
    absurd (cc (parse-decimal 64 number _ _ small small (sym is) c.parse.ensures.value.0))
