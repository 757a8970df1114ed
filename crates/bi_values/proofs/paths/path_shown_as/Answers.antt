use Rattle.std.proofs.Common.{◌∙◌, ℕ, arith, sym, subst, Global, IfNone, Option, Vec}
use Rattle.std.proofs.lemmas.List.{length-map}
use Rattle.bi_base.proofs.EqualBytes.{other_bytes}
use Rattle.bi_common.proofs.UnshownNames.{some_holds}
use Rattle.bi_values.specs.NameWords.{AreStepsOf, IsNoPath}
use Rattle.bi_values.specs.ValueNames.{names_of_path}
use Rattle.bi_values.proofs.Steps.{no_long_path}
use Rattle.bi_values.proofs.paths.path_shown_as.Goals as goal
use Rattle.bi_values.proofs.paths.path_shown_as.Goals.{then-len-gt-MOST_STEPS, else-len-gt-MOST_STEPS}

pub returns-clause-none : goal.returns-clause-none
returns-clause-none c =
    let text = c.args.text.now in
    let HasNone : Option (Vec (Vec ℕ Global) Global) → Type 0 = λ found. IfNone found (IsNoPath text) in
    let HasSteps : Vec (Vec ℕ Global) Global → Type 0 = λ found. AreStepsOf text (names_of_path found.items) in
    let are = some_holds HasSteps c.in_ok-names.field-0 c.in-Some.names c.in-Some.is c.in_ok-names.ensures.some in
    elim c.if-len-gt-MOST_STEPS.branch [
      | then-len-gt-MOST_STEPS w ↦ subst HasNone (sym w.result-is)
          (no_long_path text (names_of_path c.in-Some.names.items)
          (λ same. other_bytes text c.as_slice.result.now (sym c.eq.ensures ∙ c.if-eq.false) (same ∙ sym c.as_slice.ensures)) are
          (omega (
            arith,
            w.if-len-gt-MOST_STEPS.true,
            c.len.ensures,
            length-map c.in-Some.names.items (λ (name : Vec ℕ Global). name.items),
          )))
      | else-len-gt-MOST_STEPS w ↦ subst HasNone (sym w.result-is) tt
    ]
