use Rattle.std.proofs.Common.{◌≡◌, ◌∙◌, refl, rules, sym}
use Rattle.bi_norm.specs.declared.kind.Kind.TheVariants.{Fit, Legacy}
use Rattle.bootimg.specs.EditedImages.{OfTree}
use Rattle.bootimg.proofs.edits.without_image.Goals as goal

pub returns-in-Ok-Fit : goal.returns-in-Ok-Fit
returns-in-Ok-Fit c =
    let fit : c.in-Ok-Fit.field-0 ≡ Fit = search rules in
    OfTree (λ begins. absurd (let e = sym c.in-Ok-Fit.is ∙ c.kind_of.ensures.exactly Legacy begins in cc)) refl

pub returns-in-Err : goal.returns-in-Err
returns-in-Err c = OfTree (λ begins. absurd (let e = sym c.in-Err.is ∙ c.kind_of.ensures.exactly Legacy begins in cc)) refl
