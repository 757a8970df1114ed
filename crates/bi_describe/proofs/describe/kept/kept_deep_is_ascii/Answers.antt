use Rattle.std.proofs.Common.{subst, sym, ap}
use Rattle.bi_base.specs.Cells.{AreBytes}
use Rattle.bi_legacy.specs.Meaning.{LegacyImage}
use Rattle.bi_fit.specs.Content.{tree_of}
use Rattle.bi_fit.proofs.NormalTrees.{held_means}
use Rattle.bi_norm.specs.Reading.{meaning_of}
use Rattle.bi_common.specs.HeldImages.{IsHeldImage}
use Rattle.bi_common.proofs.PrintedWords.{CanPrintLines}
use Rattle.bi_describe.specs.Descriptions.{description_lines}
use Rattle.bi_describe.proofs.PrintedDescriptions.{fit_can, legacy_can}
use Rattle.bi_describe.proofs.PrintedInside.{deep_lines_stay_ascii}
use Rattle.bi_describe.proofs.describe.kept.kept_deep_is_ascii.Goals as goal

pub returns-in-Legacy : goal.returns-in-Legacy
returns-in-Legacy c words insides is_opened are =
    deep_lines_stay_ascii c.args.limits words is_opened (meaning_of c.args.image.now) insides are
    (subst (λ image. CanPrintLines (description_lines (meaning_of image))) (sym c.in-Legacy.is)
    (legacy_can c.in-Legacy.image.image
    (subst AreBytes (ap (λ (image : LegacyImage). image.name) c.fields.ensures) c.are_bytes.ensures)))

pub returns-in_default : goal.returns-in_default
returns-in_default c words insides is_opened are =
    let content = c.in_default.field-0 in
    deep_lines_stay_ascii c.args.limits words is_opened (meaning_of c.args.image.now) insides are
    (subst (λ image. CanPrintLines (description_lines (meaning_of image))) (sym c.in_default.is)
    (fit_can content.blob.file (tree_of content) (held_means content (subst IsHeldImage c.in_default.is c.requires.held))))
