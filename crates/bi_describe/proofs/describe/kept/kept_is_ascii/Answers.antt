use Rattle.std.proofs.Common.{IsAscii, sym, ap, subst}
use Rattle.bi_base.specs.Cells.{AreBytes}
use Rattle.bi_legacy.specs.Meaning.{LegacyImage}
use Rattle.bi_norm.specs.Reading.{meaning_of}
use Rattle.bi_common.specs.HeldImages.{IsHeldImage}
use Rattle.bi_common.specs.Lines.{text_of_lines}
use Rattle.bi_describe.specs.ReducedMeanings.{meaning_without, reduced_lines}
use Rattle.bi_describe.proofs.PrintedDescriptions.{fit_stays_ascii, legacy_stays_ascii}
use Rattle.bi_describe.proofs.describe.kept.kept_is_ascii.Goals as goal

pub returns-in-Legacy : goal.returns-in-Legacy
returns-in-Legacy c words =
    subst (λ image. IsAscii (text_of_lines (reduced_lines (meaning_without words (meaning_of image))))) (sym c.in-Legacy.is)
    (legacy_stays_ascii words c.in-Legacy.image.image
    (subst AreBytes (ap (λ (image : LegacyImage). image.name) c.fields.ensures) c.are_bytes.ensures))

pub returns-in_default : goal.returns-in_default
returns-in_default c words =
    subst (λ image. IsAscii (text_of_lines (reduced_lines (meaning_without words (meaning_of image))))) (sym c.in_default.is)
    (fit_stays_ascii words c.in_default.field-0 (subst IsHeldImage c.in_default.is c.requires.held))
