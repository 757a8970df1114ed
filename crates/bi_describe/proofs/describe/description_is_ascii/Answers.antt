use Rattle.std.proofs.Common.{IsAscii, sym, ap, subst}
use Rattle.bi_base.specs.Cells.{AreBytes}
use Rattle.bi_legacy.specs.Meaning.{LegacyImage}
use Rattle.bi_norm.specs.Reading.{meaning_of}
use Rattle.bi_common.specs.HeldImages.{IsHeldImage}
use Rattle.bi_describe.specs.Describing.{description_text}
use Rattle.bi_describe.proofs.PrintedDescriptions.{legacy_is_ascii, fit_is_ascii}
use Rattle.bi_describe.proofs.describe.description_is_ascii.Goals as goal

pub returns-in-Legacy : goal.returns-in-Legacy
returns-in-Legacy c =
    subst (λ image. IsAscii (description_text c.args.format (meaning_of image))) (sym c.in-Legacy.is)
    (legacy_is_ascii c.args.format c.in-Legacy.image.image
    (subst AreBytes (ap (λ (image : LegacyImage). image.name) c.fields.ensures) c.are_bytes.ensures))

pub returns-in_default : goal.returns-in_default
returns-in_default c =
    subst (λ image. IsAscii (description_text c.args.format (meaning_of image))) (sym c.in_default.is)
    (fit_is_ascii c.args.format c.in_default.field-0 (subst IsHeldImage c.in_default.is c.requires.held))
