use Rattle.std.proofs.Common.{ℕ, List, sym, subst, ◌∙◌}
use Rattle.bi_base.specs.Commands.{AppendFailed, WasRefused, SinkFailed}
use Rattle.bi_base.specs.declared.fault.Error.{Error}
use Rattle.bi_base.specs.Limits.{Limits}
use Rattle.bi_base.specs.Sinks.{FailsWithin}
use Rattle.bi_base.specs.VecSinks.{Grows, IsOutOfMemory}
use Rattle.bi_norm.specs.Meaning.{OfFit}
use Rattle.bi_norm.specs.Reading.{NeedsMemory, ForLegacyImage, IsBootImageReadError}
use Rattle.bi_norm.proofs.NormalForms.{needs_memory}
use Rattle.bi_common.specs.declared.format.Format.{Format}
use Rattle.bi_report.specs.ListedFiles.{IsListing, OfLegacyImage, OfImageTree}

-- The errors of listing a file to memory.

-- Memory may run out for a file that has a listing.
listing_needs_memory : (format : Format) (limits : Limits) (file text : List ℕ) → IsListing format limits file text →
    NeedsMemory limits file
listing_needs_memory format limits file text (OfLegacyImage parsed is same) = ForLegacyImage parsed.image is.means
listing_needs_memory format limits file text (OfImageTree is) = needs_memory limits file (OfFit is.tree) is.means

-- An error of listing a file to memory.
pub failed_in_memory : (format : Format) (limits : Limits) (file old new : List ℕ) (error : Error) →
    AppendFailed (FailsWithin Grows IsOutOfMemory) (IsListing format limits file) (IsBootImageReadError limits file) old new error →
    IsBootImageReadError limits file error
failed_in_memory format limits file old new error (WasRefused is kept) = is
failed_in_memory format limits file old new error (SinkFailed text cause is failed same) =
    subst (IsBootImageReadError limits file) (sym (same ∙ failed.1)) (listing_needs_memory format limits file text is)
