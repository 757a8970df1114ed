use Rattle.std.proofs.Common.{◌≡◌, ◌<◌, ◌⊎◌, length, inl, inr, ap, ◌∙◌, arith, rules}
use Rattle.bi_fit.specs.declared.form.Form.TheVariants.{Embedded}
use Rattle.bi_fit.specs.File.{IsFitFile}
use Rattle.bi_fit.specs.ImageTree.{ImageTree}
use Rattle.bi_fit.specs.KnownFiles.{shared_file, shared_region, shared_tree}
use Rattle.bi_fit.specs.Text.{fit_text}
use Rattle.bi_fit.proofs.FileFacts.{shared_region_is_repeated}
use Rattle.bi_fit.proofs.Meanings.{one_fit_meaning}
use Rattle.bi_legacy.specs.KnownFaults.{limited_to}
use Rattle.bi_norm.specs.Meaning.{Meaning, Means, OfFit, OfLegacy, normal_text}
use Rattle.bi_norm.proofs.KindLaws.{one_kind}
use Rattle.bi_norm.proofs.TextBoundFacts.{shared_means}
use Rattle.bi_describe.specs.KnownRefusals.{three_payloads}
use Rattle.bi_commands.specs.KnownBounds.{PayloadBoundsAreKnown, UpdateBoundsAreKnown}
use Rattle.bi_commands.specs.KnownUpdates.{no_changes}
use Rattle.bi_commands.specs.UpdatedFiles.{HashesTooMuch, IsTooLongToUpdate, updated_meaning}

-- Small boot images are over the bounds for payloads and updates or within them.

pub payload_bounds_are_known : PayloadBoundsAreKnown
payload_bounds_are_known = search rules

-- ---- the lengths of updated texts

shared_is_updated : IsTooLongToUpdate no_changes (limited_to 3167) Embedded (shared_file 0 1000)
shared_is_updated =
    let longer : 3167 < length (fit_text Embedded (shared_tree shared_region)) =
    omega (arith, shared_region_is_repeated.embedded_length) in
    record { meaning = three_payloads; means = shared_means 3167 (omega arith); is_too_long = inr longer }

-- The length of the text of what the file means.
shared_length : (tree : ImageTree) → IsFitFile (shared_file 0 1000) tree → length (fit_text Embedded tree) ≡ 3168
shared_length tree is =
    ap (λ (t : ImageTree). length (fit_text Embedded t))
    (one_fit_meaning (shared_file 0 1000) tree (shared_tree shared_region) is shared_region_is_repeated.means)
    ∙ shared_region_is_repeated.embedded_length

shared_is_within : ¬ (IsTooLongToUpdate no_changes (limited_to 3168) Embedded (shared_file 0 1000))
shared_is_within is = by is.meaning is.means is.is_too_long where
  by : (meaning : Meaning) → Means (limited_to 3168) (shared_file 0 1000) meaning
      → HashesTooMuch no_changes (limited_to 3168) meaning ⊎ (3168 < length (normal_text Embedded (updated_meaning no_changes meaning)))
      → ⊥
  by meaning means (inl too_much) = let bad = too_much.hashes in cc
  by (OfLegacy image) means (inr longer) =
      one_kind (shared_file 0 1000) image (shared_tree shared_region) means.is_file shared_region_is_repeated.means
  by (OfFit tree) means (inr longer) =
      let text_is_longer : 3168 < length (fit_text Embedded tree) = longer in
      omega (arith, text_is_longer, shared_length tree means.is_file)

pub update_bounds_are_known : UpdateBoundsAreKnown
update_bounds_are_known = record { text = shared_is_updated; text_within = shared_is_within }
