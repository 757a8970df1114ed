use Rattle.std.specs.Prelude.{[], ◌∷◌, None, Some, codes, replicate}
use Rattle.bi_fit.specs.declared.form.Form.TheVariants.{Embedded}
use Rattle.bi_fit.specs.ImageTree.{ImageTree}
use Rattle.bi_fit.specs.KnownFiles.{plain_tree, shared_file}
use Rattle.bi_legacy.specs.KnownFaults.{limited_to}
use Rattle.bi_legacy.specs.KnownImages.{multi_image}
use Rattle.bi_norm.specs.Meaning.{OfLegacy, OfFit}
use Rattle.bi_common.specs.PayloadBounds.{IsOverPayloadBound}
use Rattle.bi_describe.specs.KnownRefusals.{three_payloads}
use Rattle.bi_commands.specs.KnownUpdates.{no_changes, only_hashes, only_time}
use Rattle.bi_commands.specs.UpdatedFiles.{HashesTooMuch, IsTooLongToUpdate}

-- Small boot images whose payloads are over the payload bound or within it, by which a reader can
-- judge the definitions.

-- An image with a payload of 100 bytes, one with an empty payload, and one without a payload.
abbrev pub payload_of_100 : ImageTree
payload_of_100 =
    plain_tree
    (codes "a" ∷ codes "b" ∷ codes "c" ∷ [])
    (Some (replicate 100 7) ∷ Some [] ∷ None ∷ [])

-- Payloads that are as long as the limit are within it. Equal payloads count once for each image,
-- and an empty or missing payload counts nothing. The parts of a legacy image do not count.
pub record PayloadBoundsAreKnown : Type 0 where
  pub three : IsOverPayloadBound (limited_to 2999) three_payloads
  pub three_within : ¬ (IsOverPayloadBound (limited_to 3000) three_payloads)
  pub one : IsOverPayloadBound (limited_to 99) (OfFit payload_of_100)
  pub one_within : ¬ (IsOverPayloadBound (limited_to 100) (OfFit payload_of_100))
  pub parts_within : ¬ (IsOverPayloadBound (limited_to 7) (OfLegacy multi_image))
  pub hashes : HashesTooMuch only_hashes (limited_to 2999) three_payloads
  pub hashes_within : ¬ (HashesTooMuch only_hashes (limited_to 3000) three_payloads)
  pub time : ¬ (HashesTooMuch (only_time 5) (limited_to 2999) three_payloads)

-- Without changes the text of an update is the normal text: that of a file of 1,244 bytes, whose
-- images share a region, has 3,168 bytes. A text that is as long as the limit is within it.
pub record UpdateBoundsAreKnown : Type 0 where
  pub text : IsTooLongToUpdate no_changes (limited_to 3167) Embedded (shared_file 0 1000)
  pub text_within :
      ¬ (IsTooLongToUpdate no_changes (limited_to 3168) Embedded (shared_file 0 1000))
