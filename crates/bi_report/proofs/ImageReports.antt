use Rattle.std.proofs.Common.{◌≡◌, ◌↔◌, ℕ, Bool, true, false, List, [], ◌∷◌, ◌++◌, map, refl, sym, ap, ap₂, subst, ◌∙◌, IsTrue, ◌&&◌, rules}
use Rattle.std.proofs.Common.{Result, Ok, Err, IfOk, IfErr, OnOk}
use Rattle.std.specs.List.{list_all}
use Rattle.std.proofs.lemmas.Grind.{flat_map-append}
use Rattle.std.proofs.lemmas.List.{map-append}
use Rattle.bi_base.specs.Commands.{Appended, AppendFailed, WasRefused, SinkFailed}
use Rattle.bi_base.specs.declared.fault.Error.{Error}
use Rattle.bi_base.specs.declared.fault.Error.TheVariants.{OutOfMemory}
use Rattle.bi_base.specs.Limits.{Limits}
use Rattle.bi_base.specs.Sinks.{FailsWithin}
use Rattle.bi_base.specs.VecSinks.{Grows, IsOutOfMemory}
use Rattle.bi_hash.specs.declared.verdicts.Verdict.{Verdict}
use Rattle.bi_hash.specs.declared.verdicts.Verdict.TheVariants.{Good, Bad, UnknownAlgo, NoPayload, Malformed}
use Rattle.bi_fit.specs.Content.{FitModel, tree_of}
use Rattle.bi_fit.specs.Judgement.{CheckedHash, verdicts_of}
use Rattle.bi_fit.specs.Reading.{IsReadFit}
use Rattle.bi_legacy.specs.Reading.{LegacyModel, IsReadLegacy}
use Rattle.bi_norm.specs.Meaning.{OfLegacy, OfFit}
use Rattle.bi_norm.specs.Reading.{IsBootImageReadError}
use Rattle.bi_norm.proofs.NormalForms.{needs_memory}
use Rattle.bi_common.specs.declared.format.Format.{Format}
use Rattle.bi_common.specs.declared.format.Format.TheVariants.{Lines, Json}
use Rattle.bi_common.specs.declared.verdict_counts.Counts.{Counts}
use Rattle.bi_common.specs.HashedImages.{HashedImage, images_of_blob}
use Rattle.bi_common.specs.JsonTokens.{value_tokens}
use Rattle.bi_common.specs.LineTokens.{tokens_of_lines}
use Rattle.bi_common.specs.VerdictCounts.{is_verdict, are_good, counts_model, hash_counts}
use Rattle.bi_common.proofs.VerdictCounts.{good_counts}
use Rattle.bi_common.proofs.WrittenTokens.{value_tokens-append}
use Rattle.bi_report.specs.Reports.{AreGood, hash_line, hash_object, hash_report_lines, hash_report_object, hashes_of_images}
use Rattle.bi_report.specs.Reports.{report_lines, report_object}
use Rattle.bi_report.specs.VerifiedFiles.{IsReport, IsVerifyOutput, legacy_report_text, report_text}
use Rattle.bi_report.proofs.FoundImages.{hashes_of_tree}
use Rattle.bi_report.proofs.TreeMemory.{tree_needs_memory}

-- The report on what was read from a file is the report on the file.

-- Good is a verdict that passes the test for it, and the only one.
pub good_passes : (verdict : Verdict) → is_verdict Good verdict ≡ true → verdict ≡ Good
good_passes Good passes = refl
good_passes Bad passes = absurd cc
good_passes UnknownAlgo passes = absurd cc
good_passes NoPayload passes = absurd cc
good_passes Malformed passes = absurd cc

-- Where two tests pass together, both do.
both_pass : (a b : Bool) → IsTrue (a && b) → IsTrue a × IsTrue b
both_pass true b passes = (refl, passes)
both_pass false b passes = absurd cc

-- The test of hash nodes for good verdicts.
all_good : (hashes : List CheckedHash) → IsTrue (list_all (λ (hash : CheckedHash). is_verdict Good hash.verdict) hashes) ↔ AreGood hashes
all_good [] = (λ _. tt, λ _. refl)
all_good (hash ∷ later) = search (rules, both_pass, good_passes, all_good later)

-- The report on a legacy image that was read from a file.
pub legacy_reported : (format : Format) (limits : Limits) (file : List ℕ) (parsed : LegacyModel) → IsReadLegacy limits file parsed →
    IsVerifyOutput format limits true file (legacy_report_text format)
legacy_reported format limits file parsed opened = record {
  report = record { meaning = OfLegacy parsed.image; means = opened.means; is = same format };
  all_good = (λ _. tt, λ _. refl);
}
  where
    same : (form : Format) → legacy_report_text form ≡ report_text form (OfLegacy parsed.image)
    same Lines = refl
    same Json = refl

-- The report on a flattened image tree that was read from a file.
pub tree_reported : (format : Format) (limits : Limits) (file : List ℕ) (content : FitModel) (good : Bool) →
    IsReadFit limits file content → (IsTrue good ↔ AreGood (verdicts_of (tree_of content))) →
    IsVerifyOutput format limits good file (report_text format (OfFit (tree_of content)))
tree_reported format limits file content good is are = record {
  report = record { meaning = OfFit (tree_of content); means = is.means; is = refl };
  all_good = are;
}

-- All verdicts are good if the counts are those of good verdicts.
pub good_of_counts : (hashes : List CheckedHash) (counts : Counts) (good : Bool) → counts ≡ hash_counts hashes → good ≡ are_good counts →
    IsTrue good ↔ AreGood hashes
good_of_counts hashes counts good counted tested =
    subst (λ (b : Bool). IsTrue b ↔ AreGood hashes) (sym (tested ∙ ap are_good counted ∙ good_counts hashes)) (all_good hashes)

-- An error is one of reading the file,
pub not_verified : {S : Type 0} (fails : S → List ℕ → S → Error → Type 0) (format : Format) (limits : Limits) (file : List ℕ)
    (content : FitModel) (old new : S) (error : Error) → IsReadFit limits file content
    → AppendFailed fails (λ text. text ≡ report_text format (OfFit (tree_of content))) (λ error. error ≡ OutOfMemory) old new error
    → AppendFailed fails (IsReport format limits file) (IsBootImageReadError limits file) old new error
not_verified fails format limits file content old new error is (WasRefused none kept) =
    WasRefused (subst (IsBootImageReadError limits file) (sym none) (tree_needs_memory limits file content is)) kept
not_verified fails format limits file content old new error is (SinkFailed text cause is_text failed same) =
    SinkFailed text cause (record { meaning = OfFit (tree_of content); means = is.means; is = is_text }) failed same

-- also if the report is made in memory.
pub not_reported : (format : Format) (limits : Limits) (file old new : List ℕ) (error : Error) →
    AppendFailed (FailsWithin Grows IsOutOfMemory) (IsReport format limits file) (IsBootImageReadError limits file) old new error →
    IsBootImageReadError limits file error
not_reported format limits file old new error (WasRefused is kept) = is
not_reported format limits file old new error (SinkFailed text cause is failed same) =
    subst (IsBootImageReadError limits file) (sym (same ∙ failed.1)) (needs_memory limits file is.meaning is.means)

-- What a call on what was read from a file did is what it did with the file.
pub fit_reported : {S : Type 0} (appends : S → List ℕ → S → Type 0) (format : Format) (limits : Limits) (file : List ℕ)
    (content : FitModel) (old new : S) (result : Result Bool Error) → IsReadFit limits file content →
    OnOk result (appends old (report_text format (OfFit (tree_of content))) new) →
    IfOk result (λ good. IsTrue good ↔ AreGood (verdicts_of (tree_of content))) →
    IfOk result (λ good. Appended appends (IsVerifyOutput format limits good file) old new)
fit_reported appends format limits file content old new (Ok good) is written are = search (rules, tree_reported)
fit_reported appends format limits file content old new (Err error) is written are = tt

pub fit_not_reported : {S V : Type 0} (fails : S → List ℕ → S → Error → Type 0) (format : Format) (limits : Limits) (file : List ℕ)
    (content : FitModel) (old new : S) (result : Result V Error) → IsReadFit limits file content →
    IfErr result (AppendFailed fails (λ text. text ≡ report_text format (OfFit (tree_of content))) (λ error. error ≡ OutOfMemory) old new) →
    IfErr result (AppendFailed fails (IsReport format limits file) (IsBootImageReadError limits file) old new)
fit_not_reported fails format limits file content old new (Ok value) is failed = tt
fit_not_reported fails format limits file content old new (Err error) is failed =
    not_verified fails format limits file content old new error is failed

-- The hash nodes of the first image and of the others.
pub lines_first : (image : HashedImage) (later : List HashedImage) →
    tokens_of_lines (map hash_line (hashes_of_images (image ∷ later)))
    ≡ tokens_of_lines (map hash_line image.hashes) ++ tokens_of_lines (map hash_line (hashes_of_images later))
lines_first image later = search (rules, map-append, flat_map-append)

pub objects_first : (image : HashedImage) (later : List HashedImage) →
    value_tokens (map hash_object (hashes_of_images (image ∷ later)))
    ≡ value_tokens (map hash_object image.hashes) ++ value_tokens (map hash_object (hashes_of_images later))
objects_first image later = search (rules, map-append, value_tokens-append)

-- The report by what was read: the images, and the numbers of their verdicts.
pub lines_read : (content : FitModel) (images : List HashedImage) (counts : Counts) → images ≡ images_of_blob content →
    counts ≡ hash_counts (verdicts_of (tree_of content)) →
    hash_report_lines (hashes_of_images images) (counts_model counts) ≡ report_lines (OfFit (tree_of content))
lines_read content images counts are counted =
    ap₂ hash_report_lines (ap hashes_of_images are ∙ hashes_of_tree content) (ap counts_model counted)

pub object_read : (content : FitModel) (images : List HashedImage) (counts : Counts) → images ≡ images_of_blob content →
    counts ≡ hash_counts (verdicts_of (tree_of content)) →
    hash_report_object (hashes_of_images images) (counts_model counts) ≡ report_object (OfFit (tree_of content))
object_read content images counts are counted =
    ap₂ hash_report_object (ap hashes_of_images are ∙ hashes_of_tree content) (ap counts_model counted)
