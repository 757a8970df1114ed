use Rattle.std.proofs.Common.{◌≡◌, ◌++◌, ◌^◌, ◌<◌, ℕ, Bool, true, false, List, [], ◌∷◌, Ok, Err, subst, sym, inl, inr, rules}
use Rattle.std.specs.Prelude.{if◌then◌else◌}
use Rattle.std.specs.List.{AllByRecursion}
use Rattle.bi_base.specs.Cells.{cell, AreBytes}
use Rattle.bi_base.specs.Limits.{Limits}
use Rattle.bi_base.specs.declared.fault.Error.{Error}
use Rattle.bi_base.specs.declared.fault.Error.TheVariants.{Refused, OutOfMemory}
use Rattle.bi_base.proofs.ByteLists.{AreBytes-left, AreBytes-right}
use Rattle.bi_legacy.specs.Emitting.{WroteImage, HasNoEmitFault}
use Rattle.bi_legacy.specs.File.{header, LegacyMeans}
use Rattle.bi_legacy.specs.Meaning.{LegacyImage, FitsFields}
use Rattle.bi_legacy.specs.Text.{with_zeros, joined_parts, legacy_text}
use Rattle.bi_legacy.proofs.NoEmitFault.{no_emit_fault_image}
use Rattle.bi_legacy.proofs.TextMeans.{legacy_text_means}
use Rattle.bi_norm.specs.LegacyBuilding.{IsBuiltLegacy, IsBuildLegacyError}

-- A legacy image that was written has no fault, and its text means the image.

-- The name in a header of bytes is bytes.
name_in_header : (image : LegacyImage) (field body : List ℕ) → AreBytes (header image field body) → AreBytes field
unfolding header
name_in_header image field body bytes =
    AreBytes-right (image.os ∷ image.arch ∷ image.image_type ∷ image.compression ∷ []) field
    (AreBytes-right (cell _) _ (AreBytes-right (cell _) _
    (AreBytes-right (cell _) _ (AreBytes-right (cell _) _
    (AreBytes-right (cell _) _ (AreBytes-right (cell _) _ (AreBytes-right (cell _) _ bytes)))))))

-- The parts of data of bytes are bytes.
joined_bytes : (parts : List (List ℕ)) → AreBytes (joined_parts parts) → AllByRecursion AreBytes parts
joined_bytes [] bytes = tt
joined_bytes (part ∷ []) bytes = (bytes, tt)
joined_bytes (part ∷ next ∷ later) bytes = (
  AreBytes-left part _ (AreBytes-left (with_zeros part) (joined_parts (next ∷ later)) bytes),
  joined_bytes (next ∷ later) (AreBytes-right (with_zeros part) (joined_parts (next ∷ later)) bytes),
)

parts_in_body : (has_table : Bool) (table joined : List ℕ) → AreBytes (if has_table then table ++ joined else joined) → AreBytes joined
parts_in_body true table joined bytes = AreBytes-right table joined bytes
parts_in_body false table joined bytes = bytes

-- The name and the parts in a text of bytes are bytes.
name_bytes : (image : LegacyImage) → AreBytes (legacy_text image) → AreBytes image.name
unfolding legacy_text
name_bytes image bytes = search (rules, AreBytes-left, name_in_header)

parts_bytes : (image : LegacyImage) → AreBytes (legacy_text image) → AllByRecursion AreBytes image.parts
unfolding legacy_text
parts_bytes image bytes = search (rules, joined_bytes, parts_in_body, AreBytes-right)

-- A text that was written means its image.
pub is_built : (limits : Limits) (image : LegacyImage) (text : List ℕ) → FitsFields image → limits.file < 2 ^ 32 →
    HasNoEmitFault limits image → text ≡ legacy_text image → AreBytes text → IsBuiltLegacy limits image text
is_built limits image text ranges small none is bytes =
    let all : AreBytes (legacy_text image) = subst AreBytes is bytes in
    record {
      no_fault = none;
      is_text = is;
      accepted = subst (λ (file : List ℕ). LegacyMeans limits file image) (sym is) (record {
        is_file = legacy_text_means image
            (no_emit_fault_image image limits ranges (name_bytes image all) (parts_bytes image all) small none);
        short = none.1.1.0;
      });
    }

-- An image that was written has no fault, and its text was appended.
pub legacy_text_written : {S : Type 0} (appends : S → List ℕ → S → Type 0) (fails : S → List ℕ → S → Error → Type 0) (limits : Limits)
    (image : LegacyImage) (old new : S) → WroteImage appends fails limits image old (Ok tt) new →
    HasNoEmitFault limits image × appends old (legacy_text image) new
legacy_text_written appends fails limits image old new wrote = elim wrote.refused_or_written [
  | inl none ↦ (none, wrote.written none)
  | inr some ↦ absurd (let e = (wrote.refused some.0 some.1).0 in cc)
]

-- The error of writing an image to a sink that fails only where memory runs out.
pub build_error : {S : Type 0} (appends : S → List ℕ → S → Type 0) (fails : S → List ℕ → S → Error → Type 0) (limits : Limits)
    (image : LegacyImage) (old new : S) (error : Error) → ((text : List ℕ) → fails old text new error → error ≡ OutOfMemory) →
    WroteImage appends fails limits image old (Err error) new → IsBuildLegacyError limits image error
build_error appends fails limits image old new error memory wrote = elim wrote.refused_or_written [
  | inl none ↦ subst (IsBuildLegacyError limits image) (sym (memory (legacy_text image) (wrote.written none))) none
  | inr some ↦
      let e = (wrote.refused some.0 some.1).0 in
      let same : error ≡ Refused some.0 = cc in
      subst (IsBuildLegacyError limits image) (sym same) some.1
]
