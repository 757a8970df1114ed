use Rattle.std.proofs.Common.{◌≡◌, ℕ, zero, suc, ◌+◌, ◌≤◌, List, [], ◌∷◌, Option, Some, None, length, drop, slice_get, refl, sym, subst}
use Rattle.std.proofs.Common.{◌∙◌, arith}
use Rattle.std.specs.Prelude.{unwrap_or, IfSome}
use Rattle.std.specs.List.{AllZip}
use Rattle.bi_blob.specs.Tree.{Nodes, none, node, FileNode}
use Rattle.bi_fit.specs.ImageTree.{each_own}
use Rattle.bi_fit.specs.Payloads.{source_of, payload_place, IsAtPlace}
use Rattle.bi_fit.proofs.Meanings.{same_in_some}
use Rattle.bi_report.specs.Checking.{content_end, payload_end}
use Rattle.bi_report.specs.CleanFiles.{AreZeros, EndsBy, HasZerosAfter, IsAfterContent}

-- The end of the content of an image tree: an index is after the content if and only if it is not before this end.

-- Each payload of these image nodes is in the file at its place.
abbrev pub AreAtPlaces : List ℕ → Nodes FileNode → List (Option (List ℕ)) → Type 0
AreAtPlaces file nodes payloads = AllZip
    (λ own payload. IsAtPlace file (payload_place file (source_of own)) payload) (each_own nodes) payloads

-- One payload.
ends_by : (file : List ℕ) (index : ℕ) (own : FileNode) (payload : Option (List ℕ)) →
    IsAtPlace file (payload_place file (source_of own)) payload → payload_end file (source_of own) payload ≤ index →
    IfSome payload (EndsBy file index own)
ends_by file index own None at before = tt
ends_by file index own (Some payload) at before = by (payload_place file (source_of own)) refl at before where
  by : (place : Option ℕ) → payload_place file (source_of own) ≡ place → IsAtPlace file place (Some payload) →
      unwrap_or place 0 + length payload ≤ index → EndsBy file index own payload
  by None is at before = absurd at
  by (Some place) is at before = record { place = place; is_place = is; is_at = at; is_before = before }

end_is_before : (file : List ℕ) (index : ℕ) (own : FileNode) (payload : Option (List ℕ)) →
    IfSome payload (EndsBy file index own) → payload_end file (source_of own) payload ≤ index
end_is_before file index own None ends = omega arith
end_is_before file index own (Some payload) ends =
    subst (λ place. unwrap_or place 0 + length payload ≤ index) (sym ends.is_place) ends.is_before

-- All payloads.
pub after_content : (file : List ℕ) (nodes : Nodes FileNode) (payloads : List (Option (List ℕ))) → AreAtPlaces file nodes payloads →
    (index : ℕ) → content_end file nodes payloads ≤ index → IsAfterContent file nodes payloads index
after_content file none [] at index after = record { after_blob = after; after_payloads = tt }
after_content file none (payload ∷ payloads) at index after = absurd at
after_content file (node name own children later) [] at index after = absurd at
after_content file (node name own children later) (payload ∷ payloads) at index after =
    let rest = after_content file later payloads at.1 index (omega (arith, after)) in
    record {
      after_blob = rest.after_blob;
      after_payloads = (ends_by file index own payload at.0 (omega (arith, after)), rest.after_payloads);
    }

pub not_before_end : (file : List ℕ) (nodes : Nodes FileNode) (payloads : List (Option (List ℕ))) → (index : ℕ) →
    IsAfterContent file nodes payloads index → content_end file nodes payloads ≤ index
not_before_end file none [] index after = after.after_blob
not_before_end file none (payload ∷ payloads) index after = after.after_blob
not_before_end file (node name own children later) [] index after = after.after_blob
not_before_end file (node name own children later) (payload ∷ payloads) index after =
    let here : payload_end file (source_of own) payload ≤ index = end_is_before file index own payload after.after_payloads.0 in
    let rest : content_end file later payloads ≤ index = not_before_end file later payloads index
    (record { after_blob = after.after_blob; after_payloads = after.after_payloads.1 }) in
    omega (arith, here, rest)

-- The bytes from an index on are zero if and only if each byte at or after the index is.
each_is_zero : (end : ℕ) (file : List ℕ) → AreZeros (drop end file) → (index byte : ℕ) → end ≤ index → slice_get file index ≡ Some byte →
    byte ≡ 0
each_is_zero end [] are index byte after at = absurd cc
each_is_zero zero (first ∷ later) are zero byte after at = sym (same_in_some first byte at) ∙ are.0
each_is_zero zero (first ∷ later) are (suc index) byte after at = each_is_zero zero later are.1 index byte (omega arith) at
each_is_zero (suc end) (first ∷ later) are zero byte after at = absurd (omega (arith, after))
each_is_zero (suc end) (first ∷ later) are (suc index) byte after at = each_is_zero end later are index byte (omega (arith, after)) at

all_are_zeros : (end : ℕ) (file : List ℕ) → ((index byte : ℕ) → end ≤ index → slice_get file index ≡ Some byte → byte ≡ 0) →
    AreZeros (drop end file)
all_are_zeros zero [] each = tt
all_are_zeros (suc end) [] each = tt
all_are_zeros zero (first ∷ later) each =
    (each 0 first (omega arith) refl, all_are_zeros zero later (λ index byte after at. each (suc index) byte (omega arith) at))
all_are_zeros (suc end) (first ∷ later) each =
    all_are_zeros end later (λ index byte after at. each (suc index) byte (omega (arith, after)) at)

-- So the bytes from the end of the content on are zero if and only if each byte after the content is.
pub zeros_after : (file : List ℕ) (nodes : Nodes FileNode) (payloads : List (Option (List ℕ))) →
    AreZeros (drop (content_end file nodes payloads) file) → HasZerosAfter file nodes payloads
zeros_after file nodes payloads are index byte after at =
    each_is_zero (content_end file nodes payloads) file are index byte (not_before_end file nodes payloads index after) at

pub zeros_from_end : (file : List ℕ) (nodes : Nodes FileNode) (payloads : List (Option (List ℕ))) → AreAtPlaces file nodes payloads →
    HasZerosAfter file nodes payloads → AreZeros (drop (content_end file nodes payloads) file)
zeros_from_end file nodes payloads places zeros =
    all_are_zeros (content_end file nodes payloads) file
    (λ index byte after at. zeros index byte (after_content file nodes payloads places index after) at)
