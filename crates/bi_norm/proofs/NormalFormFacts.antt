use Rattle.std.proofs.Common.{◌≡◌, ◌⊎◌, ◌≤◌, ℕ, List, [], ◌++◌, length, codes, Some, None, refl, sym, ap, subst, ◌∙◌, inl, inr, lit≤}
use Rattle.std.proofs.Common.{arith}
use Rattle.std.specs.FinMap.{empty}
use Rattle.bi_base.specs.Cells.{cell, cell8, u32_at}
use Rattle.bi_base.specs.declared.fault.Error.{Error}
use Rattle.bi_base.specs.declared.fault.Error.TheVariants.{Refused, OutOfMemory, ReadFailed, WriteFailed}
use Rattle.bi_base.specs.Limits.{Limits, widest}
use Rattle.bi_base.specs.Reading.{too_large}
use Rattle.bi_blob.specs.Layout.{text_of_tree, text_of_events, text_of_blocks, tree_with_places, longest_text}
use Rattle.bi_blob.specs.Tree.{Nodes, none, node, Root, Property, PropertyMap, depth_of}
use Rattle.bi_fit.specs.declared.form.Form.{Form}
use Rattle.bi_fit.specs.declared.form.Form.TheVariants.{Embedded, External}
use Rattle.bi_fit.specs.declared.kept.Kept.{Kept}
use Rattle.bi_fit.specs.File.{FitMeans, IsFitFile}
use Rattle.bi_fit.specs.ImageTree.{ImageTree}
use Rattle.bi_fit.specs.Judgement.{signature_count}
use Rattle.bi_fit.specs.Kept.{IsKept, SaysNothing}
use Rattle.bi_fit.specs.KnownFiles.{shared_file, shared_region, shared_tree, three_aligned, three_tree}
use Rattle.bi_fit.specs.KnownFiles.{three_embedded, three_external}
use Rattle.bi_fit.specs.KnownKept.{kept}
use Rattle.bi_fit.specs.Names.{images_name}
use Rattle.bi_fit.specs.Text.{fit_text}
use Rattle.bi_fit.proofs.FileFacts.{blob_by_test, no_entries, one_plain, three_images_are_aligned, three_images_have_texts}
use Rattle.bi_fit.proofs.FileTrees.{depth-image_tree}
use Rattle.bi_fit.proofs.KeptFacts.{kept_of_files_is_known}
use Rattle.bi_legacy.specs.KnownFaults.{limited_to}
use Rattle.bi_legacy.specs.KnownFiles.{kernel_file_with_rest}
use Rattle.bi_legacy.specs.KnownImages.{kernel_file, kernel_image}
use Rattle.bi_legacy.specs.Laws.{OneLegacyMeaning}
use Rattle.bi_legacy.specs.Text.{legacy_text}
use Rattle.bi_legacy.proofs.KnownImages.{kernel_text}
use Rattle.bi_legacy.proofs.NormalForms.{has_normal_form}
use Rattle.bi_norm.specs.KnownComparisons.{file_without_magic, no_magic}
use Rattle.bi_norm.specs.KnownNormalForms.{signed_file, signed_tree, IsOnlyNormalForm, NormalFormsAreKnown, KeptOfNormalFormsIsKnown}
use Rattle.bi_norm.specs.KnownNormalForms.{NormaliseErrorsAreKnown}
use Rattle.bi_norm.specs.Meaning.{OfLegacy, OfFit, normal_text, meaning_signature_count}
use Rattle.bi_norm.specs.NormalForm.{IsKeptOfImage, IsNormalForm, IsNormaliseError, IsNormaliseKept, IsNormaliseOutput}
use Rattle.bi_norm.specs.Reading.{ForLegacyImage, ForTree}
use Rattle.bi_norm.proofs.ComparisonFacts.{kernel_means, kernel_with_rest_means, no_magic_is_error, only_image}
use Rattle.bi_norm.proofs.FilesWithoutMeaning.{means_legacy, means_tree}
use Rattle.bi_norm.proofs.KindLaws.{one_file_fault}
use Rattle.bi_norm.proofs.NormalForms.{needs_memory, normal_form_of_image, normal_form_of_tree}
use Rattle.bi_norm.proofs.TextBoundFacts.{shared_means, text_bounds_are_known}

-- Small files have known normal forms and known errors, and no others.

-- ---- what the files mean

-- The text of three images that are aligned to 4096 bytes.
three_means : FitMeans widest (three_aligned 4096 4096) three_tree
three_means =
    let is = kept_of_files_is_known.aligned.is_file in
    let shallow : depth_of three_tree.root ≤ 64 = omega arith in
    record {
      is_file = is;
      within = record {
        short = omega (arith, three_images_are_aligned.by_4096.is_length);
        shallow = subst (λ n. n ≤ 64) (depth-image_tree (three_aligned 4096 4096) three_tree is) shallow;
      };
    }

-- The nodes of the file with a signature node, each with these properties.
abbrev signed_root : {V : Type 0} → V → Root V
signed_root own = record {
  own = own;
  children = node images_name own (node (codes "a") own (node (codes "signature-1") own none none) none) none;
}

signed_is_file : IsFitFile signed_file signed_tree
unfolding text_of_events text_of_blocks cell cell8 u32_at
signed_is_file = record {
  root = tree_with_places [] (signed_root []);
  blob = blob_by_test (signed_root []) [] refl refl (lit≤ tt);
  images = _;
  has_images = refl;
  payloads = (refl, tt);
  is_root = ap (λ root. with_image (own_of_image root.children)) (one_plain (codes "a") [] tt);
}
  where
    own_of_first : Nodes PropertyMap → PropertyMap
    own_of_first none = empty
    own_of_first (node name own children later) = own

    own_of_image : Nodes PropertyMap → PropertyMap
    own_of_image none = empty
    own_of_image (node name own children later) = own_of_first children

    with_image : PropertyMap → Root PropertyMap
    with_image own = record {
      own = empty;
      children = node images_name empty (node (codes "a") own (node (codes "signature-1") empty none none) none) none;
    }

signed_length : length signed_file ≡ 120
unfolding text_of_events text_of_blocks cell cell8
signed_length = refl

signed_means : FitMeans widest signed_file signed_tree
signed_means =
    let shallow : depth_of signed_tree.root ≤ 64 = omega arith in
    record {
      is_file = signed_is_file;
      within = record {
        short = omega (arith, signed_length);
        shallow = subst (λ n. n ≤ 64) (depth-image_tree signed_file signed_tree signed_is_file) shallow;
      };
    }

signed_text : fit_text Embedded signed_tree ≡ signed_file
signed_text = ap (λ (own : List Property). text_of_tree 4 0 [] (signed_root own) ++ []) no_entries

-- ---- normal forms

-- Where the text of a tree is this one, it is the only output.
only_text : (form : Form) (file text : List ℕ) (tree : ImageTree) → FitMeans widest file tree → fit_text form tree ≡ text →
    length text ≤ longest_text → IsOnlyNormalForm form file text (signature_count tree)
unfolding normal_form_of_tree
only_text form file text tree means is short =
    let fits : length (fit_text form tree) ≤ longest_text = omega (arith, ap length is, short) in
    let normal = normal_form_of_tree widest form file tree means fits (omega arith) in
    record {
      is_output = subst (IsNormaliseOutput widest form (signature_count tree) file) is (record { normal = normal; signatures = refl });
      is_text = subst (IsNormalForm widest form file) is normal;
      only = λ count other output.
          let same = sym (output.normal.only (OfFit tree) means) in
          (output.signatures ∙ ap meaning_signature_count same, output.normal.is_text ∙ ap (normal_text form) same ∙ is);
    }

-- What is said of the payloads of the file is said of those of its text.
kept_by_text : (form : Form) (file text : List ℕ) (tree : ImageTree) (said : Kept) → FitMeans widest file tree →
    fit_text form tree ≡ text → length text ≤ longest_text → said.signatures ≡ signature_count tree →
    IsKept form file tree tree said → IsNormaliseKept widest form said file text
unfolding normal_form_of_tree
kept_by_text form file text tree said means is short count says =
    let fits : length (fit_text form tree) ≤ longest_text = omega (arith, ap length is, short) in
    subst (IsNormaliseKept widest form said file) is (record {
      output = record { normal = normal_form_of_tree widest form file tree means fits (omega arith); signatures = count };
      is_kept = says;
    })

-- Nothing more is said than what is known.
only_kept : (said : Kept) → said.signatures ≡ 0 → SaysNothing said → said ≡ kept None 0
only_kept said count says =
    λ i. record { signatures = count i; lost_alignment = says.alignment i; lost_positions = says.positions i }

three_embedded_short : length three_embedded ≤ longest_text
three_embedded_short = omega (arith, three_images_have_texts.embedded_length)

three_external_short : length three_external ≤ longest_text
three_external_short = omega (arith, three_images_have_texts.external_length)

module _ (one_legacy : OneLegacyMeaning) where
  kernel_normal_form : (form : Form) → IsNormalForm widest form kernel_file_with_rest (legacy_text kernel_image)
  kernel_normal_form form =
      normal_form_of_image widest form kernel_file_with_rest kernel_image kernel_with_rest_means
      (only_image one_legacy kernel_file_with_rest kernel_image kernel_with_rest_means).only
      (has_normal_form kernel_file_with_rest kernel_image widest kernel_with_rest_means)

  kernel_only : (form : Form) → IsOnlyNormalForm form kernel_file_with_rest kernel_file 0
  unfolding kernel_normal_form normal_form_of_image
  kernel_only form = record {
    is_output = subst (IsNormaliseOutput widest form 0 kernel_file_with_rest) kernel_text
        (record { normal = kernel_normal_form form; signatures = refl });
    is_text = subst (IsNormalForm widest form kernel_file_with_rest) kernel_text (kernel_normal_form form);
    only = λ count other output.
        let same = sym (output.normal.only (OfLegacy kernel_image) kernel_with_rest_means) in
        (output.signatures ∙ ap meaning_signature_count same, output.normal.is_text ∙ ap (normal_text form) same ∙ kernel_text);
  }

  pub normal_forms_are_known : NormalFormsAreKnown
  normal_forms_are_known = record {
    legacy = kernel_only;
    embedded = only_text Embedded (three_aligned 4096 4096) three_embedded three_tree three_means three_images_have_texts.embedded
        three_embedded_short;
    external = only_text External (three_aligned 4096 4096) three_external three_tree three_means three_images_have_texts.external
        three_external_short;
    signed = only_text Embedded signed_file signed_file signed_tree signed_means signed_text (omega (arith, signed_length));
  }

  pub kept_of_normal_forms_is_known : KeptOfNormalFormsIsKnown
  unfolding kernel_normal_form normal_form_of_image
  kept_of_normal_forms_is_known = record {
    legacy = λ form. subst (IsNormaliseKept widest form (kept None 0) kernel_file_with_rest) kernel_text (record {
      output = record { normal = kernel_normal_form form; signatures = refl };
      is_kept = record { alignment = refl; positions = refl };
    });
    only_of_legacy = λ form other text is.
        let same = sym (is.output.normal.only (OfLegacy kernel_image) kernel_with_rest_means) in
        only_kept other (is.output.signatures ∙ ap meaning_signature_count same)
        (subst (λ meaning. IsKeptOfImage form kernel_file_with_rest meaning meaning other) same is.is_kept);
    embedded = kept_by_text Embedded (three_aligned 4096 4096) three_embedded three_tree (kept None 0) three_means
        three_images_have_texts.embedded three_embedded_short refl kept_of_files_is_known.embedded;
    external = kept_by_text External (three_aligned 4096 4096) three_external three_tree (kept (Some 4096) 0) three_means
        three_images_have_texts.external three_external_short refl kept_of_files_is_known.aligned;
    signed = kept_by_text Embedded signed_file signed_file signed_tree (record (kept None 0) { signatures = 1 }) signed_means signed_text
        (omega (arith, signed_length)) refl (record { alignment = refl; positions = refl });
  }

-- ---- errors

abbrev of_three : List ℕ
of_three = shared_file 0 1000

-- A file without a magic number needs no memory, since its header is checked first.
no_magic_only : (form : Form) (error : Error) → IsNormaliseError widest form file_without_magic error → error ≡ Refused no_magic
unfolding u32_at
no_magic_only form (Refused fault) is = elim is [
  | inl of_read ↦ ap Refused (one_file_fault widest file_without_magic fault no_magic of_read.0 no_magic_is_error.0)
  | inr long ↦ absurd (no_magic_is_error.1 (OfFit long.0.tree) long.0.means)
]
no_magic_only form OutOfMemory is = elim is [
  | ForLegacyImage image means ↦ absurd (no_magic_is_error.1 (OfLegacy image) means)
  | ForTree other fine ↦ absurd (omega (arith, fine.header.1.1.0))
]
no_magic_only form ReadFailed is = absurd is
no_magic_only form WriteFailed is = absurd is

kernel_error : (form : Form) (error : Error) → IsNormaliseError widest form kernel_file error → error ≡ OutOfMemory
kernel_error form (Refused fault) is = elim is [
  | inl of_read ↦ absurd (of_read.1 (OfLegacy kernel_image) kernel_means)
  | inr long ↦ absurd (means_tree widest kernel_file long.0.tree long.0.means (means_legacy widest kernel_file kernel_image kernel_means))
]
kernel_error form OutOfMemory is = refl
kernel_error form ReadFailed is = absurd is
kernel_error form WriteFailed is = absurd is

too_long_error : (error : Error) → IsNormaliseError (limited_to 3167) Embedded of_three error →
    (error ≡ Refused (too_large 3167)) ⊎ (error ≡ OutOfMemory)
too_long_error (Refused fault) is = elim is [
  | inl of_read ↦ absurd (of_read.1 (OfFit (shared_tree shared_region)) (shared_means 3167 (omega arith)))
  | inr long ↦ inl (ap Refused long.1)
]
too_long_error OutOfMemory is = inr refl
too_long_error ReadFailed is = absurd is
too_long_error WriteFailed is = absurd is

within_error : (error : Error) → IsNormaliseError (limited_to 3168) Embedded of_three error → error ≡ OutOfMemory
within_error (Refused fault) is = elim is [
  | inl of_read ↦ absurd (of_read.1 (OfFit (shared_tree shared_region)) (shared_means 3168 (omega arith)))
  | inr long ↦ absurd (text_bounds_are_known.embedded_within long.0)
]
within_error OutOfMemory is = refl
within_error ReadFailed is = absurd is
within_error WriteFailed is = absurd is

-- An error that is this one is one of normalising.
abbrev is_this : (limits : Limits) (form : Form) (file : List ℕ) (one : Error) → IsNormaliseError limits form file one →
    (error : Error) → error ≡ one → IsNormaliseError limits form file error
is_this limits form file one is error same = subst (IsNormaliseError limits form file) (sym same) is

shared_needs_memory : (limit : ℕ) → 1244 ≤ limit → IsNormaliseError (limited_to limit) Embedded of_three OutOfMemory
shared_needs_memory limit holds = needs_memory (limited_to limit) of_three (OfFit (shared_tree shared_region)) (shared_means limit holds)

pub normalise_errors_are_known : NormaliseErrorsAreKnown
normalise_errors_are_known = record {
  no_magic = λ form error. (
    no_magic_only form error,
    is_this widest form file_without_magic (Refused no_magic) (inl no_magic_is_error) error,
  );
  legacy = λ form error. (
    kernel_error form error,
    is_this widest form kernel_file OutOfMemory (ForLegacyImage kernel_image kernel_means) error,
  );
  too_long = λ error. (
    too_long_error error,
    λ is. elim is [
      | inl same ↦ is_this (limited_to 3167) Embedded of_three (Refused (too_large 3167))
          (inr (text_bounds_are_known.embedded, refl)) error same
      | inr same ↦ is_this (limited_to 3167) Embedded of_three OutOfMemory (shared_needs_memory 3167 (omega arith)) error same
    ],
  );
  within = λ error. (
    within_error error,
    is_this (limited_to 3168) Embedded of_three OutOfMemory (shared_needs_memory 3168 (omega arith)) error,
  );
  is_same = λ form limits error. refl;
}
