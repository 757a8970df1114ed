use Rattle.std.proofs.Common.{◌≡◌, ◌⊎◌, ℕ, List, [], ◌∷◌, ◌++◌, Some, None, codes, inl, inr, length, lit≤, map, refl, ap, ap₂}
use Rattle.std.specs.Fmt.{digits}
use Rattle.std.specs.List.{concat}
use Rattle.bi_base.specs.Cells.{cell, cell8, u32_at, u64_at}
use Rattle.bi_base.specs.Limits.{widest}
use Rattle.bi_base.specs.declared.fault.Error.TheVariants.{Refused, OutOfMemory, ReadFailed, WriteFailed}
use Rattle.bi_blob.specs.Layout.{text_of_events, text_of_blocks, tree_with_places}
use Rattle.bi_blob.specs.Tree.{FileNode, Nodes, Root, tree_without_order, tree_without_places}
use Rattle.bi_fit.specs.File.{FitMeans}
use Rattle.bi_fit.specs.ImageTree.{ImageTree, image_nodes, nodes_or_none, tree_without_payloads}
use Rattle.bi_fit.specs.Names.{configurations_name, data_name, default_name, images_name}
use Rattle.bi_fit.proofs.FileFacts.{blob_by_test}
use Rattle.bi_legacy.specs.KnownImages.{kernel_file, kernel_image}
use Rattle.bi_legacy.specs.Laws.{OneLegacyMeaning}
use Rattle.bi_norm.specs.Comparing.{MeansOnly}
use Rattle.bi_norm.specs.Meaning.{Meaning, Means, OfFit, OfLegacy}
use Rattle.bi_norm.proofs.ComparisonFacts.{kernel_means}
use Rattle.bi_norm.proofs.KindLaws.{one_file_meaning}
use Rattle.bi_values.specs.Getting.{IsGetError, IsTextOfResults, IsValueReason, LacksValue}
use Rattle.bi_values.specs.KnownValues.{FieldValuesAreKnown, GetErrorsAreKnown, IsOnlyGetError, IsOnlyGetText, PropertyValuesAreKnown}
use Rattle.bi_values.specs.KnownValues.{ValueReasonsAreKnown, load_and_default, number_fields, of_configurations, of_hash, of_image}
use Rattle.bi_values.specs.KnownValues.{of_root}
use Rattle.bi_values.specs.KnownValues.{valued_file, valued_tree}
use Rattle.bi_values.specs.ValueNames.{FieldAt, PropertyAt, ValueNameModel}
use Rattle.bi_values.specs.ValueResults.{HasNoNumber, HasNoText, NoSuchProperty, OfOtherKind, ValueBytes, ValueResult, result_of_property}
use Rattle.bi_values.specs.ValueResults.{value_result, value_results}
use Rattle.bi_values.specs.declared.get_error.GetError.{GetError}
use Rattle.bi_values.specs.declared.get_error.GetError.TheVariants as error
use Rattle.bi_values.specs.declared.value_form.ValueForm.{ValueForm}
use Rattle.bi_values.specs.declared.value_form.ValueForm.TheVariants.{Shown, Text, Number, Raw}
use Rattle.bi_values.specs.declared.value_name.HeaderField.TheVariants as field
use Rattle.bi_values.proofs.OneAnswer.{no_reason_in_bytes, one_reason, one_text, reason_of_meaning, text_of_meaning}
use Rattle.bi_values.proofs.TreeValues.{tree_value_found}

-- The values of small files are known.

-- ---- what the files mean

abbrev file_root : Root FileNode
file_root = tree_with_places [] valued_tree

abbrev valued_meaning : ImageTree
valued_meaning = record {
  cpu = 0;
  reservations = [];
  root = tree_without_payloads (tree_without_order (tree_without_places file_root));
  payloads = Some (codes "q") ∷ [];
}

abbrev image_nodes_of_file : Nodes FileNode
image_nodes_of_file = nodes_or_none (image_nodes file_root)

valued_means : FitMeans widest valued_file valued_meaning
unfolding text_of_events text_of_blocks cell cell8 u32_at
valued_means = record {
  is_file = record {
    root = file_root;
    blob = blob_by_test valued_tree (0 ∷ []) refl refl (lit≤ tt);
    images = image_nodes_of_file;
    has_images = refl;
    payloads = (refl, tt);
    is_root = refl;
  };
  within = record { short = lit≤ tt; shallow = lit≤ tt };
}

-- ---- a file with one meaning

module _ (one_legacy : OneLegacyMeaning) (file : List ℕ) (meaning : Meaning) (means : Means widest file meaning) where
  means_only : MeansOnly widest file meaning
  means_only = record {
    means = means;
    only = λ other other_means. one_file_meaning one_legacy widest widest file other meaning other_means means;
  }

  only_text : (form : ValueForm) (names : List ValueNameModel) (pieces : List (List ℕ)) →
      value_results form meaning names ≡ map ValueBytes pieces → IsOnlyGetText form names file (concat pieces)
  only_text form names pieces are =
      let has : IsTextOfResults (value_results form meaning names) (concat pieces) =
      record { pieces = pieces; are_bytes = are; is_text = refl } in
      record {
        is = record { meaning = meaning; means = means_only; has_values = has };
        only = λ other is.
            one_text (value_results form meaning names) (concat pieces) other has
            (text_of_meaning form names widest file meaning means other is);
      }

  only_error : (form : ValueForm) (names : List ValueNameModel) (given : GetError) → IsGetError form names widest file given →
      LacksValue form names widest file given → IsOnlyGetError form names file given
  only_error form names given is lacks = record { is = is; only = only }
    where
      same : (other : GetError) → LacksValue form names widest file other → other ≡ given
      same other also =
          one_reason (value_results form meaning names) given other (reason_of_meaning form names widest file meaning means given lacks)
          (reason_of_meaning form names widest file meaning means other also)

      only : (other : GetError) → IsGetError form names widest file other → (other ≡ given) ⊎ (other ≡ error.Failed OutOfMemory)
      only (error.Failed (Refused fault)) has = absurd (has.1 meaning means)
      only (error.Failed OutOfMemory) has = inr refl
      only (error.Failed ReadFailed) has = absurd has
      only (error.Failed WriteFailed) has = absurd has
      only error.WrongKind has = inl (same error.WrongKind has)
      only (error.NoProperty at) has = inl (same (error.NoProperty at) has)
      only (error.NoText at) has = inl (same (error.NoText at) has)
      only (error.NoNumber at) has = inl (same (error.NoNumber at) has)

  lacks_value : (form : ValueForm) (names : List ValueNameModel) (pieces : List (List ℕ)) (reason : ValueResult) (later : List ValueResult)
      (given : GetError) → value_results form meaning names ≡ map ValueBytes pieces ++ reason ∷ later →
      IsValueReason (length pieces) reason given → LacksValue form names widest file given
  lacks_value form names pieces reason later given are is = record {
    meaning = meaning;
    means = means_only;
    is_first = record { pieces = pieces; reason = reason; later = later; are_results = are; is_reason = is };
  }

-- ---- values of properties

-- The result of each property of the tree.
abbrev result_in : ValueForm → ValueNameModel → ValueResult
result_in form name = value_result form (OfFit valued_meaning) name

load_result : (form : ValueForm) → result_in form (of_image (codes "load")) ≡ result_of_property form (Some (cell 0x80080000))
load_result form = ap (result_of_property form) (tree_value_found file_root (images_name ∷ codes "kernel-1" ∷ []) (codes "load"))

wide_result : (form : ValueForm) → result_in form (of_image (codes "wide")) ≡ result_of_property form (Some (cell8 0x180000000))
wide_result form = ap (result_of_property form) (tree_value_found file_root (images_name ∷ codes "kernel-1" ∷ []) (codes "wide"))

nothing_result : (form : ValueForm) → result_in form (of_image (codes "nothing")) ≡ result_of_property form (Some [])
nothing_result form = ap (result_of_property form) (tree_value_found file_root (images_name ∷ codes "kernel-1" ∷ []) (codes "nothing"))

payload_result : (form : ValueForm) → result_in form (of_image data_name) ≡ result_of_property form None
payload_result form = ap (result_of_property form) (tree_value_found file_root (images_name ∷ codes "kernel-1" ∷ []) data_name)

hash_result : (form : ValueForm) → result_in form (of_hash data_name) ≡ result_of_property form (Some (codes "x" ++ 0 ∷ []))
hash_result form =
    ap (result_of_property form) (tree_value_found file_root (images_name ∷ codes "kernel-1" ∷ codes "hash-1" ∷ []) data_name)

default_result : (form : ValueForm) → result_in form (of_configurations default_name)
    ≡ result_of_property form (Some (codes "conf-1" ++ 0 ∷ []))
default_result form = ap (result_of_property form) (tree_value_found file_root (configurations_name ∷ []) default_name)

model_result : (form : ValueForm) → result_in form (of_root (codes "model"))
    ≡ result_of_property form (Some (codes "two" ++ 0 ∷ codes "texts" ++ 0 ∷ []))
model_result form = ap (result_of_property form) (tree_value_found file_root [] (codes "model"))

x_result : (form : ValueForm) → result_in form (of_root (codes "x")) ≡ result_of_property form None
x_result form = ap (result_of_property form) (tree_value_found file_root [] (codes "x"))

none_result : (form : ValueForm) → result_in form (PropertyAt (images_name ∷ codes "none" ∷ []) (codes "x")) ≡ result_of_property form None
none_result form = ap (result_of_property form) (tree_value_found file_root (images_name ∷ codes "none" ∷ []) (codes "x"))

one : {result bytes : ValueResult} → result ≡ bytes → result ∷ [] ≡ bytes ∷ []
one is = ap (λ result. result ∷ []) is

two : {first second one_bytes other_bytes : ValueResult} → first ≡ one_bytes → second ≡ other_bytes →
    first ∷ second ∷ [] ≡ one_bytes ∷ other_bytes ∷ []
two is also = ap₂ (λ x y. x ∷ y ∷ []) is also

pub property_values_are_known : OneLegacyMeaning → PropertyValuesAreKnown
unfolding cell cell8 u32_at u64_at
property_values_are_known one_legacy = record {
  two = text Shown load_and_default (codes "0x80080000\n" ∷ codes "\"conf-1\"\n" ∷ [])
      (two (load_result Shown) (default_result Shown));
  number = text Number (of_image (codes "load") ∷ []) (codes "0x80080000\n" ∷ []) (one (load_result Number));
  wide = text Number (of_image (codes "wide") ∷ []) (codes "0x0000000180000000\n" ∷ []) (one (wide_result Number));
  text = text Text (of_configurations default_name ∷ []) (codes "conf-1\n" ∷ []) (one (default_result Text));
  texts = text Text (of_root (codes "model") ∷ []) (codes "two\ntexts\n" ∷ []) (one (model_result Text));
  shown_texts = text Shown (of_root (codes "model") ∷ []) (codes "\"two\" \"texts\"\n" ∷ []) (one (model_result Shown));
  raw = text Raw (of_image (codes "load") ∷ []) ((0x80 ∷ 0x08 ∷ 0x00 ∷ 0x00 ∷ []) ∷ []) (one (load_result Raw));
  raw_text = text Raw load_and_default ((0x80 ∷ 0x08 ∷ 0x00 ∷ 0x00 ∷ []) ∷ (codes "conf-1" ++ 0 ∷ []) ∷ [])
      (two (load_result Raw) (default_result Raw));
  nothing = text Shown (of_image (codes "nothing") ∷ []) (codes "\n" ∷ []) (one (nothing_result Shown));
  raw_nothing = text Raw (of_image (codes "nothing") ∷ []) ([] ∷ []) (one (nothing_result Raw));
  below_image = text Shown (of_hash data_name ∷ []) (codes "\"x\"\n" ∷ []) (one (hash_result Shown));
  no_names = text Shown [] [] refl;
}
  where
    text : (form : ValueForm) (names : List ValueNameModel) (pieces : List (List ℕ)) →
        value_results form (OfFit valued_meaning) names ≡ map ValueBytes pieces → IsOnlyGetText form names valued_file (concat pieces)
    text = only_text one_legacy valued_file (OfFit valued_meaning) valued_means

-- ---- values of fields

pub field_values_are_known : OneLegacyMeaning → FieldValuesAreKnown
unfolding cell digits
field_values_are_known one_legacy = record {
  two = text Shown (FieldAt field.Load ∷ FieldAt field.Name ∷ []) (codes "0x00008000\n" ∷ codes "k\n" ∷ []) refl;
  others = text Shown number_fields words refl;
  texts = text Text number_fields words refl;
  numbers = text Number number_fields
      (codes "0x00000000\n" ∷ codes "0x00008000\n" ∷ codes "0x00008000\n" ∷ codes "0x05\n" ∷ codes "0x02\n" ∷ codes "0x02\n"
      ∷ codes "0x00\n" ∷ []) refl;
  raw = text Raw (FieldAt field.Name ∷ number_fields)
      (codes "k" ∷ (0 ∷ 0 ∷ 0 ∷ 0 ∷ []) ∷ (0 ∷ 0 ∷ 0x80 ∷ 0 ∷ []) ∷ (0 ∷ 0 ∷ 0x80 ∷ 0 ∷ []) ∷ (5 ∷ []) ∷ (2 ∷ []) ∷ (2 ∷ [])
      ∷ (0 ∷ []) ∷ [])
      refl;
}
  where
    text : (form : ValueForm) (names : List ValueNameModel) (pieces : List (List ℕ)) →
        value_results form (OfLegacy kernel_image) names ≡ map ValueBytes pieces → IsOnlyGetText form names kernel_file (concat pieces)
    text = only_text one_legacy kernel_file (OfLegacy kernel_image) kernel_means

    words : List (List ℕ)
    words = codes "0\n" ∷ codes "0x00008000\n" ∷ codes "0x00008000\n" ∷ codes "linux\n" ∷ codes "arm\n" ∷ codes "kernel\n"
        ∷ codes "none\n" ∷ []

-- ---- errors

pub get_errors_are_known : OneLegacyMeaning → GetErrorsAreKnown
unfolding cell u32_at
get_errors_are_known one_legacy = record {
  no_node = fails Shown (PropertyAt (images_name ∷ codes "none" ∷ []) (codes "x") ∷ []) (error.NoProperty 0)
      (no_value (PropertyAt (images_name ∷ codes "none" ∷ []) (codes "x")) (none_result Shown))
      (no_value (PropertyAt (images_name ∷ codes "none" ∷ []) (codes "x")) (none_result Shown));
  no_property = fails Shown (of_root (codes "x") ∷ []) (error.NoProperty 0)
      (no_value (of_root (codes "x")) (x_result Shown)) (no_value (of_root (codes "x")) (x_result Shown));
  payload = fails Shown (of_image data_name ∷ []) (error.NoProperty 0)
      (no_value (of_image data_name) (payload_result Shown)) (no_value (of_image data_name) (payload_result Shown));
  no_text = fails Text load_and_default (error.NoText 0) no_text no_text;
  no_number = fails Number load_and_default (error.NoNumber 1) no_number no_number;
  first = fails Number many (error.NoProperty 1) first first;
  field_of_tree = fails Shown (FieldAt field.Load ∷ []) error.WrongKind other_kind other_kind;
  property_of_legacy = only_error one_legacy kernel_file (OfLegacy kernel_image) kernel_means Shown (of_root (codes "x") ∷ [])
      error.WrongKind other other;
  name = only_error one_legacy kernel_file (OfLegacy kernel_image) kernel_means Number (FieldAt field.Load ∷ FieldAt field.Name ∷ [])
      (error.NoNumber 1) no_name_number no_name_number;
}
  where
    fails : (form : ValueForm) (names : List ValueNameModel) (given : GetError) → IsGetError form names widest valued_file given →
        LacksValue form names widest valued_file given → IsOnlyGetError form names valued_file given
    fails = only_error one_legacy valued_file (OfFit valued_meaning) valued_means

    no_value : (name : ValueNameModel) → result_in Shown name ≡ NoSuchProperty →
        LacksValue Shown (name ∷ []) widest valued_file (error.NoProperty 0)
    no_value name is =
        lacks_value one_legacy valued_file (OfFit valued_meaning) valued_means Shown (name ∷ []) [] NoSuchProperty []
        (error.NoProperty 0) (one is) (refl, refl)

    no_text : LacksValue Text load_and_default widest valued_file (error.NoText 0)
    no_text =
        lacks_value one_legacy valued_file (OfFit valued_meaning) valued_means Text load_and_default [] HasNoText
        (ValueBytes (codes "conf-1\n") ∷ []) (error.NoText 0)
        (two (load_result Text) (default_result Text)) (refl, refl)

    no_number : LacksValue Number load_and_default widest valued_file (error.NoNumber 1)
    no_number =
        lacks_value one_legacy valued_file (OfFit valued_meaning) valued_means Number load_and_default (codes "0x80080000\n" ∷ [])
        HasNoNumber [] (error.NoNumber 1)
        (two (load_result Number) (default_result Number)) (refl, refl)

    many : List ValueNameModel
    many = of_image (codes "load") ∷ of_root (codes "x") ∷ of_configurations default_name ∷ FieldAt field.Load ∷ []

    first : LacksValue Number many widest valued_file (error.NoProperty 1)
    first =
        lacks_value one_legacy valued_file (OfFit valued_meaning) valued_means Number many (codes "0x80080000\n" ∷ []) NoSuchProperty
        (HasNoNumber ∷ OfOtherKind ∷ []) (error.NoProperty 1)
        (ap₂ (λ first rest. first ∷ rest) (load_result Number)
        (ap₂ (λ second third. second ∷ third ∷ OfOtherKind ∷ []) (x_result Number) (default_result Number))) (refl, refl)

    other_kind : LacksValue Shown (FieldAt field.Load ∷ []) widest valued_file error.WrongKind
    other_kind =
        lacks_value one_legacy valued_file (OfFit valued_meaning) valued_means Shown (FieldAt field.Load ∷ []) [] OfOtherKind []
        error.WrongKind refl refl

    other : LacksValue Shown (of_root (codes "x") ∷ []) widest kernel_file error.WrongKind
    other =
        lacks_value one_legacy kernel_file (OfLegacy kernel_image) kernel_means Shown (of_root (codes "x") ∷ []) [] OfOtherKind []
        error.WrongKind refl refl

    no_name_number : LacksValue Number (FieldAt field.Load ∷ FieldAt field.Name ∷ []) widest kernel_file (error.NoNumber 1)
    no_name_number =
        lacks_value one_legacy kernel_file (OfLegacy kernel_image) kernel_means Number (FieldAt field.Load ∷ FieldAt field.Name ∷ [])
        (codes "0x00008000\n" ∷ []) HasNoNumber [] (error.NoNumber 1) refl (refl, refl)

pub value_reasons_are_known : ValueReasonsAreKnown
value_reasons_are_known = record {
  other_kind = refl;
  no_property = (refl, refl);
  no_text = (refl, refl);
  no_number = (refl, refl);
  other_index = λ is. let same = is.1 in absurd cc;
  bytes = no_reason_in_bytes;
}
