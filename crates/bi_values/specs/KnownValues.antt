use Rattle.std.specs.Prelude.{◌≡◌, ◌⊎◌, ℕ, List, [], ◌∷◌, ◌++◌, codes, Vec}
use Rattle.std.specs.declared.alloc.Global.{Global}
use Rattle.bi_base.specs.Cells.{cell, cell8}
use Rattle.bi_base.specs.Limits.{widest}
use Rattle.bi_base.specs.declared.fault.Error.TheVariants.{OutOfMemory}
use Rattle.bi_blob.specs.Layout.{text_of_tree}
use Rattle.bi_blob.specs.Tree.{none, node, Root, Property}
use Rattle.bi_fit.specs.Names.{configurations_name, data_name, default_name, images_name}
use Rattle.bi_legacy.specs.KnownImages.{kernel_file}
use Rattle.bi_values.specs.Getting.{IsValueReason, get_promise}
use Rattle.bi_values.specs.NameWords.{AreNoWords, AreWordsOf}
use Rattle.bi_values.specs.ValueNames.{FieldAt, PropertyAt, ValueNameModel, field_word}
use Rattle.bi_values.specs.ValueNames.{names_of_path, value_name_model, value_name_models}
use Rattle.bi_values.specs.declared.value_name.ValueName.TheVariants as variant
use Rattle.bi_values.specs.ValueResults.{HasNoNumber, HasNoText, NoSuchProperty, OfOtherKind}
use Rattle.bi_values.specs.ValueResults.{ValueBytes}
use Rattle.bi_values.specs.declared.get_error.GetError.{GetError}
use Rattle.bi_values.specs.declared.get_error.GetError.TheVariants as error
use Rattle.bi_values.specs.declared.value_form.ValueForm.{ValueForm}
use Rattle.bi_values.specs.declared.value_form.ValueForm.TheVariants.{Shown, Text, Number, Raw}
use Rattle.bi_values.specs.declared.value_name.HeaderField.TheVariants as field

-- Values of small files, and the words for their names, by which a reader can judge the
-- definitions.

-- ---- a small flattened image tree

-- What the root, the image `kernel-1`, its hash node and the configurations say.
abbrev pub valued_root : List Property
valued_root = (codes "model", codes "two" ++ 0 ∷ codes "texts" ++ 0 ∷ []) ∷ []

abbrev pub valued_image : List Property
valued_image =
    (data_name, codes "q")
    ∷ (codes "load", cell 0x80080000)
    ∷ (codes "wide", cell8 0x180000000)
    ∷ (codes "nothing", [])
    ∷ []

abbrev pub valued_hash : List Property
valued_hash = (data_name, codes "x" ++ 0 ∷ []) ∷ []

abbrev pub valued_configurations : List Property
valued_configurations = (default_name, codes "conf-1" ++ 0 ∷ []) ∷ []

abbrev pub valued_tree : Root (List Property)
valued_tree = record {
  own = valued_root;
  children = node images_name []
      (node (codes "kernel-1") valued_image (node (codes "hash-1") valued_hash none none) none)
      (node configurations_name valued_configurations none none);
}

-- A file with this tree, and a byte after the blob.
abbrev pub valued_file : List ℕ
valued_file = text_of_tree 4 0 [] valued_tree ++ 0 ∷ []

-- ---- names

-- Properties of the image, of its hash node, of the configurations and of the root.
abbrev pub of_image : (name : List ℕ) → ValueNameModel
of_image name = PropertyAt (images_name ∷ codes "kernel-1" ∷ []) name

abbrev pub of_hash : (name : List ℕ) → ValueNameModel
of_hash name = PropertyAt (images_name ∷ codes "kernel-1" ∷ codes "hash-1" ∷ []) name

abbrev pub of_configurations : (name : List ℕ) → ValueNameModel
of_configurations name = PropertyAt (configurations_name ∷ []) name

abbrev pub of_root : (name : List ℕ) → ValueNameModel
of_root name = PropertyAt [] name

-- The load address of the image and the default configuration.
abbrev pub load_and_default : List ValueNameModel
load_and_default = of_image (codes "load") ∷ of_configurations default_name ∷ []

-- All fields of a header but the name.
abbrev pub number_fields : List ValueNameModel
number_fields =
    FieldAt field.Time ∷ FieldAt field.Load ∷ FieldAt field.Entry ∷ FieldAt field.Os
    ∷ FieldAt field.Arch ∷ FieldAt field.ImageType ∷ FieldAt field.Compression ∷ []

-- ---- values

-- `get` writes this text for these names, and no other.
pub record IsOnlyGetText (form : ValueForm) (names : List ValueNameModel) (file text : List ℕ)
    : Type 0
  where
    pub is : (get_promise form names widest).is_output tt file text
    pub only : (other : List ℕ) → (get_promise form names widest).is_output tt file other
        → other ≡ text

-- It fails with this error, or memory runs out.
pub record IsOnlyGetError (form : ValueForm) (names : List ValueNameModel) (file : List ℕ)
    (given : GetError) : Type 0
  where
    pub is : (get_promise form names widest).has_error file given
    pub only : (other : GetError) → (get_promise form names widest).has_error file other
        → (other ≡ given) ⊎ (other ≡ error.Failed OutOfMemory)

-- Values of properties.
pub record PropertyValuesAreKnown : Type 0 where
  pub two : IsOnlyGetText Shown load_and_default valued_file (codes "0x80080000\n\"conf-1\"\n")
  pub number : IsOnlyGetText Number (of_image (codes "load") ∷ []) valued_file
      (codes "0x80080000\n")
  pub wide : IsOnlyGetText Number (of_image (codes "wide") ∷ []) valued_file
      (codes "0x0000000180000000\n")
  pub text : IsOnlyGetText Text (of_configurations default_name ∷ []) valued_file
      (codes "conf-1\n")
  pub texts : IsOnlyGetText Text (of_root (codes "model") ∷ []) valued_file
      (codes "two\ntexts\n")
  pub shown_texts : IsOnlyGetText Shown (of_root (codes "model") ∷ []) valued_file
      (codes "\"two\" \"texts\"\n")
  pub raw : IsOnlyGetText Raw (of_image (codes "load") ∷ []) valued_file
      (0x80 ∷ 0x08 ∷ 0x00 ∷ 0x00 ∷ [])
  pub raw_text : IsOnlyGetText Raw load_and_default valued_file
      (0x80 ∷ 0x08 ∷ 0x00 ∷ 0x00 ∷ codes "conf-1" ++ 0 ∷ [])
  pub nothing : IsOnlyGetText Shown (of_image (codes "nothing") ∷ []) valued_file (codes "\n")
  pub raw_nothing : IsOnlyGetText Raw (of_image (codes "nothing") ∷ []) valued_file []
  pub below_image : IsOnlyGetText Shown (of_hash data_name ∷ []) valued_file (codes "\"x\"\n")
  pub no_names : IsOnlyGetText Shown [] valued_file []

-- Values of fields.
pub record FieldValuesAreKnown : Type 0 where
  pub two : IsOnlyGetText Shown (FieldAt field.Load ∷ FieldAt field.Name ∷ []) kernel_file
      (codes "0x00008000\nk\n")
  pub others : IsOnlyGetText Shown number_fields kernel_file
      (codes "0\n0x00008000\n0x00008000\nlinux\narm\nkernel\nnone\n")
  pub texts : IsOnlyGetText Text number_fields kernel_file
      (codes "0\n0x00008000\n0x00008000\nlinux\narm\nkernel\nnone\n")
  pub numbers : IsOnlyGetText Number number_fields kernel_file
      (codes "0x00000000\n0x00008000\n0x00008000\n0x05\n0x02\n0x02\n0x00\n")
  pub raw : IsOnlyGetText Raw (FieldAt field.Name ∷ number_fields) kernel_file
      (codes "k" ++ 0 ∷ 0 ∷ 0 ∷ 0 ∷ 0 ∷ 0 ∷ 0x80 ∷ 0 ∷ 0 ∷ 0 ∷ 0x80 ∷ 0 ∷ 5 ∷ 2 ∷ 2 ∷ 0 ∷ [])

-- The first of the names for which there is nothing to write, and the reason.
pub record GetErrorsAreKnown : Type 0 where
  pub no_node : IsOnlyGetError Shown
      (PropertyAt (images_name ∷ codes "none" ∷ []) (codes "x") ∷ []) valued_file
      (error.NoProperty 0)
  pub no_property : IsOnlyGetError Shown (of_root (codes "x") ∷ []) valued_file
      (error.NoProperty 0)
  pub payload : IsOnlyGetError Shown (of_image data_name ∷ []) valued_file (error.NoProperty 0)
  pub no_text : IsOnlyGetError Text load_and_default valued_file (error.NoText 0)
  pub no_number : IsOnlyGetError Number load_and_default valued_file (error.NoNumber 1)
  pub first : IsOnlyGetError Number
      (of_image (codes "load") ∷ of_root (codes "x") ∷ of_configurations default_name
      ∷ FieldAt field.Load ∷ [])
      valued_file (error.NoProperty 1)
  pub field_of_tree : IsOnlyGetError Shown (FieldAt field.Load ∷ []) valued_file error.WrongKind
  pub property_of_legacy : IsOnlyGetError Shown (of_root (codes "x") ∷ []) kernel_file
      error.WrongKind
  pub name : IsOnlyGetError Number (FieldAt field.Load ∷ FieldAt field.Name ∷ []) kernel_file
      (error.NoNumber 1)

-- Each error names one reason.
pub record ValueReasonsAreKnown : Type 0 where
  pub other_kind : IsValueReason 3 OfOtherKind error.WrongKind
  pub no_property : IsValueReason 3 NoSuchProperty (error.NoProperty 3)
  pub no_text : IsValueReason 3 HasNoText (error.NoText 3)
  pub no_number : IsValueReason 3 HasNoNumber (error.NoNumber 3)
  pub other_index : ¬ (IsValueReason 3 NoSuchProperty (error.NoProperty 2))
  pub bytes : (index : ℕ) (bytes : List ℕ) (given : GetError)
      → ¬ (IsValueReason index (ValueBytes bytes) given)

-- Names as the code has them.
pub record NamesOfValuesAreKnown : Type 0 where
  pub of_field : value_name_models (variant.Field field.Load ∷ []) ≡ FieldAt field.Load ∷ []
  pub of_path : (first second : Vec ℕ Global)
      → names_of_path (first ∷ second ∷ []) ≡ first.items ∷ second.items ∷ []
  pub of_property : (path : Vec (Vec ℕ Global) Global) (name first : Vec ℕ Global)
      → path.items ≡ first ∷ []
      → value_name_model (variant.Property path name) ≡ PropertyAt (first.items ∷ []) name.items

-- ---- words

-- The words for names.
pub record NameWordsAreKnown : Type 0 where
  pub two : AreWordsOf
      (codes "/images/kernel-1" ∷ codes "load" ∷ codes "/configurations" ∷ codes "default" ∷ [])
      load_and_default
  pub root : AreWordsOf (codes "/" ∷ codes "model" ∷ []) (of_root (codes "model") ∷ [])
  pub shown : AreWordsOf (codes "/a%20b/%2D" ∷ codes "p/%25" ∷ [])
      (PropertyAt (codes "a b" ∷ codes "-" ∷ []) (codes "p/%") ∷ [])
  pub fields : AreWordsOf (codes "load" ∷ codes "name" ∷ [])
      (FieldAt field.Load ∷ FieldAt field.Name ∷ [])
  pub image_type : field_word field.ImageType ≡ codes "type"
  pub no_name : AreNoWords (codes "/" ∷ [])
  pub two_slashes : AreNoWords (codes "//" ∷ codes "x" ∷ [])
  pub last_slash : AreNoWords (codes "/a/" ∷ codes "x" ∷ [])
  pub no_child : AreNoWords (codes "/-" ∷ codes "x" ∷ [])
  pub zero : AreNoWords (codes "/a%00" ∷ codes "x" ∷ [])
  pub blank : AreNoWords (codes "/a b" ∷ codes "x" ∷ [])
  pub no_property : AreNoWords (codes "/" ∷ codes "-" ∷ [])
  pub other_field : AreNoWords (codes "size" ∷ [])
