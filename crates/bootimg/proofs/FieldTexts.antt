use Rattle.std.proofs.Common.{◌≡◌, ◌≢◌, ◌∙◌, ◌++◌, ◌∷◌, ℕ, List, Option, None, Some, IfSome, ap, codes, refl, subst, sym}
use Rattle.bi_base.proofs.EqualBytes.{other_bytes}
use Rattle.bi_common.specs.Unshown.{IsShownOfNoBytes}
use Rattle.bi_edit.specs.declared.edit.FieldValue.{FieldValue}
use Rattle.bi_edit.specs.declared.edit.FieldValue.TheVariants as field
use Rattle.bi_edit.specs.Cuts.{IsCutAt}
use Rattle.bootimg.specs.CodeWords.{IsCode}
use Rattle.bootimg.specs.CommandLine.{NoneIs}
use Rattle.bootimg.specs.EditOptions.{IsFieldText, IsFieldWord, field_to_set}
use Rattle.bootimg.specs.Numbers.{IsNumber}
use Rattle.bootimg.specs.declared.codes.CodeField.TheVariants.{Os, Arch, Compression}
use Rattle.bootimg.proofs.SetWords.{field_cut}

-- The texts for values of fields: a text is that for a value of one field only.

pub no_name_text : (word text : List ℕ) → word ≡ codes "name" → IsShownOfNoBytes text → (value : FieldValue) → word ≡ field_to_set value →
    IsFieldText text value → ⊥
no_name_text word text named none (field.Name name) same is = none name.items is.bytes is.is
no_name_text word text named none (field.Time time) same is = other_bytes (codes "name") (codes "time") refl (sym named ∙ same)
no_name_text word text named none (field.Load load) same is = other_bytes (codes "name") (codes "load") refl (sym named ∙ same)
no_name_text word text named none (field.Entry entry) same is = other_bytes (codes "name") (codes "entry") refl (sym named ∙ same)
no_name_text word text named none (field.Os code) same is = other_bytes (codes "name") (codes "os") refl (sym named ∙ same)
no_name_text word text named none (field.Arch code) same is = other_bytes (codes "name") (codes "arch") refl (sym named ∙ same)
no_name_text word text named none (field.Compression code) same is =
    other_bytes (codes "name") (codes "compression") refl (sym named ∙ same)

pub no_time : (word text : List ℕ) → word ≡ codes "time" → NoneIs (IsNumber text) → (value : FieldValue) → word ≡ field_to_set value →
    IsFieldText text value → ⊥
no_time word text named none (field.Name name) same is = other_bytes (codes "time") (codes "name") refl (sym named ∙ same)
no_time word text named none (field.Time time) same is = none time is
no_time word text named none (field.Load load) same is = other_bytes (codes "time") (codes "load") refl (sym named ∙ same)
no_time word text named none (field.Entry entry) same is = other_bytes (codes "time") (codes "entry") refl (sym named ∙ same)
no_time word text named none (field.Os code) same is = other_bytes (codes "time") (codes "os") refl (sym named ∙ same)
no_time word text named none (field.Arch code) same is = other_bytes (codes "time") (codes "arch") refl (sym named ∙ same)
no_time word text named none (field.Compression code) same is = other_bytes (codes "time") (codes "compression") refl (sym named ∙ same)

pub no_load : (word text : List ℕ) → word ≡ codes "load" → NoneIs (IsNumber text) → (value : FieldValue) → word ≡ field_to_set value →
    IsFieldText text value → ⊥
no_load word text named none (field.Name name) same is = other_bytes (codes "load") (codes "name") refl (sym named ∙ same)
no_load word text named none (field.Time time) same is = other_bytes (codes "load") (codes "time") refl (sym named ∙ same)
no_load word text named none (field.Load load) same is = none load is
no_load word text named none (field.Entry entry) same is = other_bytes (codes "load") (codes "entry") refl (sym named ∙ same)
no_load word text named none (field.Os code) same is = other_bytes (codes "load") (codes "os") refl (sym named ∙ same)
no_load word text named none (field.Arch code) same is = other_bytes (codes "load") (codes "arch") refl (sym named ∙ same)
no_load word text named none (field.Compression code) same is = other_bytes (codes "load") (codes "compression") refl (sym named ∙ same)

pub no_entry : (word text : List ℕ) → word ≡ codes "entry" → NoneIs (IsNumber text) → (value : FieldValue) → word ≡ field_to_set value →
    IsFieldText text value → ⊥
no_entry word text named none (field.Name name) same is = other_bytes (codes "entry") (codes "name") refl (sym named ∙ same)
no_entry word text named none (field.Time time) same is = other_bytes (codes "entry") (codes "time") refl (sym named ∙ same)
no_entry word text named none (field.Load load) same is = other_bytes (codes "entry") (codes "load") refl (sym named ∙ same)
no_entry word text named none (field.Entry entry) same is = none entry is
no_entry word text named none (field.Os code) same is = other_bytes (codes "entry") (codes "os") refl (sym named ∙ same)
no_entry word text named none (field.Arch code) same is = other_bytes (codes "entry") (codes "arch") refl (sym named ∙ same)
no_entry word text named none (field.Compression code) same is = other_bytes (codes "entry") (codes "compression") refl (sym named ∙ same)

pub no_os : (word text : List ℕ) → word ≡ codes "os" → NoneIs (IsCode Os text) → (value : FieldValue) → word ≡ field_to_set value →
    IsFieldText text value → ⊥
no_os word text named none (field.Name name) same is = other_bytes (codes "os") (codes "name") refl (sym named ∙ same)
no_os word text named none (field.Time time) same is = other_bytes (codes "os") (codes "time") refl (sym named ∙ same)
no_os word text named none (field.Load load) same is = other_bytes (codes "os") (codes "load") refl (sym named ∙ same)
no_os word text named none (field.Entry entry) same is = other_bytes (codes "os") (codes "entry") refl (sym named ∙ same)
no_os word text named none (field.Os code) same is = none code is
no_os word text named none (field.Arch code) same is = other_bytes (codes "os") (codes "arch") refl (sym named ∙ same)
no_os word text named none (field.Compression code) same is = other_bytes (codes "os") (codes "compression") refl (sym named ∙ same)

pub no_arch : (word text : List ℕ) → word ≡ codes "arch" → NoneIs (IsCode Arch text) → (value : FieldValue) → word ≡ field_to_set value →
    IsFieldText text value → ⊥
no_arch word text named none (field.Name name) same is = other_bytes (codes "arch") (codes "name") refl (sym named ∙ same)
no_arch word text named none (field.Time time) same is = other_bytes (codes "arch") (codes "time") refl (sym named ∙ same)
no_arch word text named none (field.Load load) same is = other_bytes (codes "arch") (codes "load") refl (sym named ∙ same)
no_arch word text named none (field.Entry entry) same is = other_bytes (codes "arch") (codes "entry") refl (sym named ∙ same)
no_arch word text named none (field.Os code) same is = other_bytes (codes "arch") (codes "os") refl (sym named ∙ same)
no_arch word text named none (field.Arch code) same is = none code is
no_arch word text named none (field.Compression code) same is = other_bytes (codes "arch") (codes "compression") refl (sym named ∙ same)

pub no_compression : (word text : List ℕ) → word ≡ codes "compression" → NoneIs (IsCode Compression text) →
    (value : FieldValue) → word ≡ field_to_set value →
    IsFieldText text value → ⊥
no_compression word text named none (field.Name name) same is = other_bytes (codes "compression") (codes "name") refl (sym named ∙ same)
no_compression word text named none (field.Time time) same is = other_bytes (codes "compression") (codes "time") refl (sym named ∙ same)
no_compression word text named none (field.Load load) same is = other_bytes (codes "compression") (codes "load") refl (sym named ∙ same)
no_compression word text named none (field.Entry entry) same is = other_bytes (codes "compression") (codes "entry") refl (sym named ∙ same)
no_compression word text named none (field.Os code) same is = other_bytes (codes "compression") (codes "os") refl (sym named ∙ same)
no_compression word text named none (field.Arch code) same is = other_bytes (codes "compression") (codes "arch") refl (sym named ∙ same)
no_compression word text named none (field.Compression code) same is = none code is

-- A word for no field.
pub no_field_named : (word : List ℕ) → word ≢ codes "name" → word ≢ codes "time" → word ≢ codes "load" → word ≢ codes "entry" →
    word ≢ codes "os" → word ≢ codes "arch" → word ≢ codes "compression" → (value : FieldValue) → word ≢ field_to_set value
no_field_named word n1 n2 n3 n4 n5 n6 n7 (field.Name name) same = n1 same
no_field_named word n1 n2 n3 n4 n5 n6 n7 (field.Time time) same = n2 same
no_field_named word n1 n2 n3 n4 n5 n6 n7 (field.Load load) same = n3 same
no_field_named word n1 n2 n3 n4 n5 n6 n7 (field.Entry entry) same = n4 same
no_field_named word n1 n2 n3 n4 n5 n6 n7 (field.Os code) same = n5 same
no_field_named word n1 n2 n3 n4 n5 n6 n7 (field.Arch code) same = n6 same
no_field_named word n1 n2 n3 n4 n5 n6 n7 (field.Compression code) same = n7 same

-- The word for a field, and the text after the first space.
pub cut_field_word : (word first rest : List ℕ) → IsCutAt 32 word first (Some rest) → (value : FieldValue) → first ≡ field_to_set value →
    IsFieldText rest value → IsFieldWord word value
cut_field_word word first rest cut value same is =
    record { text = rest; is = cut.is ∙ ap (λ f. f ++ 32 ∷ rest) same; is_text = is }

pub field_parts : (word first rest : List ℕ) → IsCutAt 32 word first (Some rest) → (value : FieldValue) → IsFieldWord word value →
    (first ≡ field_to_set value) × IsFieldText rest value
field_parts word first rest cut value is =
    let parts = field_cut word first (Some rest) cut value is in
    let e : Some is.text ≡ Some rest = parts.1 in
    let same : is.text ≡ rest = cc in
    (sym parts.0, subst (λ t. IsFieldText t value) same is.is_text)

pub other_field_word : (word first rest : List ℕ) → IsCutAt 32 word first (Some rest) → (given : Option FieldValue) →
    IfSome given (λ value. (first ≡ field_to_set value) × IsFieldText rest value) → IfSome given (IsFieldWord word)
other_field_word word first rest cut None is = tt
other_field_word word first rest cut (Some value) is = cut_field_word word first rest cut value is.0 is.1
