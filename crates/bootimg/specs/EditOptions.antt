use Rattle.std.specs.Prelude.{◌≡◌, ℕ, Bool, true, false, List, [], ◌∷◌, ◌++◌, codes, map}
use Rattle.std.specs.Prelude.{Option, Some, None}
use Rattle.std.specs.List.{AllZip, join_with_byte}
use Rattle.bi_blob.specs.Tree.{AreDistinct}
use Rattle.bi_common.specs.Unshown.{IsNameShownAs}
use Rattle.bi_fit.specs.declared.changes.Changes.{Changes}
use Rattle.bi_edit.specs.declared.edit.Edit.{Edit}
use Rattle.bi_edit.specs.declared.edit.Edit.TheVariants.{SetProperty, SetField, SetTime, SetDigests}
use Rattle.bi_edit.specs.declared.edit.FieldValue.{FieldValue}
use Rattle.bi_edit.specs.declared.edit.FieldValue.TheVariants as field
use Rattle.bi_edit.specs.declared.words.PayloadWord.{PayloadWord}
use Rattle.bi_edit.specs.EditWords.{IsPayloadWord, IsRemovalWord, IsSettingWord, place_words}
use Rattle.bootimg.specs.CodeWords.{IsCode}
use Rattle.bootimg.specs.Numbers.{IsNumber}
use Rattle.bootimg.specs.declared.codes.CodeField.TheVariants.{Os, Arch, Compression}

-- The words of the options of `update` that edit an image (profile of this project).

-- ---- new values

-- The word for a field of a legacy header.
abbrev pub field_to_set : FieldValue → List ℕ
field_to_set (field.Name name) = codes "name"
field_to_set (field.Time time) = codes "time"
field_to_set (field.Load load) = codes "load"
field_to_set (field.Entry entry) = codes "entry"
field_to_set (field.Os code) = codes "os"
field_to_set (field.Arch code) = codes "arch"
field_to_set (field.Compression code) = codes "compression"

-- The text is that for a value of a field: how a name is printed, a number, or a code, as
-- `build-legacy` takes them.
abbrev pub IsFieldText : List ℕ → FieldValue → Type 0
IsFieldText text (field.Name name) = IsNameShownAs text name.items
IsFieldText text (field.Time time) = IsNumber text time
IsFieldText text (field.Load load) = IsNumber text load
IsFieldText text (field.Entry entry) = IsNumber text entry
IsFieldText text (field.Os code) = IsCode Os text code
IsFieldText text (field.Arch code) = IsCode Arch text code
IsFieldText text (field.Compression code) = IsCode Compression text code

-- The word for a new value of a field: the word for the field, a space, and the text for the value.
pub record IsFieldWord (word : List ℕ) (value : FieldValue) : Type 0 where
  pub text : List ℕ
  pub is : word ≡ field_to_set value ++ (codes " " ++ text)
  pub is_text : IsFieldText text value

-- The word for a new value, of a property or of a field.
abbrev pub IsSetWord : List ℕ → Edit → Type 0
IsSetWord word (SetProperty place value) = IsSettingWord word place value.items
IsSetWord word (SetField value) = IsFieldWord word value
IsSetWord word edit = ⊥

-- What a new value is of, as the word for it begins: the path of a node and the name of a property,
-- with a space between them, or the word for a field.
abbrev pub set_place : Edit → List ℕ
set_place (SetProperty place value) = join_with_byte 32 (place_words place)
set_place (SetField value) = field_to_set value
set_place edit = []

-- The words for new values, no two of which are of one place.
pub record AreSetWords (words : List (List ℕ)) (edits : List Edit) : Type 0 where
  pub each : AllZip IsSetWord words edits
  pub distinct : AreDistinct (map set_place edits)

-- ---- new payloads

-- The word is for this payload.
abbrev pub IsNewPayload : List ℕ → PayloadWord → Type 0
IsNewPayload word payload = IsPayloadWord word payload.image payload.file.now

-- The words for new payloads, no two of which are of one image or part.
pub record ArePayloadWords (words : List (List ℕ)) (payloads : List PayloadWord) : Type 0 where
  pub each : AllZip IsNewPayload words payloads
  pub distinct : AreDistinct (map (λ payload. payload.image) payloads)

-- ---- all edits but those of payloads

-- The edits of the time and the digests.
abbrev pub time_edits : Option ℕ → List Edit
time_edits None = []
time_edits (Some time) = SetTime time ∷ []

abbrev pub digest_edits : Bool → List Edit
digest_edits false = []
digest_edits true = SetDigests ∷ []

abbrev pub changing_edits : Changes → List Edit
changing_edits changes = time_edits changes.time ++ digest_edits changes.hashes

-- The edits are the removals, the new values, the time and the digests, in this order. Removals and
-- new values are in the order of their words.
pub record AreGivenEdits (removals settings : List (List ℕ)) (changes : Changes)
    (edits : List Edit) : Type 0 where
  pub removed : List Edit
  pub set : List Edit
  pub are : edits ≡ removed ++ (set ++ changing_edits changes)
  pub are_removals : AllZip IsRemovalWord removals removed
  pub are_settings : AreSetWords settings set
