use Rattle.std.proofs.Common.{◌≡◌, ℕ, ◌+◌, Bool, true, false, List, [], ◌∷◌, bytes_eq, refl}
use Rattle.std.specs.Fmt.{decimal}
use Rattle.std.specs.List.{AllByRecursion}
use Rattle.bi_base.specs.Cells.{AreBytes}
use Rattle.bi_base.specs.Limits.{Limits}
use Rattle.bi_legacy.specs.Meaning.{FitsFields, LegacyImage}
use Rattle.bi_norm.specs.Meaning.{OfLegacy}
use Rattle.bi_edit.specs.declared.edit.Edit.{Edit}
use Rattle.bi_edit.specs.declared.edit.Edit.TheVariants.{RemoveNode, RemoveProperty, SetProperty}
use Rattle.bi_edit.specs.declared.edit.Edit.TheVariants.{SetField, SetPayload, SetTime, SetDigests}
use Rattle.bi_edit.specs.declared.edit.FieldValue.{FieldValue}
use Rattle.bi_edit.specs.declared.edit.FieldValue.TheVariants as field
use Rattle.bi_edit.specs.EditLaws.{IsEditOfBytes, IsFieldValue}
use Rattle.bi_edit.specs.EditRefusals.{AreOfKind, AreShallow}
use Rattle.bi_edit.specs.Edits.{edited_legacy, legacy_after, with_field, with_part}

-- Edits keep what a legacy image has within the bounds of a header.

-- Numbers fit their fields, and name and parts are bytes.
pub record HasContent (image : LegacyImage) : Type 0 where
  pub ranges : FitsFields image
  pub name : AreBytes image.name
  pub parts : AllByRecursion AreBytes image.parts

with_part_of_bytes : (index : ℕ) (name bytes : List ℕ) (parts : List (List ℕ)) → AreBytes bytes → AllByRecursion AreBytes parts →
    AllByRecursion AreBytes (with_part index name bytes parts)
with_part_of_bytes index name bytes [] is are = tt
with_part_of_bytes index name bytes (part ∷ later) is are =
    by (bytes_eq name (decimal index)) refl (with_part_of_bytes (index + 1) name bytes later is are.1)
  where
    by : (b : Bool) → bytes_eq name (decimal index) ≡ b → AllByRecursion AreBytes (with_part (index + 1) name bytes later) →
        AllByRecursion AreBytes (with_part index name bytes (part ∷ later))
    by true same rest = rw same (is, are.1)
    by false same rest = rw same (are.0, rest)

field_keeps : (image : LegacyImage) (value : FieldValue) → HasContent image → IsFieldValue value → HasContent (with_field value image)
field_keeps image (field.Name name) has is = record {
  ranges = record {
    time = has.ranges.time;
    load = has.ranges.load;
    entry = has.ranges.entry;
    os = has.ranges.os;
    arch = has.ranges.arch;
    image_type = has.ranges.image_type;
    compression = has.ranges.compression;
  };
  name = is;
  parts = has.parts;
}
field_keeps image (field.Time time) has is = record {
  ranges = record {
    time = is;
    load = has.ranges.load;
    entry = has.ranges.entry;
    os = has.ranges.os;
    arch = has.ranges.arch;
    image_type = has.ranges.image_type;
    compression = has.ranges.compression;
  };
  name = has.name;
  parts = has.parts;
}
field_keeps image (field.Load load) has is = record {
  ranges = record {
    time = has.ranges.time;
    load = is;
    entry = has.ranges.entry;
    os = has.ranges.os;
    arch = has.ranges.arch;
    image_type = has.ranges.image_type;
    compression = has.ranges.compression;
  };
  name = has.name;
  parts = has.parts;
}
field_keeps image (field.Entry entry) has is = record {
  ranges = record {
    time = has.ranges.time;
    load = has.ranges.load;
    entry = is;
    os = has.ranges.os;
    arch = has.ranges.arch;
    image_type = has.ranges.image_type;
    compression = has.ranges.compression;
  };
  name = has.name;
  parts = has.parts;
}
field_keeps image (field.Os code) has is = record {
  ranges = record {
    time = has.ranges.time;
    load = has.ranges.load;
    entry = has.ranges.entry;
    os = is;
    arch = has.ranges.arch;
    image_type = has.ranges.image_type;
    compression = has.ranges.compression;
  };
  name = has.name;
  parts = has.parts;
}
field_keeps image (field.Arch code) has is = record {
  ranges = record {
    time = has.ranges.time;
    load = has.ranges.load;
    entry = has.ranges.entry;
    os = has.ranges.os;
    arch = is;
    image_type = has.ranges.image_type;
    compression = has.ranges.compression;
  };
  name = has.name;
  parts = has.parts;
}
field_keeps image (field.Compression code) has is = record {
  ranges = record {
    time = has.ranges.time;
    load = has.ranges.load;
    entry = has.ranges.entry;
    os = has.ranges.os;
    arch = has.ranges.arch;
    image_type = has.ranges.image_type;
    compression = is;
  };
  name = has.name;
  parts = has.parts;
}

edit_keeps_content : (image : LegacyImage) (edit : Edit) → HasContent image → IsEditOfBytes edit → HasContent (edited_legacy image edit)
edit_keeps_content image (RemoveNode path) has of = has
edit_keeps_content image (RemoveProperty place) has of = has
edit_keeps_content image (SetProperty place value) has of = has
edit_keeps_content image (SetField value) has of = field_keeps image value has of
edit_keeps_content image (SetPayload part bytes) has of = record {
  ranges = record {
    time = has.ranges.time;
    load = has.ranges.load;
    entry = has.ranges.entry;
    os = has.ranges.os;
    arch = has.ranges.arch;
    image_type = has.ranges.image_type;
    compression = has.ranges.compression;
  };
  name = has.name;
  parts = with_part_of_bytes 0 part bytes.now image.parts of.1 has.parts;
}
edit_keeps_content image (SetTime time) has of = field_keeps image (field.Time time) has of
edit_keeps_content image SetDigests has of = has

pub edits_keep_content : (image : LegacyImage) (edits : List Edit) → HasContent image → AllByRecursion IsEditOfBytes edits →
    HasContent (legacy_after image edits)
edits_keep_content image [] has of = has
edits_keep_content image (edit ∷ later) has of =
    edits_keep_content (edited_legacy image edit) later (edit_keeps_content image edit has of.0) of.1

-- No edit of a legacy image is too deep.
pub legacy_shallow : (limits : Limits) (image : LegacyImage) (edits : List Edit) → AreOfKind (OfLegacy image) edits →
    AreShallow limits edits
legacy_shallow limits image [] kind = tt
legacy_shallow limits image (RemoveNode path ∷ later) kind = absurd kind.0
legacy_shallow limits image (RemoveProperty place ∷ later) kind = absurd kind.0
legacy_shallow limits image (SetProperty place value ∷ later) kind = absurd kind.0
legacy_shallow limits image (SetField value ∷ later) kind = ((λ deep. deep), legacy_shallow limits image later kind.1)
legacy_shallow limits image (SetPayload part bytes ∷ later) kind = ((λ deep. deep), legacy_shallow limits image later kind.1)
legacy_shallow limits image (SetTime time ∷ later) kind = ((λ deep. deep), legacy_shallow limits image later kind.1)
legacy_shallow limits image (SetDigests ∷ later) kind = ((λ deep. deep), legacy_shallow limits image later kind.1)
