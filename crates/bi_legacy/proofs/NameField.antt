use Rattle.std.proofs.Common.{◌≡◌, ℕ, List, length, drop, arith, sym, ◌∙◌, ap, take-append-drop, length-take}
use Rattle.bi_base.specs.Strings.{before_nul}
use Rattle.bi_legacy.specs.File.{HoldsName}
use Rattle.bi_base.proofs.NulLaws.{nul_index, before_nul-append, before_nul-nonzero, drop-nul_index}

-- A field of 32 bytes holds one name: the bytes before its first zero.

-- The bytes before the first zero are the name in 32 bytes.
pub field_holds_name : (field : List ℕ) → length field ≡ 32 → HoldsName field (before_nul field)
field_holds_name field whole = record {
  padding = drop (nul_index field) field;
  field_is = sym (take-append-drop (nul_index field) field);
  padding_is = drop-nul_index field;
  whole = whole;
  is_name = record {
    short = omega (arith, length-take (nul_index field) field);
    no_zero = before_nul-nonzero field;
  };
}

-- The name in 32 bytes is the bytes before the first zero.
pub name_in_field : (field name : List ℕ) → HoldsName field name → before_nul field ≡ name
name_in_field field name holds =
    ap before_nul holds.field_is ∙ before_nul-append name holds.padding holds.is_name.no_zero holds.padding_is
