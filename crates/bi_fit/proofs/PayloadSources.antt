use Rattle.std.proofs.Common.{◌≡◌, ℕ, ◌+◌, ◌^◌, ◌<◌, ◌≤◌, List, [], ◌∷◌, length, Option, Some, None, refl, sym, rules}
use Rattle.std.proofs.Common.{ap, ap₂, subst, ◌∙◌, nat_cmp}
use Rattle.std.specs.Prelude.{⊤}
use Rattle.std.specs.Option.{option_map}
use Rattle.std.specs.Int.{from_be_bytes, w32}
use Rattle.std.specs.Cmp.Lexicographic.{slice_cmp}
use Rattle.std.specs.FinMap.{get, entries, find, get-entries}
use Rattle.std.proofs.lemmas.Nat.{from_be_bytes-to_be_bytes_4}
use Rattle.std.proofs.lemmas.Map.Text.{is_eq-slice_cmp}
use Rattle.bi_base.specs.Cells.{cell, slice}
use Rattle.bi_base.proofs.CellLaws.{length-cell}
use Rattle.bi_blob.specs.Tree.{Property, PropertyMap, FileProperty, FileNode}
use Rattle.bi_blob.specs.Events.{NodeProperty}
use Rattle.bi_blob.specs.Layout.{event_width, properties_with_places}
use Rattle.bi_blob.specs.Lookups.{property_named}
use Rattle.bi_fit.specs.Names.{data_name, data_offset_name, data_position_name, data_size_name}
use Rattle.bi_fit.specs.ImageTree.{IsApart}
use Rattle.bi_fit.specs.Payloads.{source_of, cell_number, external_base, payload_place, HasPayload}
use Rattle.bi_fit.specs.Text.{with_payload}
use Rattle.bi_fit.proofs.PayloadProperties.{get-put, get-put_other}

-- An image node of a text has its payload, and an image node of an external text places its payload.

-- The properties of a text at their places.
abbrev pub text_properties : ℕ → PropertyMap → List FileProperty
text_properties at properties = properties_with_places at (entries properties)

-- The value of the property of a name among properties with places is that among those without.
value_named : (name : List ℕ) (at : ℕ) (properties : List Property) →
    option_map (λ property. property.value) (property_named (properties_with_places at properties) name)
    ≡ find (slice_cmp nat_cmp) name properties
value_named name at [] = refl
value_named name at (property ∷ later) = search (rules, is_eq-slice_cmp, value_named name (at + event_width (NodeProperty property)) later)

-- The same for properties by name.
pub value_placed : (name : List ℕ) (at : ℕ) (properties : PropertyMap) →
    option_map (λ property. property.value) (property_named (text_properties at properties) name) ≡ get properties name
value_placed name at properties = value_named name at (entries properties) ∙ sym (get-entries properties name)

-- What is mapped from nothing is nothing.
no_image : {A B : Type 0} (f : A → B) (o : Option A) → option_map f o ≡ None → o ≡ None
no_image f None e = refl
no_image f (Some x) e = absurd cc

-- What is mapped from something is something.
some_image : {A B : Type 0} (f : A → B) (o : Option A) (y : B) → option_map f o ≡ Some y → (x : A) × (o ≡ Some x) × (f x ≡ y)
some_image f None y e = absurd cc
some_image f (Some x) y e = (x, refl, cc)

-- A property that is not among those by name is not among those with places.
pub not_placed : (name : List ℕ) (at : ℕ) (properties : PropertyMap) → get properties name ≡ None →
    property_named (text_properties at properties) name ≡ None
not_placed name at properties is = no_image (λ property. property.value) _ (value_placed name at properties ∙ is)

-- A property by name is among those with places.
pub is_placed : (name : List ℕ) (at : ℕ) (properties : PropertyMap) (value : List ℕ) → get properties name ≡ Some value →
    (property : FileProperty) × (property_named (text_properties at properties) name ≡ Some property) × (property.value ≡ value)
is_placed name at properties value is = some_image (λ property. property.value) _ value (value_placed name at properties ∙ is)

-- A region of a file that has a payload, with numbers that are cells.
pub record IsPayloadAt (file : List ℕ) (begin : ℕ) (payload : List ℕ) : Type 0 where
  pub begin_fits : begin < 2 ^ 32
  pub size_fits : length payload < 2 ^ 32
  pub in_file : external_base file + begin + length payload ≤ length file
  pub is_slice : slice file (external_base file + begin) (length payload) ≡ payload

-- What a file must have of an external payload.
abbrev pub IsExternalAt : List ℕ → ℕ → Option (List ℕ) → Type 0
IsExternalAt file begin None = ⊤
IsExternalAt file begin (Some payload) = IsPayloadAt file begin payload

-- What a file must have of a payload, which follows the blob if there is an alignment.
abbrev pub IsThere : (alignment : Option ℕ) → List ℕ → ℕ → Option (List ℕ) → Type 0
IsThere None file begin payload = ⊤
IsThere (Some align) file begin payload = IsExternalAt file begin payload

-- The number of a cell.
number-cell : (property : FileProperty) (n : ℕ) → n < 2 ^ 32 → property.value ≡ cell n → cell_number property ≡ n
unfolding cell
number-cell property n fits is = ap (from_be_bytes w32) is ∙ from_be_bytes-to_be_bytes_4 n fits

module _ (file : List ℕ) (place at begin : ℕ) where
  -- The node of a text with these properties.
  abbrev node_with : PropertyMap → FileNode
  node_with properties = record { place = place; properties = text_properties at properties }

  -- Without the four properties there is no payload.
  no_payload : (properties : PropertyMap) → IsApart properties None → HasPayload file (node_with properties) None
  no_payload properties apart = search (rules, not_placed)

  -- The payload is the value of `data`.
  embedded_payload : (properties : PropertyMap) (payload : List ℕ) → IsApart properties (Some payload) →
      HasPayload file (node_with (with_payload None begin (Some payload) properties)) (Some payload)
  embedded_payload properties payload apart =
      let new = with_payload None begin (Some payload) properties in
      let found = is_placed data_name at new payload (get-put properties data_name payload) in
      rw (
        not_placed data_position_name at new
            (get-put_other properties data_name payload data_position_name refl ∙ apart.no_payload_name data_position_name refl),
        not_placed data_offset_name at new
            (get-put_other properties data_name payload data_offset_name refl ∙ apart.no_payload_name data_offset_name refl),
        found.1,
      )
      (ap Some (sym found.2))

  -- The payload is a region.
  external_payload : (align : ℕ) (properties : PropertyMap) (payload : List ℕ) → IsApart properties (Some payload) →
      IsPayloadAt file begin payload →
      HasPayload file (node_with (with_payload (Some align) begin (Some payload) properties)) (Some payload)
  external_payload align properties payload apart there =
      let new = with_payload (Some align) begin (Some payload) properties in
      let offset = is_placed data_offset_name at new (cell begin)
      (get-put_other _ data_size_name _ data_offset_name refl ∙ get-put properties data_offset_name (cell begin)) in
      let size = is_placed data_size_name at new (cell (length payload)) (get-put _ data_size_name (cell (length payload))) in
      let begin_is : cell_number offset.0 ≡ begin = number-cell offset.0 begin there.begin_fits offset.2 in
      let size_is : cell_number size.0 ≡ length payload = number-cell size.0 (length payload) there.size_fits size.2 in
      rw (
        not_placed data_position_name at new
            (get-put_other _ data_size_name _ data_position_name refl ∙ get-put_other properties data_offset_name _ data_position_name refl
            ∙ apart.no_payload_name data_position_name refl),
        offset.1,
        size.1,
      )
      (record {
        begin_cell = ap length offset.2 ∙ length-cell begin;
        size_cell = ap length size.2 ∙ length-cell (length payload);
        in_file = subst (λ n. external_base file + n + cell_number size.0 ≤ length file) (sym begin_is)
            (subst (λ n. external_base file + begin + n ≤ length file) (sym size_is) there.in_file);
        is_slice = ap Some (sym (ap₂ (λ m n. slice file (external_base file + m) n) begin_is size_is ∙ there.is_slice));
      })

  -- An image node of a text has its payload.
  pub has_payload : (alignment : Option ℕ) (properties : PropertyMap) (payload : Option (List ℕ)) → IsApart properties payload →
      IsThere alignment file begin payload → HasPayload file (node_with (with_payload alignment begin payload properties)) payload
  has_payload alignment properties None apart there = no_payload properties apart
  has_payload None properties (Some payload) apart there = embedded_payload properties payload apart
  has_payload (Some align) properties (Some payload) apart there = external_payload align properties payload apart there

  -- An image node of an external text places its payload.
  pub external_place : (align : ℕ) (properties : PropertyMap) (payload : Option (List ℕ)) → IsApart properties payload →
      IsThere (Some align) file begin payload →
      payload_place file (source_of (node_with (with_payload (Some align) begin payload properties)))
      ≡ option_map (λ payload. external_base file + begin) payload
  external_place align properties None apart there = search (rules, not_placed)
  external_place align properties (Some payload) apart there =
      let new = with_payload (Some align) begin (Some payload) properties in
      let offset = is_placed data_offset_name at new (cell begin)
      (get-put_other _ data_size_name _ data_offset_name refl ∙ get-put properties data_offset_name (cell begin)) in
      rw (
        not_placed data_position_name at new
            (get-put_other _ data_size_name _ data_position_name refl ∙ get-put_other properties data_offset_name _ data_position_name refl
            ∙ apart.no_payload_name data_position_name refl),
        offset.1,
      )
      (ap (λ n. Some (external_base file + n)) (number-cell offset.0 begin there.begin_fits offset.2))
