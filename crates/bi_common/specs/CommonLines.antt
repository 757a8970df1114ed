use Rattle.std.specs.Prelude.{ℕ, List, [], ◌∷◌, ◌++◌, Option, None, Some, map, codes, unwrap_or}
use Rattle.bi_blob.specs.Blob.{Reservation}
use Rattle.bi_legacy.specs.Codes.{CodeName, os_names, arch_names, type_names, compression_names}
use Rattle.bi_legacy.specs.Codes.{name_of_code}
use Rattle.bi_legacy.specs.Meaning.{LegacyImage}
use Rattle.std.specs.Fmt.{decimal}
use Rattle.bi_common.specs.Json.{Json, Member, json_string, json_number, json_array, json_object}
use Rattle.bi_common.specs.Lines.{Line, Field, Text, Name, Decimal, Hexadecimal, Hexadecimal64}
use Rattle.bi_common.specs.Shown.{hexadecimal_64, shown_text}

-- What listings and descriptions share: the lines and the JSON of a header and of memory
-- reservations (profile of this project).

-- The word for a code: its name, or its number if it has none.
abbrev pub code_word : List CodeName → ℕ → List ℕ
code_word names code = unwrap_or (name_of_code names code) (decimal code)

-- This word, as a value.
abbrev pub named_field : Option (List ℕ) → (code : ℕ) → Field
named_field None code = Decimal code
named_field (Some name) code = Text name

-- The line for a code, by the list of the names of such codes.
abbrev pub code_line : (key : List ℕ) → List CodeName → (code : ℕ) → Line
code_line key names code = Text key ∷ named_field (name_of_code names code) code ∷ []

-- The lines of the kind, the name and the numbers of a legacy image.
abbrev pub header_field_lines : LegacyImage → List Line
header_field_lines image =
    (Text (codes "kind") ∷ Text (codes "legacy") ∷ [])
    ∷ (Text (codes "name") ∷ Name image.name ∷ [])
    ∷ (Text (codes "time") ∷ Decimal image.time ∷ [])
    ∷ (Text (codes "load") ∷ Hexadecimal image.load ∷ [])
    ∷ (Text (codes "entry") ∷ Hexadecimal image.entry ∷ []) ∷ []

-- The lines of its codes.
abbrev pub header_code_lines : LegacyImage → List Line
header_code_lines image =
    code_line (codes "os") os_names image.os
    ∷ code_line (codes "arch") arch_names image.arch
    ∷ code_line (codes "type") type_names image.image_type
    ∷ code_line (codes "compression") compression_names image.compression ∷ []

-- The lines for the kind and the fields of its header.
abbrev pub header_lines : LegacyImage → List Line
header_lines image = header_field_lines image ++ header_code_lines image

-- The memory reservation of this address and this size.
abbrev pub reservation_of : ℕ × ℕ → Reservation
reservation_of numbers = record { address = numbers.0; size = numbers.1 }

-- The line of a memory reservation.
abbrev pub reservation_line : Reservation → Line
reservation_line reservation =
    Text (codes "reservation") ∷ Hexadecimal64 reservation.address
    ∷ Hexadecimal64 reservation.size ∷ []

-- A member whose value is a name as it is printed.
abbrev pub name_member : (member : List ℕ) → (name : List ℕ) → Member
name_member member name = (member, json_string (shown_text name))

-- A code by its name, or by its number if it has none.
abbrev pub named_code : Option (List ℕ) → (code : ℕ) → Json
named_code None code = json_number code
named_code (Some name) code = json_string name

-- The member for a code, by the list of the names of such codes.
abbrev pub code_member : (member : List ℕ) → List CodeName → (code : ℕ) → Member
code_member member code_names code = (member, named_code (name_of_code code_names code) code)

-- The members for the fields of a header.
abbrev pub header_members : LegacyImage → List Member
header_members image =
    (codes "kind", json_string (codes "legacy"))
    ∷ name_member (codes "name") image.name
    ∷ (codes "time", json_number image.time)
    ∷ (codes "load", json_number image.load)
    ∷ (codes "entry", json_number image.entry)
    ∷ code_member (codes "os") os_names image.os
    ∷ code_member (codes "arch") arch_names image.arch
    ∷ code_member (codes "type") type_names image.image_type
    ∷ code_member (codes "compression") compression_names image.compression ∷ []

-- A memory reservation.
abbrev pub reservation_object : Reservation → Json
reservation_object reservation =
    json_object
    ((codes "address", json_string (hexadecimal_64 reservation.address))
    ∷ (codes "size", json_string (hexadecimal_64 reservation.size)) ∷ [])

-- The member for the memory reservations.
abbrev pub reservations_member : List Reservation → Member
reservations_member reservations =
    (codes "reservations", json_array (map reservation_object reservations))
