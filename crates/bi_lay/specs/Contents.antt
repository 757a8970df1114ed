use Rattle.std.specs.Prelude.{◌≡◌, ℕ, List, [], ◌∷◌, ◌++◌, slice_index_or}
use Rattle.bi_blob.specs.Blob.{Reservation}
use Rattle.bi_blob.specs.Events.{Event}
use Rattle.bi_blob.specs.Layout.{text_of_events}

-- What a document holds.

-- The boot processor, the memory reservations, the events of the tree so far, and the names of
-- properties that may be given by number.
pub record Doc : Type 0 where
  pub boot_cpu : ℕ
  pub reservations : List Reservation
  pub events : List Event
  pub names : List (List ℕ)

-- A document without reservations and with no node begun. These names may be given by number.
abbrev pub empty_with_names : ℕ → List (List ℕ) → Doc
empty_with_names boot_cpu names = record {
  boot_cpu = boot_cpu;
  reservations = [];
  events = [];
  names = names;
}

-- A document without reservations and with no node begun. No name may be given by number.
abbrev pub empty_content : ℕ → Doc
empty_content boot_cpu = empty_with_names boot_cpu []

-- The name with this number, or the empty name if there is none.
abbrev pub name_numbered : List (List ℕ) → ℕ → List ℕ
name_numbered names number = slice_index_or names number []

-- The text of a document, as this project lays it out. Its length is a multiple of `align`.
abbrev pub text_of : (align : ℕ) → Doc → List ℕ
text_of align content =
    text_of_events align content.boot_cpu content.reservations content.events

-- One more reservation.
abbrev pub with_reservation : Doc → (address size : ℕ) → Doc
with_reservation content address size =
    let reservation : Reservation = record { address = address; size = size } in
    record content { reservations = content.reservations ++ reservation ∷ [] }

-- One more event.
abbrev pub with_event : Doc → Event → Doc
with_event content event = record content { events = content.events ++ event ∷ [] }

-- Both have the same boot processor, reservations and events.
abbrev pub HaveSameContent : Doc → Doc → Type 0
HaveSameContent one other =
    (one.boot_cpu ≡ other.boot_cpu)
    × (one.reservations ≡ other.reservations)
    × (one.events ≡ other.events)
