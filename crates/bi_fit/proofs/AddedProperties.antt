use Rattle.std.proofs.Common.{◌≡◌, ℕ, List, [], ◌∷◌, map, rules}
use Rattle.bi_blob.specs.Events.{NodeProperty}
use Rattle.bi_blob.specs.Following.{stage_of_events, MayHaveNextProperty}
use Rattle.bi_lay.specs.declared.items.Value.{Value}
use Rattle.bi_lay.specs.declared.items.Value.TheVariants.{Slice}
use Rattle.bi_lay.specs.Contents.{Doc, with_event, name_numbered}
use Rattle.bi_lay.specs.Values.{value_bytes}
use Rattle.bi_fit.specs.NormalNodes.{MayAdd, with_events}
use Rattle.bi_fit.specs.PropertyMaps.{named_values}
use Rattle.bi_fit.proofs.AddedEvents.{with_events-append, MayAdd-back}

-- The first of the entries that are left to be added to a document may be added, and then the others are left.

-- What is read if there is no entry.
abbrev pub no_map_entry : ℕ × Value
no_map_entry = (0, Slice (record { ref_ptr = (0, 0); now = [] }))

-- Entries are left to be added to a document, which they may be, and it is another with them.
pub record IsAddingEntries (document target : Doc) (left : List (ℕ × Value)) : Type 0 where
  pub added : with_events document (map NodeProperty (named_values document.names left)) ≡ target
  pub may : MayAdd document (map NodeProperty (named_values document.names left))

module _ (document target : Doc) (entry : ℕ × Value) (later : List (ℕ × Value))
    (adding : IsAddingEntries document target (entry ∷ later)) where
  -- The first of them may be added,
  pub may_add_entry : MayHaveNextProperty (name_numbered document.names entry.0) (stage_of_events document.events)
  may_add_entry = adding.may.0

  -- and then the others are left.
  pub adding_more : (more : Doc) → more ≡ with_event document (NodeProperty (name_numbered document.names entry.0, value_bytes entry.1)) →
      IsAddingEntries more target later
  adding_more more is = search (rules, with_events-append, MayAdd-back)
