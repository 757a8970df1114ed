use Rattle.std.proofs.Common.{◌≡◌, ℕ, List, ◌∷◌, map, Bor, rules}
use Rattle.bi_blob.specs.Events.{NodeProperty}
use Rattle.bi_blob.specs.Following.{stage_of_events, MayHaveNextProperty}
use Rattle.bi_lay.specs.Contents.{Doc, with_event, name_numbered}
use Rattle.bi_fit.specs.NormalNodes.{MayAdd, with_events}
use Rattle.bi_fit.proofs.AddedEvents.{with_events-append, MayAdd-back}
use Rattle.bi_plain.specs.Ranked.{named_entries}

-- The first of the entries that are left to be added to a document may be added, and then the others are left.

-- Entries are left to be added to a document, which they may be, and it is another with them.
pub record IsWritingEntries (document target : Doc) (left : List (ℕ × Bor (List ℕ))) : Type 0 where
  pub added : with_events document (map NodeProperty (named_entries document.names left)) ≡ target
  pub may : MayAdd document (map NodeProperty (named_entries document.names left))

module _ (document target : Doc) (entry : ℕ × Bor (List ℕ)) (later : List (ℕ × Bor (List ℕ)))
    (adding : IsWritingEntries document target (entry ∷ later)) where
  -- The first of them may be added,
  pub may_write_entry : MayHaveNextProperty (name_numbered document.names entry.0) (stage_of_events document.events)
  may_write_entry = adding.may.0

  -- and then the others are left.
  pub writing_more : (more : Doc) → more ≡ with_event document (NodeProperty (name_numbered document.names entry.0, entry.1.now)) →
      IsWritingEntries more target later
  writing_more more is = search (rules, with_events-append, MayAdd-back)
