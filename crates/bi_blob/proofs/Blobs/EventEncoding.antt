use Rattle.std.proofs.Common.{◌≡◌, ◌≢◌, ℕ, ◌+◌, List, [], ◌∷◌, ◌++◌, refl, ap, rules}
use Rattle.std.specs.List.{AllByRecursion}
use Rattle.bi_blob.specs.Tokens.{Token, BeginNode, EndNode, Prop, Nop, End, width}
use Rattle.bi_blob.specs.Tree.{FileProperty}
use Rattle.bi_blob.specs.Events.{FileEvent, FileNodeStart, FileNodeProperty, FileNodeEnd, EncodeEvents, EncodesProperty}
use Rattle.bi_blob.proofs.Blobs.BytesBeforeZero.{one_name}
use Rattle.bi_blob.proofs.Blobs.TokenEncoding.{place_after_all}

-- Proves that tokens encode at most one list of events, and that lists of tokens encode their events one after the other.

-- A token encodes at most one property.
one_property : (strings : List ℕ) (at o : ℕ) (v : List ℕ) (p q : FileProperty) → EncodesProperty strings at o v p →
    EncodesProperty strings at o v q → p ≡ q
one_property strings at o v p q one other =
    let same_name : p.name ≡ q.name = one_name strings o p.name q.name one.name other.name in
    search rules

-- Tokens encode at most one list of events.
pub one_event_list : (strings : List ℕ) (at : ℕ) (tokens : List Token) (a b : List FileEvent) → EncodeEvents strings at tokens a →
    EncodeEvents strings at tokens b → a ≡ b
one_event_list strings at [] [] [] one other = refl
one_event_list strings at (Nop ∷ tokens) a b one other = one_event_list strings (at + width Nop) tokens a b one other
one_event_list strings at (BeginNode n ∷ tokens) (FileNodeStart p k ∷ a) (FileNodeStart q m ∷ b) one other =
    search (rules, one_event_list strings (at + width (BeginNode n)) tokens a b one.1 other.1)
one_event_list strings at (Prop o v ∷ tokens) (FileNodeProperty p ∷ a) (FileNodeProperty q ∷ b) one other =
    search (rules, one_property, one_event_list strings (at + width (Prop o v)) tokens a b one.1 other.1)
one_event_list strings at (EndNode ∷ tokens) (FileNodeEnd ∷ a) (FileNodeEnd ∷ b) one other =
    ap (λ l. FileNodeEnd ∷ l) (one_event_list strings (at + width EndNode) tokens a b one other)
one_event_list strings at tokens a b one other = absurd (assumption (one, other))

-- Tokens that encode events have no FDT_END among them.
pub EncodeEvents-no_end : (strings : List ℕ) (at : ℕ) (tokens : List Token) (token_events : List FileEvent) →
    EncodeEvents strings at tokens token_events → AllByRecursion (λ t. t ≢ End) tokens
EncodeEvents-no_end strings at [] [] encodes = tt
EncodeEvents-no_end strings at (Nop ∷ tokens) token_events encodes =
    search (rules, EncodeEvents-no_end strings (at + width Nop) tokens token_events encodes)
EncodeEvents-no_end strings at (BeginNode n ∷ tokens) (FileNodeStart p k ∷ token_events) encodes =
    ((λ (e : BeginNode n ≡ End). absurd cc), EncodeEvents-no_end strings (at + width (BeginNode n)) tokens token_events encodes.1)
EncodeEvents-no_end strings at (Prop o v ∷ tokens) (FileNodeProperty p ∷ token_events) encodes =
    ((λ (e : Prop o v ≡ End). absurd cc), EncodeEvents-no_end strings (at + width (Prop o v)) tokens token_events encodes.1)
EncodeEvents-no_end strings at (EndNode ∷ tokens) (FileNodeEnd ∷ token_events) encodes =
    ((λ (e : EndNode ≡ End). absurd cc), EncodeEvents-no_end strings (at + width EndNode) tokens token_events encodes)
EncodeEvents-no_end strings at tokens token_events encodes = absurd encodes

-- Tokens that encode events, and then tokens that encode others, encode all of them.
pub EncodeEvents-append : (strings : List ℕ) (at : ℕ) (ts us : List Token) (a b : List FileEvent) → EncodeEvents strings at ts a →
    EncodeEvents strings (place_after_all at ts) us b → EncodeEvents strings at (ts ++ us) (a ++ b)
EncodeEvents-append strings at [] us [] b first second = second
EncodeEvents-append strings at (Nop ∷ ts) us a b first second = EncodeEvents-append strings (at + width Nop) ts us a b first second
EncodeEvents-append strings at (BeginNode n ∷ ts) us (FileNodeStart p k ∷ a) b first second =
    (first.0, EncodeEvents-append strings (at + width (BeginNode n)) ts us a b first.1 second)
EncodeEvents-append strings at (Prop o v ∷ ts) us (FileNodeProperty p ∷ a) b first second =
    (first.0, EncodeEvents-append strings (at + width (Prop o v)) ts us a b first.1 second)
EncodeEvents-append strings at (EndNode ∷ ts) us (FileNodeEnd ∷ a) b first second =
    EncodeEvents-append strings (at + width EndNode) ts us a b first second
EncodeEvents-append strings at ts us a b first second = absurd first
