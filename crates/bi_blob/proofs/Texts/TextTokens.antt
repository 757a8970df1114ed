use Rattle.std.proofs.Common.{◌≡◌, ℕ, ◌+◌, ◌<◌, List, [], ◌∷◌, length, flat_map, refl, sym, ap, ◌∙◌, arith, length-append, rules}
use Rattle.std.specs.List.{AllByRecursion}
use Rattle.std.proofs.lemmas.List.{take_at, drop_at, length-replicate}
use Rattle.bi_base.specs.Cells.{up_to, up4}
use Rattle.bi_base.proofs.AlignmentLaws.{up_to-le}
use Rattle.bi_blob.specs.Tokens.{Token, width, IsToken, IsEncoding, AreEncodings}
use Rattle.bi_blob.specs.Events.{Event, NodeStart, NodeProperty, NodeEnd}
use Rattle.bi_blob.specs.Layout.{padding_to, encoding, token_of, event_width, offset_in}
use Rattle.bi_blob.proofs.Blobs.TreeTokens.{length-Prop}

-- A token with zeros as its padding is an encoding of the token, and is as long as the width of the token.

-- Padding is as long as is missing to a multiple of the alignment.
pub length-padding_to : (align n : ℕ) → 0 < align → n + length (padding_to align n) ≡ up_to align n
length-padding_to align n positive = simp (length-replicate) (omega (arith, up_to-le align n positive))

-- A token takes its width.
pub length-encoding : (token : Token) → length (encoding token) ≡ width token
length-encoding token = search (rules, length-append, length-padding_to)

-- A token with zeros as its padding is an encoding.
pub is_padded_encoding : (token : Token) → IsToken token → IsEncoding token (encoding token)
is_padded_encoding token is = search (rules, length-encoding)

-- Tokens with zeros as their padding are encodings.
pub is_encoded : (tokens : List Token) → AllByRecursion IsToken tokens → AreEncodings tokens (flat_map encoding tokens)
is_encoded [] each = refl
is_encoded (token ∷ later) each = search (rules, take_at, length-encoding, is_padded_encoding, drop_at, is_encoded later each.1)

-- The token of an event has the event's width, wherever its name is.
pub width-token : (names : List (List ℕ)) (event : Event) → width (token_of names event) ≡ event_width event
width-token names (NodeStart name) = refl
width-token names (NodeProperty property) =
    ap up4 (length-Prop (offset_in names property.0) property.1 ∙ sym (length-Prop 0 property.1))
width-token names NodeEnd = refl
