use Rattle.std.proofs.Common.{◌≡◌, ◌≢◌, ℕ, ◌+◌, ◌-◌, ◌≤◌, List, [], ◌∷◌, ◌++◌, length, take, drop, reverse, refl, sym, ap, subst, ◌∙◌}
use Rattle.std.proofs.Common.{arith, rules}
use Rattle.std.specs.Prelude.{fold}
use Rattle.std.proofs.lemmas.List.{reverse-append}
use Rattle.std.proofs.Math.Seq.{take-add}
use Rattle.bi_base.specs.Cells.{slice, u32_at, up4}
use Rattle.bi_base.specs.Checks.{HasNoFault}
use Rattle.bi_blob.specs.Tokens.{Token, End, token_bytes, width, IsEncoding, AreEncodings, IsTokenAt, end_number}
use Rattle.bi_blob.specs.Events.{FileEvent, EncodeEvents}
use Rattle.bi_blob.specs.Stages.{next_stage}
use Rattle.bi_blob.specs.Blob.{TreeBlocks}
use Rattle.bi_blob.specs.BlobFaults.{TokenPasses, token_checks, token_events, place_after, ArePassed}
use Rattle.bi_base.proofs.CellLaws.{length-cell, length-slice, slice-first, slice-rest}
use Rattle.bi_blob.specs.OpenNodes.{TreeSoFar, stage_of, events_so_far, IsTreeSoFar, IsOpenAt}
use Rattle.bi_blob.proofs.Blobs.Tokens.{width-at_least}
use Rattle.bi_blob.proofs.Blobs.TokenEncoding.{place_after_all, place_after_all-append, AllStand}
use Rattle.bi_blob.proofs.Blobs.EventEncoding.{EncodeEvents-append}

-- Proves that the tokens that pass their checks are in the file, one after the other.

-- FDT_END takes four bytes.
pub width-End : width End ≡ 4
width-End = ap up4 (length-cell end_number)

-- The oldest of tokens comes first in the reverse list.
pub reverse-cons : (t : Token) (before : List Token) → reverse (t ∷ before) ≡ reverse before ++ t ∷ []
reverse-cons t before = reverse-append (t ∷ []) before

-- The offset after tokens listed with the newest first, and with the oldest first, is the same.
pub place_after_all-reverse : (blocks : TreeBlocks) (tokens : List Token) →
    place_after_all blocks.begin (reverse tokens) ≡ place_after blocks tokens
place_after_all-reverse blocks [] = refl
place_after_all-reverse blocks (t ∷ before) =
    search (rules, place_after_all, reverse-cons, place_after_all-append, place_after_all-reverse blocks before)

-- Tokens one after the other, and one more after them.
AllStand-push : (file : List ℕ) (at : ℕ) (tokens : List Token) (t : Token) → AllStand file at tokens →
    IsTokenAt file (place_after_all at tokens) t → AllStand file at (tokens ++ t ∷ [])
AllStand-push file at [] t all last = (last, tt)
AllStand-push file at (u ∷ tokens) t all last = (all.0, AllStand-push file (at + width u) tokens t all.1 last)

-- Tokens that pass are in the file one after the other, with one more after them.
pub ArePassed-stand : (blocks : TreeBlocks) (depth_limit : ℕ) (tokens : List Token) → ArePassed blocks depth_limit tokens →
    AllStand blocks.file blocks.begin (reverse tokens)
ArePassed-stand blocks depth_limit [] passed = tt
ArePassed-stand blocks depth_limit (t ∷ before) passed =
    search (rules, reverse-cons, AllStand-push, place_after_all-reverse, ArePassed-stand blocks depth_limit before passed.1)

-- The same with a token after them.
pub ArePassed-stand-push : (blocks : TreeBlocks) (depth_limit : ℕ) (tokens : List Token) (t : Token) → ArePassed blocks depth_limit tokens →
    IsTokenAt blocks.file (place_after blocks tokens) t → AllStand blocks.file blocks.begin (reverse tokens ++ t ∷ [])
ArePassed-stand-push blocks depth_limit tokens t passed last = search (rules, AllStand-push, ArePassed-stand, place_after_all-reverse)

-- What is after tokens is not before them.
pub place_after_all-past : (at : ℕ) (tokens : List Token) → at ≤ place_after_all at tokens
place_after_all-past at [] = omega arith
place_after_all-past at (t ∷ later) = search (rules, place_after_all, place_after_all-past (at + width t) later)

-- The bytes at the offset of a token are its encoding, where the file has them all.
IsTokenAt-encoded : (file : List ℕ) (at : ℕ) (t : Token) → IsTokenAt file at t → at + width t ≤ length file →
    IsEncoding t (slice file at (width t))
IsTokenAt-encoded file at t is_at within =
    let long : ℕ = length (token_bytes t) in
    let padded : long ≤ width t = (width-at_least t).1 in
    record {
      is_token = is_at.is_token;
      padding = take (width t - long) (drop long (drop at file));
      is_encoded = ap (λ n. take n (drop at file)) (sum padded) ∙ take-add long (width t - long) (drop at file)
          ∙ ap (λ l. l ++ take (width t - long) (drop long (drop at file))) is_at.is_at;
      whole = length-slice file at (width t) within;
    } where
      sum : {a b : ℕ} → a ≤ b → b ≡ a + (b - a)
      sum {a} {b} le = omega arith

-- The bytes at the offset of tokens are their encodings, where the file has them all.
pub AllStand-encoded : (file : List ℕ) (at : ℕ) (tokens : List Token) → AllStand file at tokens → place_after_all at tokens ≤ length file →
    AreEncodings tokens (slice file at (place_after_all at tokens - at))
AllStand-encoded file at [] stand within = search rules
AllStand-encoded file at (t ∷ later) stand within =
    let w : ℕ = width t in
    let end : ℕ = place_after_all (at + w) later in
    let past : at + w ≤ end = place_after_all-past (at + w) later in
    let within_here : end ≤ length file = within in
    let room : w ≤ end - at = omega arith in
    let sum : end - at ≡ w + (end - (at + w)) = omega arith in
    let fits : at + w ≤ length file = omega arith in (
      subst (IsEncoding t) (sym (slice-first file at w (end - at) room)) (IsTokenAt-encoded file at t stand.0 fits),
      subst (AreEncodings later) (sym (slice-rest file at w (end - at) (end - (at + w)) sum))
          (AllStand-encoded file (at + w) later stand.1 within_here),
    )

-- The state of a reader after one more token that passes, where what was read grows by the events of the token.
pub after_token : (blocks : TreeBlocks) (depth_limit place : ℕ) (old new : TreeSoFar) (t : Token) (more : List FileEvent) →
    IsOpenAt blocks depth_limit place old → t ≢ End → IsTokenAt blocks.file place t →
    HasNoFault (TokenPasses blocks depth_limit place (stage_of old)) (token_checks (u32_at blocks.file place)) →
    EncodeEvents blocks.strings place (t ∷ []) more → events_so_far new ≡ events_so_far old ++ more →
    fold next_stage (stage_of old) (token_events blocks.strings t) ≡ stage_of new → IsTreeSoFar depth_limit new →
    IsOpenAt blocks depth_limit (place + width t) new
after_token blocks depth_limit place old new t more position no_end is_at passes encodes_events grown staged is_tree_so_far = record {
  readable = position.readable;
  tokens = t ∷ position.tokens;
  passed = search rules;
  is_place = ap (λ p. p + width t) position.is_place;
  is_stage = search rules;
  encodes = search (rules, reverse-cons, EncodeEvents-append, place_after_all-reverse);
  is_tree_so_far = is_tree_so_far;
}
