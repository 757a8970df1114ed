use Rattle.std.proofs.Common.{◌≡◌, ℕ, ◌+◌, ◌-◌, ◌<◌, ◌≤◌, List, [], ◌∷◌, ◌++◌, length, drop, reverse, refl, sym, ap, subst, ◌∙◌}
use Rattle.std.proofs.Common.{arith, rules}
use Rattle.std.proofs.lemmas.List.{length-append, append_assoc, take-append-drop, take-append-le, drop-append-le, length-drop}
use Rattle.bi_base.specs.Cells.{slice, u32_at}
use Rattle.bi_base.specs.Checks.{HasNoFault}
use Rattle.bi_blob.specs.Tokens.{Token, BeginNode, EndNode, Prop, Nop, End, token_bytes, width, AreEncodings, IsTokenAt, IsNameAt}
use Rattle.bi_blob.specs.Tokens.{name_from}
use Rattle.bi_blob.specs.Stages.{Stage}
use Rattle.bi_blob.specs.Blob.{TreeBlocks, IsReadable}
use Rattle.bi_blob.specs.BlobFaults.{TokenPasses, token_checks, place_after, ArePassed}
use Rattle.bi_blob.specs.BlobLaws.{AllTokensPass, PassedWhereEncoded}
use Rattle.bi_blob.proofs.Blobs.BytesBeforeZero.{one_name, HasName-IsNameAt}
use Rattle.bi_blob.proofs.Blobs.Tokens.{number, length-token_bytes, IsTokenAt-number, IsTokenAt-within, BeginNode-name, Prop-parts}
use Rattle.bi_blob.proofs.Blobs.TokenEncoding.{place_after_all, AllStand, AreEncodings-stand}
use Rattle.bi_blob.proofs.Blobs.TreeTokens.{length-Prop}
use Rattle.bi_blob.proofs.Blobs.PassedTokens.{reverse-cons, place_after_all-reverse, ArePassed-stand, AllStand-encoded}

-- Tokens that pass are encoded in the file with three bytes after it, and the converse.

-- A slice of a file is the same with further bytes after the file.
slice-trailing : (file trailing : List ℕ) (at n : ℕ) → at + n ≤ length file → slice (file ++ trailing) at n ≡ slice file at n
slice-trailing file trailing at n within = search (rules, drop-append-le, take-append-le, length-drop)

-- A token in a file is in the longer file.
IsTokenAt-trailing : (file trailing : List ℕ) (at : ℕ) (token : Token) → IsTokenAt file at token → IsTokenAt (file ++ trailing) at token
IsTokenAt-trailing file trailing at token is_at = search (rules, slice-trailing, IsTokenAt-within)

AllStand-trailing : (file trailing : List ℕ) (at : ℕ) (tokens : List Token) → AllStand file at tokens →
    AllStand (file ++ trailing) at tokens
AllStand-trailing file trailing at [] stand = tt
AllStand-trailing file trailing at (token ∷ later) stand =
    (IsTokenAt-trailing file trailing at token stand.0, AllStand-trailing file trailing (at + width token) later stand.1)

-- Tokens that pass, pass.
ArePassed-AllTokensPass : (blocks : TreeBlocks) (depth_limit : ℕ) (tokens : List Token) → ArePassed blocks depth_limit tokens →
    AllTokensPass blocks depth_limit tokens
ArePassed-AllTokensPass blocks depth_limit [] passed = tt
ArePassed-AllTokensPass blocks depth_limit (token ∷ before) passed =
    (passed.0.no_end, passed.0.passes, ArePassed-AllTokensPass blocks depth_limit before passed.1)

-- A cell of a file is the same with further bytes after the file.
u32_at-trailing : (file trailing : List ℕ) (at : ℕ) → at + 4 ≤ length file → u32_at (file ++ trailing) at ≡ u32_at file at
unfolding u32_at
u32_at-trailing file trailing at within = rw (slice-trailing file trailing at 4 within) refl

-- A name in a file is in the longer file.
IsNameAt-trailing : (file trailing : List ℕ) (at : ℕ) (name : List ℕ) → at ≤ length file → IsNameAt file at name →
    IsNameAt (file ++ trailing) at name
IsNameAt-trailing file trailing at name within named = record {
  no_zero = named.no_zero;
  trailing = named.trailing ++ trailing;
  is_at = search (rules, drop-append-le, append_assoc);
}

-- A token in the longer file whose bytes the file has is in the file.
IsTokenAt-shorter : (file trailing : List ℕ) (at : ℕ) (token : Token) → at + length (token_bytes token) ≤ length file →
    IsTokenAt (file ++ trailing) at token → IsTokenAt file at token
IsTokenAt-shorter file trailing at token within is_at = search (rules, slice-trailing)

module _ (blocks : TreeBlocks) (depth_limit place : ℕ) (stage : Stage) (trailing : List ℕ) (readable : IsReadable blocks) where
  -- The bytes of a token that passes are within the file.
  passes_within : (token : Token) → IsTokenAt (blocks.file ++ trailing) place token →
      HasNoFault (TokenPasses blocks depth_limit place stage) (token_checks (u32_at blocks.file place)) →
      place + length (token_bytes token) ≤ length blocks.file
  passes_within token is_at passes = by_token token is_at
      (subst (λ n. HasNoFault (TokenPasses blocks depth_limit place stage) (token_checks n)) same passes) where
        word : place + 4 ≤ length blocks.file
        word = let here : place + 4 ≤ blocks.end = passes.0 in let inside : blocks.end ≤ length blocks.file = readable.within in omega arith

        same : u32_at blocks.file place ≡ number token
        same = sym (u32_at-trailing blocks.file trailing place word) ∙ IsTokenAt-number (blocks.file ++ trailing) place token is_at

        by_token : (t : Token) → IsTokenAt (blocks.file ++ trailing) place t →
            HasNoFault (TokenPasses blocks depth_limit place stage) (token_checks (number t)) →
            place + length (token_bytes t) ≤ length blocks.file
        by_token (BeginNode name) is_at checks =
            let inside : blocks.end ≤ length blocks.file = readable.within in
            let read : List ℕ = name_from blocks.file (place + 4) in
            let ends : place + 4 + length read < blocks.end = checks.1.1.1.0 in
            let named : name ≡ read = one_name (blocks.file ++ trailing) (place + 4) name read
            (BeginNode-name (blocks.file ++ trailing) place name is_at)
            (IsNameAt-trailing blocks.file trailing (place + 4) read word
            (HasName-IsNameAt blocks.file (place + 4) blocks.end inside ends)) in
            let long : length name ≡ length read = ap length named in
            let whole : length (token_bytes (BeginNode name)) ≡ 4 + (length name + 1) =
            length-token_bytes (BeginNode name) ∙ ap (λ n. 4 + n) (length-append name (0 ∷ [])) in
            omega arith
        by_token (Prop offset value) is_at checks =
            let inside : blocks.end ≤ length blocks.file = readable.within in
            let ends : place + 12 + u32_at blocks.file (place + 4) ≤ blocks.end = checks.1.1.1.0 in
            let long : u32_at blocks.file (place + 4) ≡ length value =
            sym (u32_at-trailing blocks.file trailing (place + 4) (omega arith))
            ∙ (Prop-parts (blocks.file ++ trailing) place offset value is_at).is_length in
            let whole : length (token_bytes (Prop offset value)) ≡ 12 + length value = length-Prop offset value in
            omega arith
        by_token EndNode is_at checks = let long : length (token_bytes EndNode) ≡ 4 = length-token_bytes EndNode in omega arith
        by_token Nop is_at checks = let long : length (token_bytes Nop) ≡ 4 = length-token_bytes Nop in omega arith
        by_token End is_at checks = let long : length (token_bytes End) ≡ 4 = length-token_bytes End in omega arith

-- Where tokens with one more at their end are in a file, the tokens are, and the last one is after them.
AllStand-last : (file : List ℕ) (at : ℕ) (tokens : List Token) (t : Token) → AllStand file at (tokens ++ t ∷ []) →
    AllStand file at tokens × IsTokenAt file (place_after_all at tokens) t
AllStand-last file at [] t stand = (tt, stand.0)
AllStand-last file at (u ∷ tokens) t stand = search (rules, place_after_all, AllStand-last file (at + width u) tokens t stand.1)

-- Tokens in the longer file that pass their checks are passed.
AllTokensPass-ArePassed : (blocks : TreeBlocks) (depth_limit : ℕ) (tokens : List Token) (trailing : List ℕ) → IsReadable blocks →
    AllTokensPass blocks depth_limit tokens → AllStand (blocks.file ++ trailing) blocks.begin (reverse tokens) →
    ArePassed blocks depth_limit tokens
AllTokensPass-ArePassed blocks depth_limit [] trailing readable pass stand = tt
AllTokensPass-ArePassed blocks depth_limit (token ∷ before) trailing readable pass stand =
    let place : ℕ = place_after blocks before in
    let parts : AllStand (blocks.file ++ trailing) blocks.begin (reverse before)
    × IsTokenAt (blocks.file ++ trailing) (place_after_all blocks.begin (reverse before)) token =
    AllStand-last (blocks.file ++ trailing) blocks.begin (reverse before) token
    (search (rules, reverse-cons)) in
    let there : IsTokenAt (blocks.file ++ trailing) place token =
    search (rules, place_after_all-reverse) in
    search (rules, IsTokenAt-shorter, passes_within, AllTokensPass-ArePassed blocks depth_limit before trailing readable pass.2 parts.0)

-- Tokens that pass are encoded in the longer file: the last of them ends at most three bytes after the file.
ArePassed-is_encoded : (blocks : TreeBlocks) (depth_limit : ℕ) (tokens : List Token) (trailing : List ℕ) → length trailing ≡ 3 →
    ArePassed blocks depth_limit tokens →
    AreEncodings (reverse tokens) (slice (blocks.file ++ trailing) blocks.begin (place_after blocks tokens - blocks.begin))
ArePassed-is_encoded blocks depth_limit [] trailing three passed = search rules
ArePassed-is_encoded blocks depth_limit (token ∷ before) trailing three passed =
    let long : length (blocks.file ++ trailing) ≡ length blocks.file + length trailing = length-append blocks.file trailing in
    let within : place_after blocks before + length (token_bytes token) ≤ length blocks.file =
    IsTokenAt-within blocks.file (place_after blocks before) token passed.0.is_at in
    let place : place_after_all blocks.begin (reverse (token ∷ before)) ≡ place_after blocks (token ∷ before) =
    place_after_all-reverse blocks (token ∷ before) in
    subst (λ p. AreEncodings (reverse (token ∷ before)) (slice (blocks.file ++ trailing) blocks.begin (p - blocks.begin))) place
    (AllStand-encoded (blocks.file ++ trailing) blocks.begin (reverse (token ∷ before))
    (AllStand-trailing blocks.file trailing blocks.begin (reverse (token ∷ before))
    (ArePassed-stand blocks depth_limit (token ∷ before) passed))
    (omega arith))

pub passed_where_encoded : PassedWhereEncoded
passed_where_encoded blocks depth_limit tokens trailing readable three = (
  search (rules, ArePassed-AllTokensPass, ArePassed-is_encoded),
  (λ both.
      let size : ℕ = place_after blocks tokens - blocks.begin in
      AllTokensPass-ArePassed blocks depth_limit tokens trailing readable both.0
      (AreEncodings-stand (blocks.file ++ trailing) blocks.begin (reverse tokens) (slice (blocks.file ++ trailing) blocks.begin size)
      (drop size (drop blocks.begin (blocks.file ++ trailing))) both.1
      (sym (take-append-drop size (drop blocks.begin (blocks.file ++ trailing)))))),
)
