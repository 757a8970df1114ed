use Rattle.std.proofs.Common.{◌≡◌, ℕ, List, ◌++◌, length, rules, subst, append_assoc, append-nil, arith}
use Rattle.std.proofs.lemmas.List.{nil_from_length}
use Rattle.bi_hash.proofs.pieces.digest_in_pieces.Goals as goal

-- A message after which nothing remains is the whole payload.
whole : (message rest payload : List ℕ) → message ++ rest ≡ payload → length rest ≡ 0 → message ≡ payload
whole message rest payload parts none = search (rules, append-nil, nil_from_length)

pub loop-piece-init : goal.loop-piece-init
loop-piece-init g c = search rules

pub loop-piece-preserved : goal.loop-piece-preserved
loop-piece-preserved g c = grind (arith, append_assoc)

pub returns-clause-length : goal.returns-clause-length
returns-clause-length g c =
    let (message, held, parts) = c.loop-piece.invariant.held in
    let payload = c.args.payload.now in
    c.finish.ensures.length payload
    (subst (λ (m : List ℕ). g.H.Hasher.holds c.loop-piece.hasher m) (whole message _ payload parts c.in-None.ensures.steps.1.0) held)

pub returns-clause-digest : goal.returns-clause-digest
returns-clause-digest g c =
    let (message, held, parts) = c.loop-piece.invariant.held in
    let payload = c.args.payload.now in
    c.finish.ensures.digest payload
    (subst (λ (m : List ℕ). g.H.Hasher.holds c.loop-piece.hasher m) (whole message _ payload parts c.in-None.ensures.steps.1.0) held)
