use Rattle.std.proofs.Common.{◌≡◌, Some, None, rules, sym, ap, subst, ◌∙◌}
use Rattle.std.specs.BTreeMap.{get, Updates}
use Rattle.bi_hash.specs.KeptDigests.{by_digest_key, digest_key}
use Rattle.bi_hash.proofs.KeptDigests.{one_more_digest, others_are_kept}
use Rattle.bi_hash.proofs.region_digests.keep_digest.Goals as goal
use Rattle.bi_hash.proofs.region_digests.keep_digest.Goals.{In_ok-insert}

pub returns-in-Some-clause-digest : goal.returns-in-Some-clause-digest
returns-in-Some-clause-digest c =
    c.requires.right.each c.args.region c.args.algo c.in-Some.digest.now
    (ap (λ index. get by_digest_key c.args.digests.now (c.args.region.begin, c.args.region.length, index)) (sym c.index.ensures)
    ∙ sym c.in-Some.ensures.value)

-- The digest is put under its key.
updates : (c : In_ok-insert) →
    Updates by_digest_key c.args.digests.now c.insert.new.self (digest_key c.args.region c.args.algo) (Some c.compute_digest-digest.result)
updates c =
    subst (λ index. Updates by_digest_key c.args.digests.now c.insert.new.self (
      c.args.region.begin,
      c.args.region.length,
      index,
    ) (Some c.compute_digest-digest.result)) c.index.ensures c.in_ok-insert.ensures.updates

pub returns-clause-others : goal.returns-clause-others
returns-clause-others c =
    others_are_kept c.args.digests.now c.insert.new.self (digest_key c.args.region c.args.algo) c.compute_digest-digest.result (updates c)
    (ap (λ index. get by_digest_key c.args.digests.now (c.args.region.begin, c.args.region.length, index)) (sym c.index.ensures) ∙ absent)
  where
    absent : get by_digest_key c.args.digests.now (c.args.region.begin, c.args.region.length, c.index.result) ≡ None
    absent = search rules

pub returns-clause-right : goal.returns-clause-right
returns-clause-right c =
    one_more_digest c.args.file.now c.args.digests.now c.insert.new.self c.args.region c.args.algo c.compute_digest-digest.result
    c.compute_digest-digest.ensures (updates c) c.requires.right
