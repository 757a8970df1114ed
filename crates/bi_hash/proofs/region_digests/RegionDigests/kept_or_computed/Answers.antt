use Rattle.std.proofs.Common.{sym, ap, ◌∙◌}
use Rattle.std.specs.BTreeMap.{get}
use Rattle.bi_hash.specs.Digests.{padded_digest}
use Rattle.bi_hash.specs.Regions.{bytes_of_region}
use Rattle.bi_hash.specs.KeptDigests.{by_digest_key}
use Rattle.bi_hash.proofs.region_digests.RegionDigests.kept_or_computed.Goals as goal

pub returns-in-Some : goal.returns-in-Some
returns-in-Some c =
    c.self.invariant.each c.args.region c.args.algo c.in-Some.digest.now
    (ap (λ index. get by_digest_key c.self.inside.digests (c.args.region.begin, c.args.region.length, index)) (sym c.index.ensures)
    ∙ sym c.in-Some.ensures.value)
    ∙ ap (λ file. padded_digest c.args.algo (bytes_of_region file c.args.region)) c.self.view_is
