use Rattle.bi_hash.proofs.GoodValues.{good-from_digest, digest-from_good}
use Rattle.bi_hash.proofs.laws.good_means_the_digest.Goals as goal

pub returns : goal.returns
returns c algo value payload = (digest-from_good algo value payload, good-from_digest algo value payload)
