use Rattle.bi_hash.proofs.DigestBytes.{AreBytes-digest_of, length-digest_of}
use Rattle.bi_hash.proofs.laws.digests_are_bytes.Goals as goal

pub returns : goal.returns
returns c algo payload = (AreBytes-digest_of algo payload, length-digest_of algo payload)
