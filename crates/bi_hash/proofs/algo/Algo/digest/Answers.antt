use Rattle.std.proofs.Common.{sym, ap, ◌∙◌}
use Rattle.bi_hash.specs.Digests.{digest_of, digest_size}
use Rattle.bi_hash.specs.declared.algo.Algo.TheVariants.{Crc32, Md5, Sha1, Sha256, Sha384, Sha512}
use Rattle.bi_hash.proofs.DigestBytes.{length-digest_of}
use Rattle.bi_hash.proofs.algo.Algo.digest.Goals as goal

pub returns-in-Crc32-clause-size : goal.returns-in-Crc32-clause-size
unfolding digest_of
returns-in-Crc32-clause-size c =
    c.digest_in_pieces.ensures.length ∙ length-digest_of Crc32 c.args.payload.now ∙ ap digest_size (sym c.in-Crc32.is)

pub returns-in-Md5-clause-size : goal.returns-in-Md5-clause-size
unfolding digest_of
returns-in-Md5-clause-size c =
    c.digest_in_pieces-in-Md5.ensures.length ∙ length-digest_of Md5 c.args.payload.now ∙ ap digest_size (sym c.in-Md5.is)

pub returns-in-Sha1-clause-size : goal.returns-in-Sha1-clause-size
unfolding digest_of
returns-in-Sha1-clause-size c =
    c.digest_in_pieces-in-Sha1.ensures.length ∙ length-digest_of Sha1 c.args.payload.now ∙ ap digest_size (sym c.in-Sha1.is)

pub returns-in-Sha256-clause-size : goal.returns-in-Sha256-clause-size
unfolding digest_of
returns-in-Sha256-clause-size c =
    c.digest_in_pieces-in-Sha256.ensures.length ∙ length-digest_of Sha256 c.args.payload.now ∙ ap digest_size (sym c.in-Sha256.is)

pub returns-in-Sha384-clause-size : goal.returns-in-Sha384-clause-size
unfolding digest_of
returns-in-Sha384-clause-size c =
    c.digest_in_pieces-in-Sha384.ensures.length ∙ length-digest_of Sha384 c.args.payload.now ∙ ap digest_size (sym c.in-Sha384.is)

pub returns-in-Sha512-clause-size : goal.returns-in-Sha512-clause-size
unfolding digest_of
returns-in-Sha512-clause-size c =
    c.digest_in_pieces-in-Sha512.ensures.length ∙ length-digest_of Sha512 c.args.payload.now ∙ ap digest_size (sym c.in-Sha512.is)
