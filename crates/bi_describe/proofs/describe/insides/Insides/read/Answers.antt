use Rattle.std.proofs.lemmas.Result.{err_from_is_err_and}
use Rattle.bi_norm.specs.Reading.{meaning_of}
use Rattle.bi_describe.specs.MadeInsides.{payloads_in}
use Rattle.bi_describe.proofs.BlobLists.{blobs_or_none}
use Rattle.bi_describe.proofs.InsideLengths.{names_error}
use Rattle.bi_describe.proofs.ReadInsides.{is_read_inside}
use Rattle.bi_describe.proofs.describe.insides.Insides.read.Goals as goal

pub trees_of_blobs-requires : goal.trees_of_blobs-requires
trees_of_blobs-requires c =
    blobs_or_none c.args.limits (payloads_in (meaning_of c.args.image.now)) c.in_ok-blobs.blobs.items c.in_ok-blobs.ensures

pub returns-in_err-trees-clause-failed : goal.returns-in_err-trees-clause-failed
returns-in_err-trees-clause-failed c =
    let p = err_from_is_err_and c.from_residual-in_err-trees.result c.from_residual-in_err-trees.ensures.1 in
    rw (p.1, p.2) (λ format. names_error format c.args.limits c.args.image.now c.in_ok-index.index c.in_ok-blobs.blobs.items
    c.in_err-trees.field-0.0 c.requires.held c.in_ok-index.ensures.index c.in_ok-blobs.ensures c.in_err-trees.ensures.failed)

pub returns-clause-read : goal.returns-clause-read
returns-clause-read c =
    is_read_inside c.args.limits c.args.image.now _ c.in_ok-blobs.blobs.items c.requires.held c.in_ok-index.ensures.index
    c.in_ok-blobs.ensures c.in_ok-trees.ensures.held
