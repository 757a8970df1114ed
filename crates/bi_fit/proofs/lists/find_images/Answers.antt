use Rattle.std.proofs.Common.{map, vec_len, sym}
use Rattle.std.proofs.lemmas.List.{map-append}
use Rattle.bi_fit.specs.Judgement.{listed_names}
use Rattle.bi_fit.specs.JudgementCalls.{listed_image}
use Rattle.bi_fit.proofs.FileLists.{next_is_missing, next_is_found, none_is_left, list_out_of_memory}
use Rattle.bi_fit.proofs.lists.find_images.Goals as goal

pub returns-in_default-image-clause-failed : goal.returns-in_default-image-clause-failed
returns-in_default-image-clause-failed c =
    rw c.len.ensures
    (next_is_missing c.args.fit.now.images c.args.value.now c.loop-name.rest.now (map listed_image c.loop-name.listed.items)
    (vec_len c.loop-name.listed) c.loop-name.invariant
    c.in-Some.name.now c.in-Some.later.now c.in-Some.ensures (sym c.in_default-image.ensures))

pub returns-in_err-push-clause-failed : goal.returns-in_err-push-clause-failed
returns-in_err-push-clause-failed c =
    list_out_of_memory c.from_residual.result c.args.fit.now.images (listed_names c.args.value.now) c.from_residual.ensures.1

pub loop-name-preserved : goal.loop-name-preserved
loop-name-preserved c =
    rw (c.in_ok-push.ensures.items, c.in_ok-push.ensures.len, map-append)
    (next_is_found c.args.fit.now.images c.args.value.now c.loop-name.rest.now (map listed_image c.loop-name.listed.items)
    (vec_len c.loop-name.listed) c.loop-name.invariant
    c.in-Some.name.now c.in-Some.later.now c.in-Some-image.index _ c.in-Some.ensures
    (sym c.in-Some-image.ensures) c.payload-payload.ensures)

pub returns-clause-listed : goal.returns-clause-listed
returns-clause-listed c =
    none_is_left c.args.fit.now.images c.args.value.now c.loop-name.rest.now (map listed_image c.loop-name.listed.items)
    (vec_len c.loop-name.listed) c.loop-name.invariant c.in_default.ensures
