use Rattle.std.proofs.Common.{List, ℕ, [], ◌∷◌, ◌++◌, map, take, ap, subst, sym, ◌∙◌, refl, true≢false}
use Rattle.std.proofs.lemmas.Bool.{not-true, not-false}
use Rattle.std.proofs.lemmas.List.{get_or_read}
use Rattle.bi_blob.specs.NameSets.{HoldsNames}
use Rattle.bi_blob.specs.Tree.{AreDistinct, IsNew}
use Rattle.bi_blob.proofs.Blobs.OpenNodes.{AreDistinct-push}
use Rattle.bi_blob.proofs.NameSets.{HoldsNames-insert, HoldsNames-new, HoldsNames-held}
use Rattle.bi_edit.specs.declared.words.PayloadWord.{PayloadWord}
use Rattle.bootimg.proofs.DistinctPlaces.{all_places, new_distinct_place, places_more}
use Rattle.bootimg.proofs.command_line.edits.are_of_distinct_images.Goals as goal

-- What a list of payloads gives past its end.
abbrev no_payload : PayloadWord
no_payload = record { image = []; file = record { ref_ptr = (0, 0); now = [] } }

abbrev image_of : PayloadWord → List ℕ
image_of payload = payload.image

pub returns-then-not-branch : goal.returns-then-not-branch
returns-then-not-branch c =
    let payloads = c.args.payloads.now in
    let index = c.loop-payload.payload-index in
    let names = map image_of (take index payloads) in
    let item = get_or_read payloads index c.payload-item.result c.loop-payload-test.true c.payload-item.is no_payload in
    let is = c.as_bytes.ensures.name ∙ ap image_of item in
    let has = not-false _ (sym c.in_ok-insert.ensures.added ∙ c.if-not-branch.true) in
    let held = HoldsNames-held c.loop-payload.images c.as_bytes.result names c.loop-payload.invariant.names has in (
      λ yes. absurd (true≢false (sym yes)),
      λ distinct. absurd (held (subst (λ name. IsNew name names) (sym is)
          (new_distinct_place image_of payloads index no_payload c.loop-payload-test.true distinct))),
    )

pub loop-payload-preserved : goal.loop-payload-preserved
loop-payload-preserved c =
    let payloads = c.args.payloads.now in
    let index = c.loop-payload.payload-index in
    let names = map image_of (take index payloads) in
    let item = get_or_read payloads index c.payload-item.result c.loop-payload-test.true c.payload-item.is no_payload in
    let is = c.as_bytes.ensures.name ∙ ap image_of item in
    let lacks = not-true _ (sym c.in_ok-insert.ensures.added ∙ c.if-not-branch.false) in
    let new = HoldsNames-new c.loop-payload.images c.as_bytes.result names c.loop-payload.invariant.names lacks in
    let more = ap (λ name. names ++ name ∷ []) is
    ∙ sym (places_more image_of payloads index no_payload c.loop-payload-test.true) in
    record {
      names = subst (HoldsNames c.insert.new.self) more
          (HoldsNames-insert c.loop-payload.images c.insert.new.self c.as_bytes.result names c.loop-payload.invariant.names
          c.in_ok-insert.ensures.updates);
      distinct = subst AreDistinct more (AreDistinct-push names c.as_bytes.result.now c.loop-payload.invariant.distinct new);
    }

pub returns : goal.returns
returns c =
    let payloads = c.args.payloads.now in (
      λ yes. all_places image_of payloads c.loop-payload.payload-index c.loop-payload-test.false c.loop-payload.invariant.distinct,
      λ distinct. refl,
    )
