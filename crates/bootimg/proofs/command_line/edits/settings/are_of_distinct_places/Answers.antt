use Rattle.std.proofs.Common.{Bor, List, ℕ, [], ◌∷◌, ◌++◌, map, take, ap, get_or, subst, sym, ◌∙◌, refl, true≢false, arith}
use Rattle.std.proofs.lemmas.Bool.{not-true, not-false}
use Rattle.bi_blob.specs.NameSets.{HoldsNames}
use Rattle.bi_blob.specs.Tree.{AreDistinct, IsNew}
use Rattle.bi_blob.proofs.Blobs.OpenNodes.{AreDistinct-push}
use Rattle.bi_blob.proofs.NameSets.{HoldsNames-insert, HoldsNames-new, HoldsNames-held}
use Rattle.bi_edit.specs.declared.edit.Edit.{Edit}
use Rattle.bi_edit.specs.declared.edit.Edit.TheVariants.{SetDigests}
use Rattle.bootimg.specs.EditOptions.{IsSetWord, set_place}
use Rattle.bootimg.proofs.DistinctPlaces.{all_places, new_distinct_place, places_more, zip_at, zip_long}
use Rattle.bootimg.proofs.command_line.edits.settings.are_of_distinct_places.Goals as goal

-- What a list of words gives past its end, and a list of edits.
abbrev no_word : Bor (List ℕ)
no_word = record { ref_ptr = (0, 0); now = [] }

abbrev no_edit : Edit
no_edit = SetDigests

pub returns-then-not-branch : goal.returns-then-not-branch
returns-then-not-branch c = λ edits are.
    let words = c.args.words.now in
    let index = c.loop-word.word-index in
    let so_far = c.loop-word.invariant edits are in
    let here = zip_at IsSetWord words edits index no_word no_edit c.loop-word-test.true are in
    let names = map set_place (take index edits) in
    let is = c.place_of_word.ensures (get_or edits index no_edit) here.1 in
    let has = not-false _ (sym c.in_ok-insert.ensures.added ∙ c.if-not-branch.true) in
    let held = HoldsNames-held c.loop-word.places c.place_of_word.result names so_far.0 has in (
      λ yes. absurd (true≢false (sym yes)),
      λ distinct. absurd (held (subst (λ name. IsNew name names) (sym is)
          (new_distinct_place set_place edits index no_edit here.0 distinct))),
    )

pub loop-word-preserved : goal.loop-word-preserved
loop-word-preserved c = λ edits are.
    let words = c.args.words.now in
    let index = c.loop-word.word-index in
    let so_far = c.loop-word.invariant edits are in
    let here = zip_at IsSetWord words edits index no_word no_edit c.loop-word-test.true are in
    let names = map set_place (take index edits) in
    let is = c.place_of_word.ensures (get_or edits index no_edit) here.1 in
    let lacks = not-true _ (sym c.in_ok-insert.ensures.added ∙ c.if-not-branch.false) in
    let new = HoldsNames-new c.loop-word.places c.place_of_word.result names so_far.0 lacks in
    let more = ap (λ name. names ++ name ∷ []) is ∙ sym (places_more set_place edits index no_edit here.0) in (
      subst (HoldsNames c.insert.new.self) more
          (HoldsNames-insert c.loop-word.places c.insert.new.self c.place_of_word.result names so_far.0 c.in_ok-insert.ensures.updates),
      subst AreDistinct more (AreDistinct-push names c.place_of_word.result.now so_far.1 new),
    )

pub returns : goal.returns
returns c = λ edits are.
    let words = c.args.words.now in
    let so_far = c.loop-word.invariant edits are in (
      λ yes. all_places set_place edits c.loop-word.word-index
          (omega (arith, zip_long IsSetWord words edits are, c.loop-word-test.false)) so_far.1,
      λ distinct. refl,
    )
