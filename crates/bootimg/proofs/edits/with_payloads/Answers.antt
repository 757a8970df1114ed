use Rattle.std.proofs.Common.{ℕ, ◌≡◌, ◌∙◌, ◌++◌, [], ◌∷◌, append-nil, append_assoc, ap, arith, get_or, length, length-append, refl, subst}
use Rattle.std.proofs.Common.{subst₂, sym, take_all}
use Rattle.std.proofs.lemmas.List.{map-id}
use Rattle.std.proofs.lemmas.Iterator.Consumers.{YieldsList-end, YieldsList-turn}
use Rattle.std.proofs.lemmas.Iterator.Adapters.{YieldsList-from_vec}
use Rattle.std.specs.Prelude.{Vec}
use Rattle.std.specs.declared.alloc.Global.{Global}
use Rattle.bi_edit.specs.declared.edit.Edit.TheVariants.{SetPayload}
use Rattle.bootimg.specs.EditedImages.{ArePayloadEdits, contents_of}
use Rattle.bootimg.proofs.EditRuns.{one_more_edit}
use Rattle.bootimg.proofs.edits.with_payloads.Goals as goal

pub loop-word-init : goal.loop-word-init
loop-word-init c = (refl, ([], sym (append-nil c.in_ok-all.all.items), tt))

pub bounds-contents-index : goal.bounds-contents-index
bounds-contents-index c =
    let gives = c.into_iter-word-iterator.ensures.into_iter_gives in
    let road = YieldsList-from_vec c.args.words.items gives.0 (gives.1 ∙ c.args.words.ok.0) in
    let turn = YieldsList-turn road c.loop-word.yielded _ c.loop-word.yielded_by _ c.next.new.self c.in-Some.word c.in-Some.is
    c.next.ensures.steps in
    omega (arith, turn.0, c.loop-word.invariant.0, c.requires)

pub loop-word-preserved : goal.loop-word-preserved
loop-word-preserved c =
    let gives = c.into_iter-word-iterator.ensures.into_iter_gives in
    let road = YieldsList-from_vec c.args.words.items gives.0 (gives.1 ∙ c.args.words.ok.0) in
    let turn = YieldsList-turn road c.loop-word.yielded _ c.loop-word.yielded_by _ c.next.new.self c.in-Some.word c.in-Some.is
    c.next.ensures.steps in
    let so_far = c.loop-word.invariant in
    let word = c.in-Some.word in
    let contents = c.args.contents.now in
    let bytes = c.index-contents-index.result in
    let edit = SetPayload word.image c.deref.result in
    let here = subst (λ i. bytes ≡ get_or contents i bytes) so_far.0 c.index-contents-index.is in
    let is = c.deref.ensures.value ∙ ap (λ (b : Vec ℕ Global). b.items) here in (
      omega (arith, so_far.0, length-append c.loop-word.yielded (word ∷ [])),
      (
        so_far.1.0 ++ edit ∷ [],
        c.in_ok-push.ensures.items ∙ ap (λ l. l ++ edit ∷ []) so_far.1.1
            ∙ append_assoc c.in_ok-all.all.items so_far.1.0 (edit ∷ []),
        one_more_edit c.loop-word.yielded contents bytes so_far.1.0 word edit (omega (arith, turn.0, c.requires)) so_far.1.2 (refl, is),
      ),
    )

pub returns : goal.returns
returns c =
    let gives = c.into_iter-word-iterator.ensures.into_iter_gives in
    let road = YieldsList-from_vec c.args.words.items gives.0 (gives.1 ∙ c.args.words.ok.0) in
    let end = YieldsList-end road c.loop-word.yielded _ c.loop-word.yielded_by _ c.next.new.self c.in-None.is c.next.ensures.steps in
    let so_far = c.loop-word.invariant in
    let given = so_far.1.0 in (
      given,
      so_far.1.1 ∙ ap (λ l. l ++ given) c.in_ok-all.ensures,
      subst₂ (λ words contents. ArePayloadEdits words (contents_of contents) given) (sym (map-id c.loop-word.yielded) ∙ end.0)
          (take_all (length c.loop-word.yielded) c.args.contents.now (omega (arith, end.1, c.requires))) so_far.1.2,
    )
