use Rattle.std.proofs.Common.{◌+◌, ℕ, List, map, drop, sym, ap, subst, ◌∙◌, arith}
use Rattle.std.proofs.Math.ListN.{set}
use Rattle.std.proofs.lemmas.List.{length-map, drop_all}
use Rattle.bi_fit.specs.JudgementCalls.{listed_image}
use Rattle.bi_fit.specs.declared.configurations.Named.{Named}
use Rattle.bi_c.specs.Answers.{answer_of}
use Rattle.bi_c.specs.FitElements.{index_among}
use Rattle.bi_c.proofs.ArrayFilling.{IsFilling, filling_goes_on, array_is_short, array_is_filled}
use Rattle.bi_c.proofs.FitElements.{listed_left}
use Rattle.bi_c.proofs.configurations.fill_indices.Goals as goal

pub returns-then-indices-listed : goal.returns-then-indices-listed
returns-then-indices-listed c =
    let listed = map listed_image c.args.listed.now in
    let count = sym (length-map c.args.listed.now listed_image) ∙ sym (length-map listed (index_among c.args.fit.now)) in
    array_is_short _ (map (index_among c.args.fit.now) listed) 0 c.args.indices.now _
    (c.answer_with.ensures ∙ ap (λ (n : ℕ). answer_of n 0) count) (omega (arith, count, c.if-indices-listed.true))

pub loop-index-preserved : goal.loop-index-preserved
loop-index-preserved c =
    let content = c.args.fit.now in
    let listed = c.args.listed.now in
    let index = c.loop-index.index in
    let all = map (index_among content) (map listed_image listed) in
    let later = map (index_among content) (map listed_image (drop (index + 1) listed)) in
    subst (λ (it : ℕ). IsFilling all later (index + 1) c.args.indices.now (set c.loop-index.indices index it)) (sym c.image_index.ensures)
    (filling_goes_on all later _ index c.args.indices.now c.loop-index.indices
    (subst (λ (left : List ℕ). IsFilling all left index c.args.indices.now c.loop-index.indices)
    (listed_left content listed index _ c.loop-index-test.true) c.loop-index.invariant))

pub returns : goal.returns
returns c =
    let content = c.args.fit.now in
    let listed = c.args.listed.now in
    let index = c.loop-index.index in
    let all = map (index_among content) (map listed_image listed) in
    let count = sym (length-map listed listed_image) ∙ sym (length-map (map listed_image listed) (index_among content)) in
    array_is_filled _ all 0 index c.args.indices.now c.loop-index.indices _
    (c.answer_with.ensures ∙ ap (λ (n : ℕ). answer_of n 0) count)
    (subst (λ (left : List Named). IsFilling all (map (index_among content) (map listed_image left)) index c.args.indices.now
    c.loop-index.indices) (drop_all index listed c.loop-index-test.false) c.loop-index.invariant)
