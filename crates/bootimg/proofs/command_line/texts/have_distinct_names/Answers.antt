use Rattle.std.proofs.Common.{Bor, List, ℕ, [], ◌∷◌, ◌++◌, map, take, take_all, ap, subst, sym, ◌∙◌, refl, true≢false}
use Rattle.std.proofs.lemmas.Bool.{not-true, not-false}
use Rattle.bi_blob.specs.NameSets.{HoldsNames}
use Rattle.bi_blob.specs.Tree.{AreDistinct, IsNew}
use Rattle.bi_blob.proofs.Blobs.OpenNodes.{AreDistinct-push}
use Rattle.bi_blob.proofs.NameSets.{HoldsNames-insert, HoldsNames-new, HoldsNames-held}
use Rattle.bootimg.specs.CommandLine.{texts_of}
use Rattle.bootimg.specs.ConfigurationWords.{name_of_word}
use Rattle.bootimg.proofs.NamedTexts.{new_word_name, word_names_more}
use Rattle.bootimg.proofs.command_line.texts.have_distinct_names.Goals as goal

-- What a list of words gives past its end.
abbrev no_word : Bor (List ℕ)
no_word = record { ref_ptr = (0, 0); now = [] }

pub returns-then-not-branch : goal.returns-then-not-branch
returns-then-not-branch c =
    let words = c.args.words.now in
    let index = c.loop-word.word-index in
    let names = map name_of_word (texts_of (take index words)) in
    let has = not-false _ (sym c.in_ok-insert.ensures.added ∙ c.if-not-branch.true) in
    let held = HoldsNames-held c.loop-word.names c.as_bytes.result names c.loop-word.invariant.names has in
    let is = c.as_bytes.ensures.value ∙ c.name_of_word.ensures in (
      λ yes. absurd (true≢false (sym yes)),
      λ distinct. absurd (held (subst (λ name. IsNew name names) (sym is)
          (new_word_name words index no_word c.loop-word-test.true distinct))),
    )

pub loop-word-preserved : goal.loop-word-preserved
loop-word-preserved c =
    let words = c.args.words.now in
    let index = c.loop-word.word-index in
    let names = map name_of_word (texts_of (take index words)) in
    let lacks = not-true _ (sym c.in_ok-insert.ensures.added ∙ c.if-not-branch.false) in
    let new = HoldsNames-new c.loop-word.names c.as_bytes.result names c.loop-word.invariant.names lacks in
    let more = ap (λ name. names ++ name ∷ []) (c.as_bytes.ensures.value ∙ c.name_of_word.ensures)
    ∙ sym (word_names_more words index no_word c.loop-word-test.true) in
    record {
      names = subst (HoldsNames c.insert.new.self) more
          (HoldsNames-insert c.loop-word.names c.insert.new.self c.as_bytes.result names c.loop-word.invariant.names
          c.in_ok-insert.ensures.updates);
      distinct = subst AreDistinct more (AreDistinct-push names c.as_bytes.result.now c.loop-word.invariant.distinct new);
    }

pub returns : goal.returns
returns c =
    let words = c.args.words.now in (
      λ yes. subst (λ words. AreDistinct (map name_of_word (texts_of words)))
          (take_all c.loop-word.word-index words c.loop-word-test.false) c.loop-word.invariant.distinct,
      λ distinct. refl,
    )
