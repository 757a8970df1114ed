use Rattle.std.proofs.Common.{Bor, List, ℕ, [], ◌∷◌, ◌++◌, map, take, ap, subst, sym, ◌∙◌}
use Rattle.bi_blob.specs.NameSets.{HoldsNames}
use Rattle.bi_blob.proofs.NameSets.{HoldsNames-insert}
use Rattle.bootimg.specs.CommandLine.{texts_of}
use Rattle.bootimg.specs.ConfigurationWords.{name_of_word}
use Rattle.bootimg.proofs.NamedTexts.{word_names_more}
use Rattle.bootimg.proofs.command_line.texts.names_of_words.Goals as goal

-- What a list of words gives past its end.
abbrev no_word : Bor (List ℕ)
no_word = record { ref_ptr = (0, 0); now = [] }

pub loop-word-preserved : goal.loop-word-preserved
loop-word-preserved c =
    let words = c.args.words.now in
    let index = c.loop-word.word-index in
    let names = map name_of_word (texts_of (take index words)) in
    let more = ap (λ name. names ++ name ∷ []) (c.as_bytes.ensures.value ∙ c.name_of_word.ensures)
    ∙ sym (word_names_more words index no_word c.loop-word-test.true) in
    subst (HoldsNames c.insert.new.self) more
    (HoldsNames-insert c.loop-word.names c.insert.new.self c.as_bytes.result names c.loop-word.invariant c.in_ok-insert.ensures.updates)
