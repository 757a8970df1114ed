use Rattle.std.proofs.Common.{◌∙◌, length, get_or, ap, refl, arith}
use Rattle.std.proofs.lemmas.List.{length-map}
use Rattle.bi_base.specs.Slices.{bytes_of}
use Rattle.bootimg.specs.ConfigurationWords.{configuration_model}
use Rattle.bootimg.specs.OwnTexts.{text_named, texts_named}
use Rattle.bootimg.specs.declared.command_line.configurations.ConfigurationWord.{ConfigurationWord}
use Rattle.bootimg.proofs.ConfigurationFacts.{compatibles_at, configuration_lent_next, lent_configuration}
use Rattle.bootimg.proofs.builds.lend_configurations.Goals as goal

pub bounds-compatibles-index : goal.bounds-compatibles-index
bounds-compatibles-index c =
    omega (
      arith,
      c.loop-index-test.true,
      ap length c.requires,
      length-map c.args.compatibles.now (λ each. bytes_of each.items),
      length-map c.args.words.now
          (λ (word : ConfigurationWord). texts_named c.args.texts.now.compatibles.items word.name.now),
    )

pub loop-index-preserved : goal.loop-index-preserved
loop-index-preserved c =
    let texts = c.args.texts.now in
    let words = c.args.words.now in
    let index = c.loop-index.index in
    let word = c.index-words-index.result in
    configuration_lent_next texts words index word c.loop-index.lent.items c.push.new.self.items _ c.loop-index-test.true
    c.loop-index.invariant c.in_ok-push.ensures.items
    (lent_configuration texts (get_or words index word) c.spec.result _ c.text_named.result c.deref-in-loop-index.result
    (c.spec.ensures ∙ ap configuration_model c.index-words-index.is)
    (c.text_named.ensures ∙ (λ i. text_named (c.deref.ensures.value i) (c.index-words-index.is i).name.now))
    (ap bytes_of c.deref-in-loop-index.ensures.value
    ∙ compatibles_at (λ each. bytes_of each.items) c.args.compatibles.now texts words index c.index-compatibles-index.result word
    c.requires c.loop-index-test.true c.index-compatibles-index.is)
    refl)
