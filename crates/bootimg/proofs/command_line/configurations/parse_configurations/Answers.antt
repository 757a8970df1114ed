use Rattle.std.proofs.Common.{◌∙◌, Bor, List, ℕ, [], get_or, inl, subst, sym, true≢false}
use Rattle.std.proofs.lemmas.Bool.{not-true, not-false}
use Rattle.bi_blob.specs.NameSets.{HoldsNames}
use Rattle.bi_blob.specs.Tree.{IsChildName}
use Rattle.bi_blob.proofs.NameSets.{HoldsNames-insert, HoldsNames-new, HoldsNames-held}
use Rattle.bi_fit.specs.Building.{configuration_names, IsConfigurationSpec}
use Rattle.bi_norm.specs.FitBuilding.{names_of_specs, ListsOnly}
use Rattle.bootimg.specs.CommandLine.{texts_of, IsBad, IsBadConfiguration}
use Rattle.bootimg.specs.ConfigurationWords.{configuration_model, configuration_models, IsConfigurationWord}
use Rattle.bootimg.specs.declared.failure.Failure.TheVariants.{BadConfiguration}
use Rattle.bootimg.proofs.CommandLines.{outcome_weaker}
use Rattle.bootimg.proofs.ConfigurationFacts.{first_bad_word, good_word, name_twice, names_next, cannot_build_word, no_word, words_to}
use Rattle.bootimg.proofs.command_line.configurations.parse_configurations.Goals as goal
use Rattle.bootimg.proofs.command_line.configurations.parse_configurations.Goals.{then-not-is_child_name-via-then-not-is_child_name}
use Rattle.bootimg.proofs.command_line.configurations.parse_configurations.Goals.{then-not-is_child_name-via-else-not-is_child_name+then-not-lists_only}

-- What a list of words gives past its end.
abbrev d : Bor (List ℕ)
d = record { ref_ptr = (0, 0); now = [] }

pub returns-in_err-configuration-clause-failure : goal.returns-in_err-configuration-clause-failure
returns-in_err-configuration-clause-failure c =
    let names = names_of_specs c.args.images.now in
    let words = c.args.words.now in
    let index = c.loop-index.index in
    let word = (get_or words index d).now in
    outcome_weaker (IsBad (BadConfiguration index) (IsConfigurationWord word)) (IsBadConfiguration names (texts_of words))
    c.from_residual-in_err-configuration.result c.in_err-configuration.field-0.0 c.from_residual-in_err-configuration.ensures.1
    c.in_err-configuration.ensures.failure
    (λ failure bad. subst (IsBadConfiguration names (texts_of words)) (sym bad.0)
    (first_bad_word names words index d c.loop-index.configurations.items c.loop-index-test.true c.loop-index.invariant.are
    (no_word names (words_to words index) word bad.1)))

pub returns-then-not-is_child_name-clause-failure : goal.returns-then-not-is_child_name-clause-failure
returns-then-not-is_child_name-clause-failure c =
    let names = names_of_specs c.args.images.now in
    let words = c.args.words.now in
    let index = c.loop-index.index in
    let word = (get_or words index d).now in
    let configuration = c.in_ok-configuration.configuration in
    let holds = c.in_ok-image_names.ensures in
    let fails : ¬ (IsChildName configuration.name.now × ListsOnly names (configuration_model configuration))
    = elim c.then-not-is_child_name.branch [
      | then-not-is_child_name-via-then-not-is_child_name w ↦ λ both.
          true≢false (sym (c.is_child_name.ensures.1 both.0) ∙ w.if-not-is_child_name.true)
      | then-not-is_child_name-via-else-not-is_child_name+then-not-lists_only w ↦ λ both.
          true≢false (sym ((w.lists_only.ensures names holds).1 (subst (ListsOnly names) (sym w.spec.ensures) both.1))
          ∙ w.if-not-lists_only.true)
    ] in
    inl (first_bad_word names words index d c.loop-index.configurations.items c.loop-index-test.true c.loop-index.invariant.are
    (cannot_build_word names (words_to words index) word configuration c.in_ok-configuration.ensures.configuration fails))

pub returns-then-not-branch-clause-failure : goal.returns-then-not-branch-clause-failure
returns-then-not-branch-clause-failure c =
    let names = names_of_specs c.args.images.now in
    let words = c.args.words.now in
    let index = c.loop-index.index in
    let word = (get_or words index d).now in
    let configuration = c.in_ok-configuration.configuration in
    let earlier = configuration_names (configuration_models c.loop-index.configurations.items) in
    let has = not-false _ (sym c.in_ok-insert.ensures.added ∙ c.if-not-branch.true) in
    inl (first_bad_word names words index d c.loop-index.configurations.items c.loop-index-test.true c.loop-index.invariant.are
    (name_twice names (words_to words index) c.loop-index.configurations.items word configuration c.loop-index.invariant.are
    c.in_ok-configuration.ensures.configuration
    (HoldsNames-held c.loop-index.names configuration.name earlier c.loop-index.invariant.names has)))

pub loop-index-preserved : goal.loop-index-preserved
loop-index-preserved c =
    let names = names_of_specs c.args.images.now in
    let words = c.args.words.now in
    let index = c.loop-index.index in
    let configuration = c.in_ok-configuration.configuration in
    let earlier = configuration_names (configuration_models c.loop-index.configurations.items) in
    let lacks = not-true _ (sym c.in_ok-insert.ensures.added ∙ c.if-not-branch.false) in
    let new = HoldsNames-new c.loop-index.names configuration.name earlier c.loop-index.invariant.names lacks in
    let can : IsConfigurationSpec names (configuration_model configuration) = record {
      is_name = c.is_child_name.ensures.0 c.if-not-is_child_name.false;
      name_bytes = c.are_bytes.ensures;
      description = tt;
      compatible = tt;
      of_images = subst (ListsOnly names) c.spec.ensures
          ((c.lists_only.ensures names c.in_ok-image_names.ensures).0 c.if-not-lists_only.false);
    } in
    record {
      are = good_word names words index d c.loop-index.configurations.items c.push.new.self.items configuration c.loop-index-test.true
          c.loop-index.invariant.are c.in_ok-push.ensures.items c.in_ok-configuration.ensures.configuration can new;
      names = subst (HoldsNames c.insert.new.self)
          (names_next c.loop-index.configurations.items c.push.new.self.items configuration c.in_ok-push.ensures.items)
          (HoldsNames-insert c.loop-index.names c.insert.new.self configuration.name earlier c.loop-index.invariant.names
          c.in_ok-insert.ensures.updates);
    }
