use Rattle.std.proofs.Common.{◌≡◌, false, refl, sym, ◌∙◌, true≢false}
use Rattle.bi_blob.specs.Layout.{is_among}
use Rattle.bi_fit.specs.Building.{configuration_names}
use Rattle.bi_fit.specs.NamedImages.{configuration_spec_models}
use Rattle.bi_norm.proofs.ConfigurationChecks.{named_configuration}
use Rattle.bi_norm.proofs.fit_building.configurations.check_default.Goals as goal

pub returns-then-not-is_name_of_one-clause-fault : goal.returns-then-not-is_name_of_one-clause-fault
returns-then-not-is_name_of_one-clause-fault c =
    let names = configuration_names (configuration_spec_models c.args.configurations.now) in
    let lacks : is_among c.in-Some.name.now names ≡ false = sym (named_configuration c.args.configurations.now c.in-Some.name.now)
    ∙ sym c.is_name_of_one.ensures ∙ c.if-not-is_name_of_one.true in
    rw (c.refuse.ensures, c.in-Some.is) ((λ among. true≢false (sym among ∙ lacks)), refl)

pub returns-clause-ok : goal.returns-clause-ok
returns-clause-ok c =
    rw c.in-Some.is
    (sym (named_configuration c.args.configurations.now c.in-Some.name.now) ∙ sym c.is_name_of_one.ensures
    ∙ c.if-not-is_name_of_one.false)
