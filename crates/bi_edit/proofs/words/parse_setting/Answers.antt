use Rattle.std.proofs.Common.{ap}
use Rattle.std.specs.Option.{option_map}
use Rattle.bi_edit.specs.EditWords.{IsPathWord, IsPropertyWord}
use Rattle.bi_common.proofs.UnshownNames.{some_holds}
use Rattle.bi_edit.proofs.Outcomes.{holds_of_none}
use Rattle.bi_edit.proofs.PlaceWords.{no_rest, no_setting_name, no_setting_path, no_setting_place, no_setting_value}
use Rattle.bi_edit.proofs.words.parse_setting.Goals as goal

pub returns-in_default-clause-none : goal.returns-in_default-clause-none
returns-in_default-clause-none c =
    no_rest c.args.word.now c.cut.result.0.now (option_map (λ later. later.now) c.cut.result.1) c.cut.ensures
    (ap (option_map (λ later. later.now)) c.in_default.is)

pub returns-in_default-2-clause-none : goal.returns-in_default-2-clause-none
returns-in_default-2-clause-none c =
    no_setting_path c.args.word.now c.cut.result.0.now (option_map (λ later. later.now) c.cut.result.1) c.cut.ensures
    c.in-Some.rest.now c.cut-2.result.0.now (option_map (λ later. later.now) c.cut-2.result.1)
    (ap (option_map (λ later. later.now)) c.in-Some.is) c.cut-2.ensures
    (holds_of_none c.in_ok-path.field-0 c.in_default-2.is c.in_ok-path.ensures.none)

pub returns-in_default-3-clause-none : goal.returns-in_default-3-clause-none
returns-in_default-3-clause-none c =
    no_setting_name c.args.word.now c.cut.result.0.now (option_map (λ later. later.now) c.cut.result.1) c.cut.ensures
    c.in-Some.rest.now c.cut-2.result.0.now (option_map (λ later. later.now) c.cut-2.result.1)
    (ap (option_map (λ later. later.now)) c.in-Some.is) c.cut-2.ensures
    (holds_of_none c.in_ok-name.field-0 c.in_default-3.is c.in_ok-name.ensures.none)

pub returns-in_default-new-clause-none : goal.returns-in_default-new-clause-none
returns-in_default-new-clause-none c =
    no_setting_place c.args.word.now c.cut.result.0.now (option_map (λ later. later.now) c.cut.result.1) c.cut.ensures
    c.in-Some.rest.now c.cut-2.result.0.now (option_map (λ later. later.now) c.cut-2.result.1)
    (ap (option_map (λ later. later.now)) c.in-Some.is) c.cut-2.ensures
    c.in-Some-2.path
    (some_holds (λ path. IsPathWord c.cut.result.0.now path) c.in_ok-path.field-0 c.in-Some-2.path c.in-Some-2.is
    c.in_ok-path.ensures.some)
    c.in-Some-3.name.items
    (some_holds (λ name. IsPropertyWord c.cut-2.result.0.now name.items) c.in_ok-name.field-0 c.in-Some-3.name c.in-Some-3.is
    c.in_ok-name.ensures.some)
    (holds_of_none c.new.result c.in_default-new.is c.new.ensures.none)

pub returns-in_default-4-clause-none : goal.returns-in_default-4-clause-none
returns-in_default-4-clause-none c =
    no_setting_value c.args.word.now c.cut.result.0.now (option_map (λ later. later.now) c.cut.result.1) c.cut.ensures
    c.in-Some.rest.now c.cut-2.result.0.now (option_map (λ later. later.now) c.cut-2.result.1)
    (ap (option_map (λ later. later.now)) c.in-Some.is) c.cut-2.ensures
    (holds_of_none c.in_ok-value.field-0 c.in_default-4.is c.in_ok-value.ensures.none)
