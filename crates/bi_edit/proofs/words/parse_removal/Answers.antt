use Rattle.std.proofs.Common.{Ok, ap}
use Rattle.std.specs.Option.{option_map}
use Rattle.bi_edit.specs.EditWords.{IsPathWord, IsPropertyWord}
use Rattle.bi_common.proofs.UnshownNames.{some_holds}
use Rattle.bi_edit.proofs.Outcomes.{holds_of_none, none_by}
use Rattle.bi_edit.proofs.PlaceWords.{no_path, no_place, no_property_word, not_removable}
use Rattle.bi_edit.proofs.words.parse_removal.Goals as goal

pub returns-in_default-clause-none : goal.returns-in_default-clause-none
returns-in_default-clause-none c =
    no_path c.args.word.now c.cut.result.0.now (option_map (λ later. later.now) c.cut.result.1) c.cut.ensures
    (holds_of_none c.in_ok-path.field-0 c.in_default.is c.in_ok-path.ensures.none)

pub returns-in_default-name-clause-none : goal.returns-in_default-name-clause-none
returns-in_default-name-clause-none c =
    none_by {E = Unit {0}} (Ok c.removed_node.result)
    (not_removable c.args.word.now c.cut.result.0.now (option_map (λ later. later.now) c.cut.result.1) c.cut.ensures c.in-Some.path
    (ap (option_map (λ later. later.now)) c.in_default-name.is)
    (some_holds (λ path. IsPathWord c.cut.result.0.now path) c.in_ok-path.field-0 c.in-Some.path c.in-Some.is c.in_ok-path.ensures.some))
    c.removed_node.ensures.none

pub returns-in_default-2-clause-none : goal.returns-in_default-2-clause-none
returns-in_default-2-clause-none c =
    no_property_word c.args.word.now c.cut.result.0.now (option_map (λ later. later.now) c.cut.result.1) c.cut.ensures
    c.in-Some-name.name.now (ap (option_map (λ later. later.now)) c.in-Some-name.is)
    (holds_of_none c.in_ok-name.field-0 c.in_default-2.is c.in_ok-name.ensures.none)

pub returns-in-None-clause-none : goal.returns-in-None-clause-none
returns-in-None-clause-none c =
    no_place c.args.word.now c.cut.result.0.now (option_map (λ later. later.now) c.cut.result.1) c.cut.ensures
    c.in-Some-name.name.now (ap (option_map (λ later. later.now)) c.in-Some-name.is) c.in-Some.path
    (some_holds (λ path. IsPathWord c.cut.result.0.now path) c.in_ok-path.field-0 c.in-Some.path c.in-Some.is c.in_ok-path.ensures.some)
    c.in-Some-2.name.items
    (some_holds (λ name. IsPropertyWord c.in-Some-name.name.now name.items) c.in_ok-name.field-0 c.in-Some-2.name c.in-Some-2.is
    c.in_ok-name.ensures.some)
    (holds_of_none c.new.result c.in-None.is c.new.ensures.none)
