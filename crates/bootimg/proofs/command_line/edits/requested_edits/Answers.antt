use Rattle.std.proofs.Common.{◌≡◌, ◌∙◌, inr, subst}
use Rattle.std.specs.List.{AllZip}
use Rattle.bi_edit.specs.EditWords.{IsRemovalWord}
use Rattle.clap.specs.declared.parser.matches.ArgMatches.{ArgMatches}
use Rattle.bootimg.specs.CommandLine.{HasBadEdits, IsBadValue, IsNewTime, texts_of}
use Rattle.bootimg.specs.EditOptions.{ArePayloadWords, AreSetWords}
use Rattle.bootimg.specs.declared.failure.Failure.{Failure}
use Rattle.bootimg.specs.declared.failure.Failure.TheVariants.{BadValue}
use Rattle.bootimg.proofs.CommandLines.{fails_with, outcome_weaker}
use Rattle.bootimg.proofs.EditPlans.{bad_new_time, bad_offset, bad_payloads, bad_removals, bad_settings, edits_in_order}
use Rattle.bootimg.proofs.command_line.edits.requested_edits.Goals as goal

abbrev IsBad : ArgMatches → Failure → Type 0
IsBad options failure = (failure ≡ BadValue) × HasBadEdits options

pub returns-in_err-new_time-clause-failure : goal.returns-in_err-new_time-clause-failure
returns-in_err-new_time-clause-failure c =
    let options = c.args.options.now in
    fails_with (IsBad options) c.from_residual.result c.in_err-new_time.field-0.0 c.from_residual.ensures.1
    (bad_new_time options c.in_err-new_time.field-0.0
    (subst (λ o. IsBadValue (IsNewTime o) c.in_err-new_time.field-0.0) c.get_str.ensures c.in_err-new_time.ensures.bad))

pub returns-in_err-add_removals-clause-failure : goal.returns-in_err-add_removals-clause-failure
returns-in_err-add_removals-clause-failure c =
    let options = c.args.options.now in
    let words = texts_of c.all_values-removals.result.now in
    outcome_weaker (IsBadValue (AllZip IsRemovalWord words)) (IsBad options) c.from_residual-in_err-add_removals.result
    c.in_err-add_removals.field-0.0 c.from_residual-in_err-add_removals.ensures.1 c.in_err-add_removals.ensures.failure
    (λ failure bad. bad_removals options failure words c.all_values-removals.ensures bad)

pub returns-in_err-add_settings-clause-failure : goal.returns-in_err-add_settings-clause-failure
returns-in_err-add_settings-clause-failure c =
    let options = c.args.options.now in
    let words = texts_of c.all_values.result.now in
    outcome_weaker (IsBadValue (AreSetWords words)) (IsBad options) c.from_residual-in_err-add_settings.result
    c.in_err-add_settings.field-0.0 c.from_residual-in_err-add_settings.ensures.1 c.in_err-add_settings.ensures.failure
    (λ failure bad. bad_settings options failure words c.all_values.ensures bad)

pub returns-in_err-parse_payloads-clause-failure : goal.returns-in_err-parse_payloads-clause-failure
returns-in_err-parse_payloads-clause-failure c =
    let options = c.args.options.now in
    let words = texts_of c.all_values-2.result.now in
    outcome_weaker (IsBadValue (ArePayloadWords words)) (IsBad options) c.from_residual-in_err-parse_payloads.result
    c.in_err-parse_payloads.field-0.0 c.from_residual-in_err-parse_payloads.ensures.1 c.in_err-parse_payloads.ensures.failure
    (λ failure bad. bad_payloads options failure words c.all_values-2.ensures bad)

pub returns-in_err-number-clause-failure : goal.returns-in_err-number-clause-failure
returns-in_err-number-clause-failure c =
    let options = c.args.options.now in
    fails_with (IsBad options) c.from_residual-in_err-number.result c.in_err-number.field-0.0 c.from_residual-in_err-number.ensures.1
    (bad_offset options c.in_err-number.field-0.0 c.in_err-number.ensures.bad)

pub returns-in_err-form_choice-clause-failure : goal.returns-in_err-form_choice-clause-failure
returns-in_err-form_choice-clause-failure c =
    let bad = c.in_err-form_choice.ensures.bad in
    fails_with (IsBad c.args.options.now) c.from_residual-in_err-form_choice.result c.in_err-form_choice.field-0.0
    c.from_residual-in_err-form_choice.ensures.1 (bad.0, inr bad.1)

pub returns-clause-plan : goal.returns-clause-plan
returns-clause-plan c =
    let removed = c.in_ok-add_removals.ensures.added in
    let set = c.in_ok-add_settings.ensures.added in
    record {
      changes = record { time = c.in_ok-new_time.field-0; hashes = c.flag.result };
      are_changes = record {
        time = subst (λ o. IsNewTime o c.in_ok-new_time.field-0) c.get_str.ensures c.in_ok-new_time.ensures.time;
        hashes = c.flag.ensures;
      };
      edits = record {
        removed = removed.0;
        set = set.0;
        are = edits_in_order c.new-edits.result.items c.add_removals.new.edits.items c.add_settings.new.edits.items
            c.add_changes.new.edits.items
            removed.0 set.0 _ c.new-edits.ensures.items removed.1 set.1 c.in_ok-add_changes.ensures;
        are_removals = subst (λ w. AllZip IsRemovalWord w removed.0) c.all_values-removals.ensures removed.2;
        are_settings = subst (λ w. AreSetWords w set.0) c.all_values.ensures set.2;
      };
      removal_words = c.in_ok-copy_words.ensures ∙ c.all_values-removals.ensures;
      payloads = subst (λ w. ArePayloadWords w c.in_ok-parse_payloads.field-0.items) c.all_values-2.ensures
          c.in_ok-parse_payloads.ensures.payloads;
      is_choice = c.in_ok-form_choice.ensures.choice;
      offset = c.in_ok-number.ensures.value;
      source = c.source.ensures;
    }
