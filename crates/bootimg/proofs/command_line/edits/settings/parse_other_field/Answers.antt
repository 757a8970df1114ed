use Rattle.std.proofs.Common.{◌≡◌}
use Rattle.bi_edit.specs.declared.edit.FieldValue.{FieldValue}
use Rattle.bootimg.specs.EditOptions.{IsFieldText, field_to_set}
use Rattle.bootimg.proofs.CommandLines.{if_none}
use Rattle.bootimg.proofs.FieldTexts.{no_arch, no_compression, no_entry, no_load, no_os, no_time}
use Rattle.bootimg.proofs.command_line.edits.settings.parse_other_field.Goals as goal

pub returns-in_err-parse_number-in-time-clause-none : goal.returns-in_err-parse_number-in-time-clause-none
returns-in_err-parse_number-in-time-clause-none c =
    let word = c.args.field.now in
    let text = c.args.text.now in
    if_none c.from_residual.result ((value : FieldValue) → word ≡ field_to_set value → IsFieldText text value → ⊥)
    (no_time word text c.in-time.is (λ number is. absurd (let e = c.in_err-parse_number-in-time.ensures.exactly number is in cc)))

pub returns-in_err-parse_number-in-load-clause-none : goal.returns-in_err-parse_number-in-load-clause-none
returns-in_err-parse_number-in-load-clause-none c =
    let word = c.args.field.now in
    let text = c.args.text.now in
    if_none c.from_residual-in_err-parse_number-in-load.result
    ((value : FieldValue) → word ≡ field_to_set value → IsFieldText text value → ⊥)
    (no_load word text c.in-load.is (λ number is. absurd (let e = c.in_err-parse_number-in-load.ensures.exactly number is in cc)))

pub returns-in_err-parse_number-in-entry-clause-none : goal.returns-in_err-parse_number-in-entry-clause-none
returns-in_err-parse_number-in-entry-clause-none c =
    let word = c.args.field.now in
    let text = c.args.text.now in
    if_none c.from_residual-in_err-parse_number-in-entry.result
    ((value : FieldValue) → word ≡ field_to_set value → IsFieldText text value → ⊥)
    (no_entry word text c.in-entry.is (λ number is. absurd (let e = c.in_err-parse_number-in-entry.ensures.exactly number is in cc)))

pub returns-in_err-parse_code-in-os-clause-none : goal.returns-in_err-parse_code-in-os-clause-none
returns-in_err-parse_code-in-os-clause-none c =
    let word = c.args.field.now in
    let text = c.args.text.now in
    if_none c.from_residual-in_err-parse_code-in-os.result ((value : FieldValue) → word ≡ field_to_set value → IsFieldText text value → ⊥)
    (no_os word text c.in-os.is (λ number is. absurd (let e = c.in_err-parse_code-in-os.ensures.exactly number is in cc)))

pub returns-in_err-parse_code-in-arch-clause-none : goal.returns-in_err-parse_code-in-arch-clause-none
returns-in_err-parse_code-in-arch-clause-none c =
    let word = c.args.field.now in
    let text = c.args.text.now in
    if_none c.from_residual-in_err-parse_code-in-arch.result ((value : FieldValue) → word ≡ field_to_set value → IsFieldText text value → ⊥)
    (no_arch word text c.in-arch.is (λ number is. absurd (let e = c.in_err-parse_code-in-arch.ensures.exactly number is in cc)))

pub returns-in_err-parse_code-in-compression-clause-none : goal.returns-in_err-parse_code-in-compression-clause-none
returns-in_err-parse_code-in-compression-clause-none c =
    let word = c.args.field.now in
    let text = c.args.text.now in
    if_none c.from_residual-in_err-parse_code-in-compression.result
    ((value : FieldValue) → word ≡ field_to_set value → IsFieldText text value → ⊥)
    (no_compression word text c.in-compression.is
    (λ number is. absurd (let e = c.in_err-parse_code-in-compression.ensures.exactly number is in cc)))
