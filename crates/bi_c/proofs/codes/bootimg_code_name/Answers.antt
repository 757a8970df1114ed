use Rattle.std.proofs.Common.{◌≡◌, ◌<◌, ◌∙◌, ℕ, Some, None, ap, refl, sym, subst, arith}
use Rattle.bi_legacy.specs.Codes.{name_of_code}
use Rattle.bi_c.specs.Answers.{FilledNothing}
use Rattle.bi_c.specs.CodeCalls.{names_of_field}
use Rattle.bi_c.specs.declared.failure.Failure.TheVariants.{NotFound, WrongArgument}
use Rattle.bi_c.proofs.CallAnswers.{buffer_is_filled, is_so, not_so}
use Rattle.bi_c.specs.declared.argument.Argument.TheVariants.{Code, Field}
use Rattle.bi_c.specs.Checks.{NoCheck}
use Rattle.bi_c.specs.CodeCalls.{FieldCheck, HasCodeOfField}
use Rattle.bi_c.proofs.CheckFacts.{first_is_wrong, next_is_wrong}
use Rattle.bi_c.proofs.codes.bootimg_code_name.Goals as goal

pub returns-then-field-gt-CODE_COMPRESSION : goal.returns-then-field-gt-CODE_COMPRESSION
returns-then-field-gt-CODE_COMPRESSION c =
    FilledNothing (WrongArgument Field 0)
    (first_is_wrong (FieldCheck c.args.field) Code (HasCodeOfField c.args.field c.args.code) Field 0 (λ has. has.is_field)
    (next_is_wrong NoCheck Field (c.args.field < 4) tt (λ is_field. omega (arith, is_field, c.if-field-gt-CODE_COMPRESSION.true)))) refl
    c.fail.ensures.answer
    c.fail.ensures.status

pub returns-in_default : goal.returns-in_default
returns-in_default c =
    FilledNothing (WrongArgument Code 0)
    (next_is_wrong (FieldCheck c.args.field) Code (HasCodeOfField c.args.field c.args.code)
    (omega (arith, c.if-field-gt-CODE_COMPRESSION.false))
    (λ has. not_so _ c.in_default.ensures.in_range has.is_code)) refl c.fail-in_default.ensures.answer
    c.fail-in_default.ensures.status

pub returns-in-Some-name_in_field : goal.returns-in-Some-name_in_field
returns-in-Some-name_in_field c =
    let named : Some c.in-Some-name_in_field.name.now ≡ name_of_code (names_of_field c.args.field) c.args.code =
    subst (λ (n : ℕ). Some c.in-Some-name_in_field.name.now ≡ name_of_code (names_of_field c.args.field) n) c.in-Some.ensures.value
    c.in-Some-name_in_field.ensures in
    buffer_is_filled _ _ c.as_bytes.result.now _ _ 0 _ _ (record {
      arguments = record {
        is_field = omega (arith, c.if-field-gt-CODE_COMPRESSION.false);
        is_code = is_so _ c.in-Some.ensures.in_range;
      };
      is_name = sym named ∙ ap Some (sym c.as_bytes.ensures.value);
      no_value = refl;
    }) c.fill.ensures.answer c.fill.ensures.filled

pub returns-in-None : goal.returns-in-None
returns-in-None c =
    let nameless : None ≡ name_of_code (names_of_field c.args.field) c.args.code =
    subst (λ (n : ℕ). None ≡ name_of_code (names_of_field c.args.field) n) c.in-Some.ensures.value c.in-None.ensures in
    FilledNothing (NotFound 14 0) (
      record {
        is_field = omega (arith, c.if-field-gt-CODE_COMPRESSION.false);
        is_code = is_so _ c.in-Some.ensures.in_range;
      },
      sym nameless,
      refl,
      refl,
    ) refl c.fail-in-None.ensures.answer c.fail-in-None.ensures.status
