use Rattle.std.proofs.Common.{◌≡◌, ◌≢◌, ◌∙◌, refl, rules, arith, string_bytes}
use Rattle.std.proofs.lemmas.Result.{err_from_is_err_and}
use Rattle.std.specs.IoError.{error_kind}
use Rattle.std.specs.declared.io.ErrorKind.TheVariants.{AlreadyExists}
use Rattle.bi_files.specs.Files.{NoMemoryForName}
use Rattle.bi_files.proofs.NewFiles.{made_beside, making_failed, none_tried, own_name_tried, taken_name_tried}
use Rattle.bi_files.proofs.saving.create_beside.Goals as goal

pub loop-number-init : goal.loop-number-init
loop-number-init g c = (none_tried _ _, refl)

pub returns-in_err-beside-clause-failed : goal.returns-in_err-beside-clause-failed
returns-in_err-beside-clause-failed g c =
    let p = err_from_is_err_and c.from_residual.result c.from_residual.ensures.1 in
    rw (p.1, p.2) (NoMemoryForName c.loop-number.number (omega arith) c.loop-number.invariant.0 refl)

pub loop-number-preserved-then-eq : goal.loop-number-preserved-then-eq
loop-number-preserved-then-eq g c =
    let same : c.as_str.result.now ≡ c.args.name.now = search rules in (
      own_name_tried c.args.name.now (string_bytes c.in_ok-beside.beside) c.as_str.result.now c.loop-number.number _ _
          c.loop-number.invariant.0 c.in_ok-beside.ensures c.as_str.ensures.value same,
      c.loop-number.invariant.1,
    )

pub returns-in-Err-2-clause-failed : goal.returns-in-Err-2-clause-failed
returns-in-Err-2-clause-failed g c =
    let other : error_kind c.in-Err.error ≢ AlreadyExists = search rules in
    let another : c.as_str-in-loop-number.result.now ≢ c.args.name.now = search rules in
    making_failed c.args.name.now (string_bytes c.in_ok-beside.beside) c.as_str-in-loop-number.result.now c.loop-number.number _ _ _
    (omega arith) c.loop-number.invariant.0 c.in_ok-beside.ensures c.as_str-in-loop-number.ensures.value another
    (c.in-Err.ensures.not_made other)

pub loop-number-preserved : goal.loop-number-preserved
loop-number-preserved g c =
    let kind : error_kind c.in-Err.error ≡ AlreadyExists = search rules in
    let another : c.as_str-in-loop-number.result.now ≢ c.args.name.now = search rules in (
      taken_name_tried c.args.name.now (string_bytes c.in_ok-beside.beside) c.as_str-in-loop-number.result.now c.loop-number.number _ _ _
          c.loop-number.invariant.0 c.in_ok-beside.ensures c.as_str-in-loop-number.ensures.value another (c.in-Err.ensures.taken kind),
      c.in-Err.ensures.same_files ∙ c.loop-number.invariant.1,
    )

pub returns-in-Ok-clause-made : goal.returns-in-Ok-clause-made
returns-in-Ok-clause-made g c =
    let another : c.as_str-in-loop-number.result.now ≢ c.args.name.now = search rules in
    made_beside _ _ c.args.name.now (string_bytes c.in_ok-beside.beside) c.as_str-in-loop-number.result.now c.loop-number.number _ _ _ _
    (omega arith) c.loop-number.invariant.0 c.loop-number.invariant.1 c.in_ok-beside.ensures c.as_str-in-loop-number.ensures.value another
    c.in-Ok.ensures.is_unused c.in-Ok.ensures.is_new c.in-Ok.ensures.made
