use Rattle.std.proofs.Common.{◌≡◌, ap, ap₂, refl, subst, sym, ◌∙◌}
use Rattle.bi_base.specs.Slices.{bytes_of}
use Rattle.bi_legacy.specs.Emitting.{image_of_parts}
use Rattle.bi_c.specs.declared.failure.Failure.TheVariants.{WrongArgument}
use Rattle.bi_c.specs.Answers.{FilledNothing}
use Rattle.bi_c.specs.PieceBuilding.{HasPieces, IsPieceBuildFailure, legacy_in, legacy_of_pieces}
use Rattle.bi_c.proofs.CallAnswers.{not_so, is_so, buffer_is_filled}
use Rattle.bi_c.proofs.PieceBuilding.{built_of_pieces, no_pieces, not_built_of_pieces}
use Rattle.bi_c.specs.declared.argument.Argument.TheVariants.{Fields, Parts}
use Rattle.bi_base.specs.Limits.{IsInRange}
use Rattle.bi_c.specs.Checks.{LimitsCheck, NextCheck}
use Rattle.bi_c.specs.PieceBuilding.{IsPieceInside}
use Rattle.bi_c.proofs.CheckFacts.{before_array_is_wrong, first_is_wrong, limits_are_wrong, next_is_wrong}
use Rattle.bi_c.proofs.building.bootimg_build_legacy.Goals as goal

pub returns-in_default : goal.returns-in_default
returns-in_default c =
    FilledNothing (WrongArgument c.wrong_limit.result 0)
    (before_array_is_wrong (NextCheck (LimitsCheck c.args.limit c.args.depth) Fields
    (IsInRange c.args.limit c.args.depth × IsPieceInside c.args.input.now c.args.fields.now.name)) Parts (IsPieceInside c.args.input.now)
    c.args.parts.now _ 0
    (first_is_wrong (LimitsCheck c.args.limit c.args.depth) Fields (IsInRange c.args.limit c.args.depth × IsPieceInside c.args.input.now
    c.args.fields.now.name) _ 0 (λ valid. valid.0)
    (limits_are_wrong c.args.limit c.args.depth _ c.wrong_limit.ensures (not_so _ c.in_default.ensures.in_range))))
    refl c.fail.ensures.answer c.fail.ensures.status

pub returns-in_default-piece : goal.returns-in_default-piece
returns-in_default-piece c =
    FilledNothing (WrongArgument Fields 0)
    (before_array_is_wrong (NextCheck (LimitsCheck c.args.limit c.args.depth) Fields
    (IsInRange c.args.limit c.args.depth × IsPieceInside c.args.input.now c.args.fields.now.name)) Parts (IsPieceInside c.args.input.now)
    c.args.parts.now Fields 0
    (next_is_wrong (LimitsCheck c.args.limit c.args.depth) Fields (IsInRange c.args.limit c.args.depth × IsPieceInside c.args.input.now
    c.args.fields.now.name) (is_so _ c.in-Some.ensures.in_range) (λ valid. c.in_default-piece.ensures.none valid.1)))
    refl c.fail-in_default-piece.ensures.answer c.fail-in_default-piece.ensures.status

pub returns-in-Err : goal.returns-in-Err
returns-in-Err c =
    FilledNothing c.in-Err.failure
    (no_pieces c.args.limit c.args.depth c.args.input.now c.args.fields.now c.args.parts.now c.in-Err.failure
    (is_so _ c.in-Some.ensures.in_range) c.in-Some-piece.ensures.inside c.in-Err.ensures.failed)
    refl c.fail-in-Err.ensures.answer c.fail-in-Err.ensures.status

pub returns-in-Ok-build_legacy : goal.returns-in-Ok-build_legacy
returns-in-Ok-build_legacy c =
    let input = c.args.input.now in
    let fields = c.args.fields.now in
    let parts = c.args.parts.now in
    let has : HasPieces c.args.limit c.args.depth input fields parts = record {
      limits = is_so _ c.in-Some.ensures.in_range;
      name = c.in-Some-piece.ensures.inside;
      parts_inside = c.in-Ok.ensures.inside;
    } in
    let is_image : image_of_parts c.header_of.result c.deref.result.now ≡ legacy_in input fields parts =
    c.header_of.ensures (bytes_of c.deref.result.now)
    ∙ ap₂ (λ name contents. legacy_of_pieces name fields contents) c.in-Some-piece.ensures.bytes
    (ap bytes_of c.deref.ensures.value ∙ c.in-Ok.ensures.pieces) in
    buffer_is_filled _ _ c.deref-in-Ok-build_legacy.result.now _ _ 0 _ _
    (built_of_pieces c.args.limit c.args.depth input fields parts c.in-Some.limits _ has c.in-Some.ensures.value is_image
    c.in-Ok-build_legacy.text.items c.deref-in-Ok-build_legacy.result.now c.deref-in-Ok-build_legacy.ensures.value
    c.in-Ok-build_legacy.ensures.built)
    c.fill.ensures.answer c.fill.ensures.filled

pub returns : goal.returns
returns c =
    let input = c.args.input.now in
    let fields = c.args.fields.now in
    let parts = c.args.parts.now in
    let has : HasPieces c.args.limit c.args.depth input fields parts = record {
      limits = is_so _ c.in-Some.ensures.in_range;
      name = c.in-Some-piece.ensures.inside;
      parts_inside = c.in-Ok.ensures.inside;
    } in
    let is_image : image_of_parts c.header_of.result c.deref.result.now ≡ legacy_in input fields parts =
    c.header_of.ensures (bytes_of c.deref.result.now)
    ∙ ap₂ (λ name contents. legacy_of_pieces name fields contents) c.in-Some-piece.ensures.bytes
    (ap bytes_of c.deref.ensures.value ∙ c.in-Ok.ensures.pieces) in
    FilledNothing c.failure_of.result
    (subst (IsPieceBuildFailure c.args.limit c.args.depth input fields parts) (sym c.failure_of.ensures)
    (not_built_of_pieces c.args.limit c.args.depth input fields parts c.in-Some.limits _ has c.in-Some.ensures.value is_image
    c.in-Err-build_legacy.error c.in-Err-build_legacy.ensures.failed))
    refl c.fail-in-Err-build_legacy.ensures.answer c.fail-in-Err-build_legacy.ensures.status
