use Rattle.std.proofs.Common.{ap, sym, subst, arith, refl}
use Rattle.std.proofs.lemmas.Result.{err_from_is_err_and}
use Rattle.std.specs.List.{AllByRecursion}
use Rattle.bi_base.specs.Cells.{AreBytes}
use Rattle.bi_base.specs.Slices.{bytes_of}
use Rattle.bi_base.specs.Commands.{WasRefused}
use Rattle.bi_commands.specs.BuildCommands.{ArePartsOf}
use Rattle.bi_commands.proofs.LegacyOutputs.{Building, legacy_output_emitted, not_emitted, parts_error}
use Rattle.bi_commands.proofs.build_legacy.build_legacy_into.Goals as goal

pub returns-in_err-contents-clause-failed : goal.returns-in_err-contents-clause-failed
returns-in_err-contents-clause-failed g c =
    let p = err_from_is_err_and c.from_residual.result c.from_residual.ensures.1 in
    rw (p.1, p.2) (WasRefused (parts_error c.args.limits c.args.fields c.args.parts.now c.args.input.now c.in_err-contents.field-0.0
    c.requires c.in_err-contents.ensures.failed) refl)

pub returns-in_err-emit-clause-failed : goal.returns-in_err-emit-clause-failed
returns-in_err-emit-clause-failed g c =
    let p = err_from_is_err_and c.from_residual-in_err-emit.result c.from_residual-in_err-emit.ensures.1 in
    let contents = bytes_of c.deref.result.now in
    let same = ap bytes_of (sym c.deref.ensures.value) in
    let building : Building c.args.limits c.args.fields c.args.parts.now c.args.input.now contents = record {
      are_parts = subst (ArePartsOf c.args.parts.now c.args.input.now) same c.in_ok-contents.ensures.contents;
      are_bytes = subst (AllByRecursion AreBytes) same c.in_ok-contents.ensures.bytes;
      name_bytes = c.are_bytes.ensures;
      ranges = record {
        time = omega arith;
        load = omega arith;
        entry = omega arith;
        os = omega arith;
        arch = omega arith;
        image_type = omega arith;
        compression = omega arith;
      };
      short = c.requires;
      small = omega arith;
    } in
    rw (p.1, p.2) (not_emitted g.S.Sink.appends g.S.Sink.fails c.args.limits c.args.fields c.args.parts.now c.args.input.now contents
    c.args.sink.now c.emit.new.sink c.in_err-emit.field-0.0 building c.in_err-emit.ensures)

pub returns-clause-appended : goal.returns-clause-appended
returns-clause-appended g c =
    let contents = bytes_of c.deref.result.now in
    let same = ap bytes_of (sym c.deref.ensures.value) in
    let building : Building c.args.limits c.args.fields c.args.parts.now c.args.input.now contents = record {
      are_parts = subst (ArePartsOf c.args.parts.now c.args.input.now) same c.in_ok-contents.ensures.contents;
      are_bytes = subst (AllByRecursion AreBytes) same c.in_ok-contents.ensures.bytes;
      name_bytes = c.are_bytes.ensures;
      ranges = record {
        time = omega arith;
        load = omega arith;
        entry = omega arith;
        os = omega arith;
        arch = omega arith;
        image_type = omega arith;
        compression = omega arith;
      };
      short = c.requires;
      small = omega arith;
    } in
    legacy_output_emitted g.S.Sink.appends g.S.Sink.fails c.args.limits c.args.fields c.args.parts.now c.args.input.now contents
    c.args.sink.now c.emit.new.sink building c.in_ok-emit.ensures
