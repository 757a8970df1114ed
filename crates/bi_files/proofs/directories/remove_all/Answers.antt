use Rattle.bi_commands.specs.Payloads.{payload_file}
use Rattle.std.proofs.Common.{map}
use Rattle.bi_files.proofs.NewDirectories.{all_removed, directory_removed, next_removed}
use Rattle.bi_files.proofs.directories.remove_all.Goals as goal

pub loop-payload-preserved : goal.loop-payload-preserved
loop-payload-preserved g c =
    next_removed c.args.directory.now c.args.payloads.now c.loop-payload.payload-index c.payload-item.result c.as_str.result.now _ _ _
    c.remove_in.result c.loop-payload-test.true c.payload-item.is c.as_str.ensures.value c.loop-payload.invariant
    c.remove_in.ensures.removed c.remove_in.ensures.not_removed

pub returns : goal.returns
returns g c =
    directory_removed c.args.directory.now (map payload_file c.args.payloads.now) _ _ _ c.remove_directory.result
    (all_removed c.args.directory.now c.args.payloads.now c.loop-payload.payload-index _ _ c.loop-payload-test.false
    c.loop-payload.invariant)
    c.remove_directory.ensures.removed c.remove_directory.ensures.not_removed
