use Rattle.std.proofs.Common.{◌-◌, arith, take}
use Rattle.bi_files.specs.MemoryFiles.{recorded_names}
use Rattle.bi_files.proofs.MemoryLogs.{found_after_all, nothing_is_found, one_step_back}
use Rattle.bi_files.proofs.memory_files.MemoryFiles.find.Goals as goal

pub loop-left-init : goal.loop-left-init
loop-left-init c = record {
  within = omega arith;
  same = found_after_all c.args.self.now.log.items c.len-left.result c.args.name.now (omega arith);
}

pub returns-in-Has : goal.returns-in-Has
returns-in-Has c =
    let log = c.args.self.now.log.items in
    one_step_back log c.loop-left.left c.index.result.now c.args.name.now c.loop-left.wanted.now c.loop-left-test.true
    c.loop-left.invariant.within c.index.ensures c.loop-left.invariant.same c.in-Has.found
    (c.in-Has.ensures (recorded_names (take (c.loop-left.left - 1) log)))

pub loop-left-preserved-in-HadName : goal.loop-left-preserved-in-HadName
loop-left-preserved-in-HadName c =
    let log = c.args.self.now.log.items in
    let back =
    one_step_back log c.loop-left.left c.index.result.now c.args.name.now c.loop-left.wanted.now c.loop-left-test.true
    c.loop-left.invariant.within c.index.ensures c.loop-left.invariant.same
    in
    record {
      within = omega arith;
      same = λ what is. back what (c.in-HadName.ensures (recorded_names (take (c.loop-left.left - 1) log)) what is);
    }

pub loop-left-preserved : goal.loop-left-preserved
loop-left-preserved c =
    let log = c.args.self.now.log.items in
    let back =
    one_step_back log c.loop-left.left c.index.result.now c.args.name.now c.loop-left.wanted.now c.loop-left-test.true
    c.loop-left.invariant.within c.index.ensures c.loop-left.invariant.same
    in
    record {
      within = omega arith;
      same = λ what is. back what (c.in-HadSameName.ensures (recorded_names (take (c.loop-left.left - 1) log)) what is);
    }

pub returns : goal.returns
returns c =
    nothing_is_found c.args.self.now.log.items c.loop-left.left c.args.name.now c.loop-left.wanted.now
    (omega (arith, c.loop-left-test.false)) c.loop-left.invariant.same
