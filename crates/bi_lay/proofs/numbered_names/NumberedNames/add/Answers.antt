use Rattle.bi_lay.specs.NumberedNames.{numbered_names}
use Rattle.bi_lay.proofs.KnownOffsets.{known-added}
use Rattle.bi_lay.proofs.numbered_names.NumberedNames.add.Goals as goal

pub invariant_of-self : goal.invariant_of-self
invariant_of-self c = record {
  count = c.self.invariant.count;
  known = known-added (numbered_names c.self.inside) c.args.name.now c.self.inside.offsets.items c.add.new.self c.add.result
      c.self.invariant.known c.add.ensures.names c.add.ensures.failed;
}
