use Rattle.bi_fdt.specs.Views.{node_of}
use Rattle.bi_fit.proofs.FileLists.{listed_is}
use Rattle.bi_fit.proofs.configurations.Configuration.payloads.Goals as goal

pub returns-clause-listed : goal.returns-clause-listed
returns-clause-listed c =
    rw (
      ← c.self.view_is,
      listed_is c.self.inside.fit.now c.give_invariant.ensures (node_of c.self.inside.node).name
          (node_of c.self.inside.node) c.args.key c.self.invariant.is_found,
    )
    c.list_images.ensures.listed

pub returns-clause-failed : goal.returns-clause-failed
returns-clause-failed c =
    rw (
      ← c.self.view_is,
      listed_is c.self.inside.fit.now c.give_invariant.ensures (node_of c.self.inside.node).name
          (node_of c.self.inside.node) c.args.key c.self.invariant.is_found,
    )
    c.list_images.ensures.failed
