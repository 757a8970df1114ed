use Rattle.std.proofs.Common.{ap, refl, ◌∙◌}
use Rattle.bi_blob.specs.Tree.{with_each_node}
use Rattle.bi_describe.specs.ComparedNodes.{plain_compared}
use Rattle.bi_describe.specs.MadeInsides.{entries_that_stay}
use Rattle.bi_describe.specs.MadeWords.{ignored_words}
use Rattle.bi_describe.proofs.KeptNodes.{kept_root_entries}
use Rattle.bi_describe.proofs.describe.inside.InsideTree.leave_out.Goals as goal

pub returns : goal.returns
returns c payload tree holds =
    let words = ignored_words c.args.words.now in
    record {
      path = holds.path;
      cpu = holds.cpu;
      reservations = holds.reservations;
      entries = c.in_ok-self.ensures ∙ ap (entries_that_stay words) holds.entries
          ∙ kept_root_entries words (with_each_node plain_compared tree.root) _ refl;
    }
