use Rattle.std.proofs.Common.{ap, ◌∙◌}
use Rattle.bi_describe.specs.MadeWords.{ignored_words}
use Rattle.bi_describe.specs.ReducedMeanings.{compared_root}
use Rattle.bi_describe.specs.TreeEntries.{as_entry}
use Rattle.std.proofs.Common.{map}
use Rattle.bi_describe.proofs.KeptNodes.{kept_root_entries}
use Rattle.bi_describe.proofs.describe.kept.tree.KeptFit.new.Goals as goal

pub returns : goal.returns
returns c tree holds = record {
  cpu = holds.cpu;
  reservations = holds.reservations;
  entries = c.in_ok-entries.ensures
      ∙ kept_root_entries (ignored_words c.args.words.now) (compared_root tree.root tree.payloads) _
      (ap (map as_entry) c.deref.ensures.value ∙ holds.entries);
}
