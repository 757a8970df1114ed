use Rattle.std.proofs.Common.{refl}
use Rattle.bi_tree.proofs.known_changes.changes_of_properties_are_known.Goals as goal

pub returns : goal.returns
returns c = record {
  changes = record { value = refl; addition = refl; removal = refl; no_removal = refl; node = refl };
}
