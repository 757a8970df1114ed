use Rattle.std.proofs.Common.{refl}
use Rattle.bi_tree.proofs.known_changes.changes_are_known.Goals as goal

pub returns : goal.returns
returns c = record {
  changes = record {
    root = refl;
    found = refl;
    not_found = refl;
    change = refl;
    no_change = refl;
    removal = refl;
    removal_below = refl;
    no_removal = refl;
    root_stays = refl;
    addition = refl;
    addition_to_root = refl;
    no_addition = refl;
  };
}
