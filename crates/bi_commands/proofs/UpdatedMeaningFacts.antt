use Rattle.std.proofs.Common.{Some, refl, ap}
use Rattle.bi_fit.proofs.UpdateFacts.{updates_are_known}
use Rattle.bi_commands.specs.KnownUpdates.{UpdatedMeaningsAreKnown}

-- A small legacy image and a small tree mean what is known after updates.

pub updated_meanings_are_known : UpdatedMeaningsAreKnown
updated_meanings_are_known = record {
  legacy_time = refl;
  legacy_hashes = refl;
  legacy_both = refl;
  tree_time = ap Some updates_are_known.time;
  tree_hashes = ap Some updates_are_known.hashes;
  tree_both = ap Some updates_are_known.both;
}
