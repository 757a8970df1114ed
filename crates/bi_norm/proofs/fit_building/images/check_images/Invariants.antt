use Rattle.std.proofs.Common.{◌≡◌, map, take}
use Rattle.bi_blob.specs.NameSets.{HoldsNames}
use Rattle.bi_blob.specs.Tree.{AreDistinct}
use Rattle.bi_fit.specs.NamedImages.{named_models}
use Rattle.bi_norm.specs.BuildChecks.{given_for}
use Rattle.bi_norm.specs.FitBuilding.{spec_model}
use Rattle.bi_norm.proofs.ImageChecks.{names_of_given, ArePassedTo}
use Rattle.bi_norm.proofs.fit_building.images.check_images.Given as goal

-- The images before this one passed their checks, the set has their names, which are distinct, and
-- the list has them with their texts.
abbrev pub invariant-loop-index : goal.invariant-loop-index
invariant-loop-index l = record {
  names : HoldsNames l.names (names_of_given (take l.index (given_for l.texts l.descriptions l.images)));
  distinct : AreDistinct (names_of_given (take l.index (given_for l.texts l.descriptions l.images)));
  named : named_models l.named.items ≡ map spec_model (take l.index (given_for l.texts l.descriptions l.images));
  passed : ArePassedTo (given_for l.texts l.descriptions l.images) l.index;
}
