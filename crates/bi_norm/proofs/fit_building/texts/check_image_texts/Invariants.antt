use Rattle.std.proofs.Common.{map, take}
use Rattle.std.specs.Prelude.{IfSome}
use Rattle.std.specs.List.{AllByRecursion}
use Rattle.bi_fit.specs.Building.{ImageSpecModel, IsText}
use Rattle.bi_fit.specs.NamedImages.{named_models}
use Rattle.bi_norm.specs.FitBuilding.{own_texts_of_image}
use Rattle.bi_norm.proofs.OwnTexts.{TextsPassedTo}
use Rattle.bi_norm.proofs.fit_building.texts.check_image_texts.Given as goal

-- The descriptions of the images before this one passed.
abbrev pub invariant-loop-index : goal.invariant-loop-index
invariant-loop-index l = record {
  passed : TextsPassedTo (map own_texts_of_image (named_models l.images)) l.index;
  texts : AllByRecursion (λ (image : ImageSpecModel). IfSome image.description IsText) (named_models (take l.index l.images));
}
