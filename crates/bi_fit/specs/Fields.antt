use Rattle.std.specs.Prelude.{map}
use Rattle.bi_fit.specs.declared.fit.Fit.TheInside.{Inside as Fields}
use Rattle.bi_fit.specs.Content.{FitModel, image_model, IsHeld, HasIndices, HasImagesAt}
use Rattle.bi_fit.specs.Content.{IsImagesPosition}

-- What the fields of a flattened image tree that was read hold, and what is true of them.

-- What the fields hold.
abbrev pub fit_model : Fields → FitModel
fit_model fit = record { blob = fit.blob; images = map image_model fit.images.items }

-- What is true of the fields.
pub record IsConsistentFit (fit : Fields) : Type 0 where
  pub held : IsHeld (fit_model fit)
  pub indices : HasIndices fit.indices (fit_model fit).images
  pub images_at : HasImagesAt fit.blob fit.images_index
  pub position : IsImagesPosition fit.blob fit.images_position
