use Rattle.std.specs.Prelude.{ℕ, List, Option, None, Some}
use Rattle.std.specs.List.{AllByRecursion-prop}
use Rattle.std.proofs.Props.{props}
use Rattle.bi_fit.specs.Content.{AreAtTheirPlaces, ImageModel, IsAtItsPlace, offset_of_place}
use Rattle.bi_fit.specs.Payloads.{IsAtPlace}

-- That the payloads of images are at their places has at most one proof.

IsAtPlace-prop : (file : List ℕ) (place : Option ℕ) (payload : Option (List ℕ))
    → IsProp (IsAtPlace file place payload)
IsAtPlace-prop file None None = Prim.hlevel props
IsAtPlace-prop file None (Some payload) = Prim.hlevel props
IsAtPlace-prop file (Some place) None = Prim.hlevel props
IsAtPlace-prop file (Some place) (Some payload) = Prim.hlevel props

pub places-prop : (file : List ℕ) (images : List ImageModel)
    → IsProp (AreAtTheirPlaces file images)
places-prop file images =
    AllByRecursion-prop (IsAtItsPlace file)
    (λ image. IsAtPlace-prop file (offset_of_place image.place) image.payload) images
