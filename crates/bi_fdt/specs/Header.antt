use Rattle.std.specs.Prelude.{List, [], ◌∷◌}
use Rattle.bi_blob.specs.BlobFaults.{HeaderCheck, PlacesReservations, PlacesStructure}
use Rattle.bi_blob.specs.BlobFaults.{PlacesStrings}

-- The last checks of the header: of the offsets of the three blocks (Devicetree Specification,
-- 5.2).
abbrev pub place_checks : List HeaderCheck
place_checks = PlacesReservations ∷ PlacesStructure ∷ PlacesStrings ∷ []
