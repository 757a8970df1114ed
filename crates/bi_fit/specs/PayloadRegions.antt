use Rattle.std.specs.Prelude.{◌≡◌, ℕ, List, Option, IfSome, option_map}
use Rattle.bi_hash.specs.declared.region_digests.Region.{Region}
use Rattle.bi_hash.specs.Regions.{IsRegionOf, bytes_of_region}

-- The regions of a file that are payloads.

-- The bytes of a region of the file are the payload, or there is neither.
pub record IsRegionOfPayload (file : List ℕ) (payload : Option (List ℕ)) (region : Option Region)
    : Type 0 where
  pub within : IfSome region (IsRegionOf file)
  pub bytes : option_map (bytes_of_region file) region ≡ payload
