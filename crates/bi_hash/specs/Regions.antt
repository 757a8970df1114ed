use Rattle.std.specs.Prelude.{ℕ, ◌+◌, ◌≤◌, List, length}
use Rattle.bi_base.specs.Cells.{slice}
use Rattle.bi_hash.specs.declared.region_digests.Region.{Region}

-- Regions of a file.

-- The region is one of a file: it ends no later than the file.
abbrev pub IsRegionOf : List ℕ → Region → Type 0
IsRegionOf file region = region.begin + region.length ≤ length file

-- The bytes of a region.
abbrev pub bytes_of_region : List ℕ → Region → List ℕ
bytes_of_region file region = slice file region.begin region.length
