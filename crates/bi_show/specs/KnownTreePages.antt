use Rattle.std.specs.Prelude.{ℕ, List, [], ◌∷◌, ◌++◌, true, false, codes}
use Rattle.bi_base.specs.Limits.{widest}
use Rattle.bi_common.specs.KnownWords.{lines}
use Rattle.bi_show.specs.KnownTrees.{shown_file}
use Rattle.bi_show.specs.ShownFiles.{IsPage}

-- The page of a small flattened image tree, by which a reader can judge the definitions. The time
-- is what `date -u` prints.

-- The page of this file, with these lines for its layout.
abbrev pub shown_page : (regions : List (List ℕ)) → List ℕ
shown_page regions =
    lines
    (codes "kind            flattened image tree"
    ∷ codes "description     d"
    ∷ codes "date            1970-01-01 00:00:00 UTC"
    ∷ codes "size            599 bytes"
    ∷ codes "boot processor  0"
    ∷ codes "default         c"
    ∷ []
    ∷ (codes "image  type    os     arch   compression  size  offset  load        entry       "
    ++ codes "hashes")
    ∷ (codes "a      kernel  linux  arm64  none         3     596     0x00008000  0x00008040  "
    ++ codes "crc32:good")
    ∷ []
    ∷ codes "configuration  kernel  compatible"
    ∷ codes "c              a       \"x y\""
    ∷ []
    ∷ codes "signature                    algorithm  key  verdict       covers"
    ∷ codes "/configurations/c/signature  rsa        dev  not verified  nothing"
    ∷ []
    ∷ regions ++ codes "concerns" ∷ codes "weak-hash a crc32" ∷ [])

-- The regions of this file. One zero byte is between the names and the payload.
abbrev pub shown_regions : List (List ℕ)
shown_regions =
    codes "region        offset  size"
    ∷ codes "header        0       40"
    ∷ codes "reservations  40      16"
    ∷ codes "structure     56      408"
    ∷ codes "strings       464     131"
    ∷ codes "free space    595     1"
    ∷ codes "image a       596     3"
    ∷ []
    ∷ []

-- The pages of this file, with its layout and without it.
pub record TreePagesAreKnown : Type 0 where
  pub layout : IsPage true widest shown_file (shown_page shown_regions)
  pub no_layout : IsPage false widest shown_file (shown_page [])
