use Rattle.std.specs.Prelude.{◌≡◌, List, [], ◌∷◌, map, codes}
use Rattle.bi_base.specs.Causes.{number_of, name_of}
use Rattle.bi_base.specs.declared.fault.Cause.{Cause}
use Rattle.bi_base.specs.declared.fault.Cause.TheVariants.{Truncated, BadMagic, BadHeaderCrc}
use Rattle.bi_base.specs.declared.fault.Cause.TheVariants.{BadDataCrc, BadPartTable, BadPart}
use Rattle.bi_base.specs.declared.fault.Cause.TheVariants.{BadTotalSize, BadVersion, BadOffset}
use Rattle.bi_base.specs.declared.fault.Cause.TheVariants.{BadToken, BadName, BadNameOffset}
use Rattle.bi_base.specs.declared.fault.Cause.TheVariants.{PropertyAfterChild, DuplicateProperty}
use Rattle.bi_base.specs.declared.fault.Cause.TheVariants.{DuplicateNode, TooDeep, NoImages}
use Rattle.bi_base.specs.declared.fault.Cause.TheVariants.{BadCell, NoSize, OutsideFile, TooLarge}
use Rattle.bi_base.specs.declared.fault.Cause.TheVariants.{NoCodeName, TooManyParts, EmptyPart}
use Rattle.bi_base.specs.declared.fault.Cause.TheVariants.{BadField, Unsupported}

-- The causes with their numbers and names, by which a reader can judge the definitions.

-- Each cause, in the order of their numbers.
abbrev pub each_cause : List Cause
each_cause =
    Truncated ∷ BadMagic ∷ BadHeaderCrc ∷ BadDataCrc ∷ BadPartTable ∷ BadPart ∷ BadTotalSize
    ∷ BadVersion ∷ BadOffset ∷ BadToken ∷ BadName ∷ BadNameOffset ∷ PropertyAfterChild
    ∷ DuplicateProperty ∷ DuplicateNode ∷ TooDeep ∷ NoImages ∷ BadCell ∷ NoSize ∷ OutsideFile
    ∷ TooLarge ∷ NoCodeName ∷ TooManyParts ∷ EmptyPart ∷ BadField ∷ Unsupported ∷ []

-- Their numbers are 1 to 26, and each has the name that the program prints.
pub record CausesAreKnown : Type 0 where
  pub numbers : map number_of each_cause
      ≡ 1 ∷ 2 ∷ 3 ∷ 4 ∷ 5 ∷ 6 ∷ 7 ∷ 8 ∷ 9 ∷ 10 ∷ 11 ∷ 12 ∷ 13 ∷ 14 ∷ 15 ∷ 16 ∷ 17 ∷ 18 ∷ 19
      ∷ 20 ∷ 21 ∷ 22 ∷ 23 ∷ 24 ∷ 25 ∷ 26 ∷ []
  pub names : map name_of each_cause
      ≡ codes "Truncated" ∷ codes "BadMagic" ∷ codes "BadHeaderCrc" ∷ codes "BadDataCrc"
      ∷ codes "BadPartTable" ∷ codes "BadPart" ∷ codes "BadTotalSize" ∷ codes "BadVersion"
      ∷ codes "BadOffset" ∷ codes "BadToken" ∷ codes "BadName" ∷ codes "BadNameOffset"
      ∷ codes "PropertyAfterChild" ∷ codes "DuplicateProperty" ∷ codes "DuplicateNode"
      ∷ codes "TooDeep" ∷ codes "NoImages" ∷ codes "BadCell" ∷ codes "NoSize"
      ∷ codes "OutsideFile" ∷ codes "TooLarge" ∷ codes "NoCodeName" ∷ codes "TooManyParts"
      ∷ codes "EmptyPart" ∷ codes "BadField" ∷ codes "Unsupported" ∷ []
