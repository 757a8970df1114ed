use Rattle.std.specs.Prelude.{ℕ, List, codes}
use Rattle.bi_base.specs.declared.fault.Cause.{Cause}
use Rattle.bi_base.specs.declared.fault.Cause.TheVariants.{Truncated, BadMagic, BadHeaderCrc}
use Rattle.bi_base.specs.declared.fault.Cause.TheVariants.{BadDataCrc, BadPartTable, BadPart}
use Rattle.bi_base.specs.declared.fault.Cause.TheVariants.{BadTotalSize, BadVersion, BadOffset}
use Rattle.bi_base.specs.declared.fault.Cause.TheVariants.{BadToken, BadName, BadNameOffset}
use Rattle.bi_base.specs.declared.fault.Cause.TheVariants.{PropertyAfterChild, DuplicateProperty}
use Rattle.bi_base.specs.declared.fault.Cause.TheVariants.{DuplicateNode, TooDeep, NoImages}
use Rattle.bi_base.specs.declared.fault.Cause.TheVariants.{BadCell, NoSize, OutsideFile, TooLarge}
use Rattle.bi_base.specs.declared.fault.Cause.TheVariants.{NoCodeName, TooManyParts, EmptyPart}
use Rattle.bi_base.specs.declared.fault.Cause.TheVariants.{BadField, Unsupported}

-- The number of a cause, by which other programs may name it (profile of this project).
abbrev pub number_of : Cause → ℕ
number_of Truncated = 1
number_of BadMagic = 2
number_of BadHeaderCrc = 3
number_of BadDataCrc = 4
number_of BadPartTable = 5
number_of BadPart = 6
number_of BadTotalSize = 7
number_of BadVersion = 8
number_of BadOffset = 9
number_of BadToken = 10
number_of BadName = 11
number_of BadNameOffset = 12
number_of PropertyAfterChild = 13
number_of DuplicateProperty = 14
number_of DuplicateNode = 15
number_of TooDeep = 16
number_of NoImages = 17
number_of BadCell = 18
number_of NoSize = 19
number_of OutsideFile = 20
number_of TooLarge = 21
number_of NoCodeName = 22
number_of TooManyParts = 23
number_of EmptyPart = 24
number_of BadField = 25
number_of Unsupported = 26

-- The name of a cause, as the program prints it (profile of this project).
abbrev pub name_of : Cause → List ℕ
name_of Truncated = codes "Truncated"
name_of BadMagic = codes "BadMagic"
name_of BadHeaderCrc = codes "BadHeaderCrc"
name_of BadDataCrc = codes "BadDataCrc"
name_of BadPartTable = codes "BadPartTable"
name_of BadPart = codes "BadPart"
name_of BadTotalSize = codes "BadTotalSize"
name_of BadVersion = codes "BadVersion"
name_of BadOffset = codes "BadOffset"
name_of BadToken = codes "BadToken"
name_of BadName = codes "BadName"
name_of BadNameOffset = codes "BadNameOffset"
name_of PropertyAfterChild = codes "PropertyAfterChild"
name_of DuplicateProperty = codes "DuplicateProperty"
name_of DuplicateNode = codes "DuplicateNode"
name_of TooDeep = codes "TooDeep"
name_of NoImages = codes "NoImages"
name_of BadCell = codes "BadCell"
name_of NoSize = codes "NoSize"
name_of OutsideFile = codes "OutsideFile"
name_of TooLarge = codes "TooLarge"
name_of NoCodeName = codes "NoCodeName"
name_of TooManyParts = codes "TooManyParts"
name_of EmptyPart = codes "EmptyPart"
name_of BadField = codes "BadField"
name_of Unsupported = codes "Unsupported"
