use Rattle.std.specs.Prelude.{List, ◌++◌, ℕ, codes}
use Rattle.bi_base.specs.declared.fault.Cause.{Cause}
use Rattle.bi_base.specs.declared.fault.Cause.TheVariants.{Truncated, BadMagic, BadHeaderCrc}
use Rattle.bi_base.specs.declared.fault.Cause.TheVariants.{BadDataCrc, BadPartTable, BadPart}
use Rattle.bi_base.specs.declared.fault.Cause.TheVariants.{BadTotalSize, BadVersion, BadOffset}
use Rattle.bi_base.specs.declared.fault.Cause.TheVariants.{BadToken, BadName, BadNameOffset}
use Rattle.bi_base.specs.declared.fault.Cause.TheVariants.{PropertyAfterChild, DuplicateProperty}
use Rattle.bi_base.specs.declared.fault.Cause.TheVariants.{DuplicateNode, TooDeep, NoImages}
use Rattle.bi_base.specs.declared.fault.Cause.TheVariants.{BadCell, NoSize, OutsideFile, TooLarge}
use Rattle.bi_base.specs.declared.fault.Cause.TheVariants.{NoCodeName, TooManyParts, EmptyPart}
use Rattle.bi_base.specs.declared.fault.Cause.TheVariants.{BadField, Unsupported}

-- What the causes of refusals mean, in words (profile of this project).

-- What a cause means, and what a user can do.
abbrev pub sentence_of : Cause → List ℕ
sentence_of Truncated =
    codes "The file ends before something that it must hold, for example before the end of the "
    ++ codes "data of a legacy image: copy it again, as a whole."
sentence_of BadMagic =
    codes "The file is not of a kind that the command reads: decompress it if it is compressed, "
    ++ codes "or remove what is before the image. convert reads only legacy images."
sentence_of BadHeaderCrc =
    codes "The header checksum of a legacy image is wrong: fetch the image again, or build it "
    ++ codes "again after a change of its fields."
sentence_of BadDataCrc =
    codes "The data checksum of a legacy image is wrong: fetch the image again."
sentence_of BadPartTable =
    codes "The list of sizes of a multi-file image or a script has no end: build the image "
    ++ codes "with data, not with -s of mkimage."
sentence_of BadPart =
    codes "A part ends after the data of the image, as in images built with -x of mkimage: "
    ++ codes "build it again without -x. If build-legacy or build-fit says so, the given lengths "
    ++ codes "are not those of the input: give the length of each part, so that together they are "
    ++ codes "the whole input."
sentence_of BadTotalSize =
    codes "A devicetree blob says that it is shorter than its header: build it again with dtc."
sentence_of BadVersion =
    codes "A devicetree blob is older than version 16, or asks for a reader that is newer than "
    ++ codes "version 17: write it as version 17 with dtc."
sentence_of BadOffset =
    codes "A block of a devicetree blob is in a place where it may not be: build the blob "
    ++ codes "again."
sentence_of BadToken =
    codes "The structure of a devicetree blob has an unknown token, or one in a wrong place: "
    ++ codes "build the blob again."
sentence_of BadName =
    codes "A node or a property of a devicetree blob has a name that it may not have, such as "
    ++ codes "an empty one: rename it in the source."
sentence_of BadNameOffset =
    codes "The name of a property is outside the strings of the devicetree blob: build the "
    ++ codes "blob again."
sentence_of PropertyAfterChild =
    codes "A property comes after a child of its node: build the blob again with dtc, which "
    ++ codes "writes properties first."
sentence_of DuplicateProperty =
    codes "A node has two properties of the same name: remove one from the source."
sentence_of DuplicateNode =
    codes "A node has two children of the same name, or two images of build-fit have the same "
    ++ codes "name, and the offset is then the number of the second, counted from 0: rename one of "
    ++ codes "them."
sentence_of TooDeep =
    codes "More than 64 nodes are inside one another: no real image is that deep, so treat the "
    ++ codes "file as hostile."
sentence_of NoImages =
    codes "The blob is a plain devicetree and not a FIT, since its root has no node 'images': "
    ++ codes "read it with dtc."
sentence_of BadCell =
    codes "A property that gives the place or size of a payload is not a number of four bytes: "
    ++ codes "correct it in the source."
sentence_of NoSize =
    codes "An image has the offset of its payload but not its size: add 'data-size' to it."
sentence_of OutsideFile =
    codes "A payload ends after the end of the file: copy the whole file, not only the tree "
    ++ codes "before the payloads. If nothing is missing, mkimage -F was probably run without -E "
    ++ codes "on a FIT with payloads after the blob: build it again, and run mkimage -F with -E."
sentence_of TooLarge =
    codes "The file, the image or description that would be written, the payloads together "
    ++ codes "(describe, show, check, compare, update --hashes) or the sizes that headers name "
    ++ codes "together (scan) are longer than --limit, which is the offset: give a greater limit "
    ++ codes "if you trust the file. If the file is too long, cut a part out of it: scan finds the "
    ++ codes "images in that part, and --offset reads one of them."
sentence_of NoCodeName =
    codes "A FIT stores names, and this code has none: the offset is that of the code in the "
    ++ codes "header for convert, and the number of the image, counted from 0, for build-fit. Give "
    ++ codes "a code that has a name."
sentence_of TooManyParts =
    codes "A multi-file image of more than three parts, or a script of more than one, cannot "
    ++ codes "be converted: extract the parts, and build a tree of them."
sentence_of EmptyPart =
    codes "A part is empty, which ends the list of sizes, or the image to be converted has no "
    ++ codes "part: leave the part out. The offset is in the image."
sentence_of BadField =
    codes "A field cannot be written as it is given: a name of more than 32 bytes (32), "
    ++ codes "several parts for a type that has one (30), or, with the number of the image, a bad "
    ++ codes "name or the type multi in build-fit: give another value."
sentence_of Unsupported =
    codes "Reserved: no command of this version reports it."
