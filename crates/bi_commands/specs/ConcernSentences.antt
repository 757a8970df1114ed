use Rattle.std.specs.Prelude.{List, ◌++◌, ℕ, codes}
use Rattle.bi_report.specs.declared.check.ConcernKind.{ConcernKind}
use Rattle.bi_report.specs.declared.check.ConcernKind.TheVariants as kind

-- What the kinds of concerns mean, in words (profile of this project).

-- What a concern of a kind means, and what a user can do.
abbrev pub sentence_of_kind : ConcernKind → List ℕ
sentence_of_kind kind.BadHash =
    codes "The verdict on a hash node is not good: it is the last word of the line. If it is "
    ++ codes "bad, the payload or the digest has changed: fetch the image again, or run update "
    ++ codes "--hashes if you changed the payload."
sentence_of_kind kind.SkippedHash =
    codes "A hash node has a property uboot-ignore that is not zero, so U-Boot does not verify "
    ++ codes "it: remove the property, unless another hash node of the image is verified and this "
    ++ codes "one must be skipped."
sentence_of_kind kind.Unhashed =
    codes "An image with a payload has no good digest that U-Boot verifies, so no error in the "
    ++ codes "payload is found: add a hash node with algo sha256 in the source, or build the "
    ++ codes "image with build-fit."
sentence_of_kind kind.WeakHash =
    codes "An image has good digests, and none of sha256, sha384 or sha512. The others find "
    ++ codes "errors of a copy, and do not stop somebody who makes another payload on purpose: "
    ++ codes "add a hash node with algo sha256 in the source."
sentence_of_kind kind.BadList =
    codes "A property of a configuration that names images is not a list of texts that each "
    ++ codes "end with a zero byte: correct it in the source."
sentence_of_kind kind.Missing =
    codes "A configuration names an image that is not there: add the image, or correct the "
    ++ codes "name. The number counts the names of the list from 0."
sentence_of_kind kind.Unsigned =
    codes "A configuration has no signature node with a value, or there is no configuration, "
    ++ codes "as in each legacy image: sign the image with mkimage -F -k. The line is there only "
    ++ codes "with --signed."
sentence_of_kind kind.NoNodes =
    codes "A signature node of a configuration has no list of names in hashed-nodes, so it "
    ++ codes "does not say which nodes were signed: sign the image again with mkimage -F -k."
sentence_of_kind kind.NoImages =
    codes "A configuration with a signature names no image that is there, so the signature "
    ++ codes "covers no payload: name the images in the configuration, and sign the image again."
sentence_of_kind kind.Uncovered =
    codes "A signature of a configuration does not cover this node, or a hash node or the node "
    ++ codes "cipher below it, so somebody can change it and the signature stays valid: sign the "
    ++ codes "image again with mkimage -F -k, and do not trust the image until then."
sentence_of_kind kind.Foreign =
    codes "A signature of a configuration covers a node that the configuration does not use. A "
    ++ codes "newer U-Boot makes the list of nodes itself, and then finds the signature wrong: "
    ++ codes "sign the image again with mkimage -F -k."
sentence_of_kind kind.Strings =
    codes "A signature of a configuration does not cover the names of all properties of its "
    ++ codes "nodes, since hashed-strings is missing or its size is too small: sign the image "
    ++ codes "again with mkimage -F -k."
sentence_of_kind kind.UnitAddress =
    codes "The name of a node has an @, and the image has a signature: U-Boot refuses such "
    ++ codes "names where it verifies signatures. Use names as kernel-1 in the source, and sign "
    ++ codes "the image again."
sentence_of_kind kind.BadDefault =
    codes "There are configurations, and default is missing or names none of them: set it to "
    ++ codes "the name of one, or give the name of a configuration to U-Boot."
sentence_of_kind kind.Trailing =
    codes "Bytes that are not all zero follow the image, and nothing protects them: cut them "
    ++ codes "off. If another image begins in them, scan finds it."
