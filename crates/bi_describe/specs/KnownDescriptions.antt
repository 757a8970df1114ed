use Rattle.std.specs.Prelude.{◌≡◌, ℕ, List, [], ◌∷◌, ◌++◌, codes, Some, None}
use Rattle.std.specs.FinMap.{empty, from_sorted}
use Rattle.bi_blob.specs.Tree.{none, node, Property}
use Rattle.bi_fit.specs.ImageTree.{ImageTree}
use Rattle.bi_fit.specs.Names.{images_name}
use Rattle.bi_hash.specs.declared.algo.Algo.TheVariants.{Sha256}
use Rattle.bi_hash.specs.Digests.{digest_of}
use Rattle.bi_legacy.specs.KnownImages.{firmware_image}
use Rattle.bi_norm.specs.Meaning.{OfLegacy, OfFit}
use Rattle.bi_common.specs.KnownWords.{lines}
use Rattle.bi_common.specs.ValueTexts.{hexadecimal_digits}
use Rattle.bi_describe.specs.DescriptionJson.{description_json}
use Rattle.bi_describe.specs.Descriptions.{description, description_texts}

-- The descriptions of small boot images, by which a reader can judge the definitions.

-- A root with properties of each of these forms, in byte order of their names.
abbrev pub described_properties : List Property
described_properties =
    (codes "a", codes "say \"hi\" in C:\\" ++ 0 ∷ [])
    ∷ (codes "b", [])
    ∷ (codes "c", 0 ∷ [])
    ∷ (codes "d", codes "x" ++ 0 ∷ codes "y z" ++ 0 ∷ [])
    ∷ (codes "e", codes "x\n" ++ 0 ∷ [])
    ∷ (codes "f", codes "x")
    ∷ (codes "g", codes "x" ++ 0 ∷ 0 ∷ [])
    ∷ (codes "p q/r", 0 ∷ 0 ∷ 0 ∷ 1 ∷ [])
    ∷ []

-- A tree with this root, the boot processor 1, one memory reservation, and the nodes `images` and
-- `-` without properties.
abbrev pub described_tree : ImageTree
described_tree = record {
  cpu = 1;
  reservations = record { address = 0x1000; size = 0x20 } ∷ [];
  root = record {
    own = from_sorted described_properties;
    children = node images_name empty none (node (codes "-") empty none none);
  };
  payloads = [];
}

-- The properties of an image node, of its hash node, and of a node of a configuration.
abbrev pub load_and_os : List Property
load_and_os =
    (codes "load", 0 ∷ 0 ∷ 0x80 ∷ 0 ∷ []) ∷ (codes "os", codes "linux" ++ 0 ∷ []) ∷ []

abbrev pub only_algo : List Property
only_algo = (codes "algo", codes "sha256" ++ 0 ∷ []) ∷ []

abbrev pub only_data_value : List Property
only_data_value = (codes "data", codes "q") ∷ []

-- A tree with the image `a`, whose payload is `abc` and which has a hash node and a node below
-- that, the image `b` with an empty payload, and the image `c` without one. Another node has a
-- child `images`, whose child is not an image.
abbrev pub images_tree : ImageTree
images_tree = record {
  cpu = 0;
  reservations = [];
  root = record {
    own = empty;
    children = node (codes "other") empty
        (node images_name empty (node (codes "n") (from_sorted only_data_value) none none) none)
        (node images_name empty
        (node (codes "a") (from_sorted load_and_os)
        (node (codes "hash-1") (from_sorted only_algo) (node (codes "x") empty none none) none)
        (node (codes "b") empty none (node (codes "c") empty none none)))
        (node (codes "last") empty none none));
  };
  payloads = Some (codes "abc") ∷ Some [] ∷ None ∷ [];
}

-- The digits of the SHA-256 of a payload.
abbrev pub sha256_digits : List ℕ → List ℕ
sha256_digits payload = hexadecimal_digits (digest_of Sha256 payload)

-- The descriptions of a multi-file image without parts, and of the tree with a property of each
-- form; and the lines of the descriptions of an image with two parts, whose load address is not
-- its entry point, and of the tree with three images. Then descriptions in JSON: of a multi-file
-- image without parts, of the tree with a property of each form, and of the other tree without
-- payloads.
pub record DescriptionsAreKnown : Type 0 where
  pub no_parts : description (OfLegacy (record firmware_image { image_type = 4; parts = [] }))
      ≡ lines
      (codes "kind legacy"
      ∷ codes "name firmware"
      ∷ codes "time 1"
      ∷ codes "load 0x00008000"
      ∷ codes "entry 0x00008040"
      ∷ codes "os linux"
      ∷ codes "arch arm"
      ∷ codes "type multi"
      ∷ codes "compression gzip"
      ∷ [])
  pub two_parts : description_texts
      (OfLegacy
      (record firmware_image {
        time = 1700000000;
        os = 200;
        image_type = 4;
        name = codes "two parts";
        parts = codes "hello" ∷ codes "abc" ∷ [];
      }))
      ≡ codes "kind legacy"
      ∷ codes "name two%20parts"
      ∷ codes "time 1700000000"
      ∷ codes "load 0x00008000"
      ∷ codes "entry 0x00008040"
      ∷ codes "os 200"
      ∷ codes "arch arm"
      ∷ codes "type multi"
      ∷ codes "compression gzip"
      ∷ (codes "part 0 size 5 sha256 " ++ sha256_digits (codes "hello"))
      ∷ (codes "part 1 size 3 sha256 " ++ sha256_digits (codes "abc"))
      ∷ []
  pub properties : description (OfFit described_tree)
      ≡ lines
      (codes "kind fit"
      ∷ codes "boot-cpu 1"
      ∷ codes "reservation 0x0000000000001000 0x0000000000000020"
      ∷ codes "node /"
      ∷ codes "property / a \"say \\\"hi\\\" in C:\\\\\""
      ∷ codes "property / b"
      ∷ codes "property / c 0x00"
      ∷ codes "property / d \"x\" \"y z\""
      ∷ codes "property / e 0x780a00"
      ∷ codes "property / f 0x78"
      ∷ codes "property / g 0x780000"
      ∷ codes "property / p%20q/r 0x00000001"
      ∷ codes "node /images"
      ∷ codes "node /%2D"
      ∷ [])
  pub images : description_texts (OfFit images_tree)
      ≡ codes "kind fit"
      ∷ codes "boot-cpu 0"
      ∷ codes "node /"
      ∷ codes "node /other"
      ∷ codes "node /other/images"
      ∷ codes "node /other/images/n"
      ∷ codes "property /other/images/n data 0x71"
      ∷ codes "node /images"
      ∷ codes "node /images/a"
      ∷ (codes "payload /images/a size 3 sha256 " ++ sha256_digits (codes "abc"))
      ∷ codes "property /images/a load 0x00008000"
      ∷ codes "property /images/a os \"linux\""
      ∷ codes "node /images/a/hash-1"
      ∷ codes "property /images/a/hash-1 algo \"sha256\""
      ∷ codes "node /images/a/hash-1/x"
      ∷ codes "node /images/b"
      ∷ (codes "payload /images/b size 0 sha256 " ++ sha256_digits [])
      ∷ codes "node /images/c"
      ∷ codes "payload /images/c none"
      ∷ codes "node /last"
      ∷ []
  pub no_parts_json : description_json
      (OfLegacy (record firmware_image { os = 200; image_type = 4; parts = [] }))
      ≡ codes "{\"kind\":\"legacy\",\"name\":\"firmware\",\"time\":1,\"load\":32768,"
      ++ (codes "\"entry\":32832,\"os\":200,\"arch\":\"arm\",\"type\":\"multi\","
      ++ codes "\"compression\":\"gzip\",\"parts\":[]}\n")
  pub properties_json : description_json (OfFit described_tree)
      ≡ codes "{\"kind\":\"fit\",\"boot_cpu\":1,\"reservations\":["
      ++ (codes "{\"address\":\"0x0000000000001000\",\"size\":\"0x0000000000000020\"}],"
      ++ (codes "\"root\":{\"properties\":[{\"name\":\"a\",\"strings\":["
      ++ (codes "\"say \\\"hi\\\" in C:\\\\\"]},{\"name\":\"b\",\"hex\":\"\"},"
      ++ (codes "{\"name\":\"c\",\"hex\":\"00\"},{\"name\":\"d\",\"strings\":[\"x\","
      ++ (codes "\"y z\"]},{\"name\":\"e\",\"hex\":\"780a00\"},{\"name\":\"f\","
      ++ (codes "\"hex\":\"78\"},{\"name\":\"g\",\"hex\":\"780000\"},"
      ++ (codes "{\"name\":\"p%20q/r\",\"hex\":\"00000001\"}],\"children\":["
      ++ (codes "{\"name\":\"images\",\"properties\":[],\"children\":[]},"
      ++ codes "{\"name\":\"%2D\",\"properties\":[],\"children\":[]}]}}\n"))))))))
  pub images_json : description_json
      (OfFit (record images_tree { payloads = None ∷ None ∷ None ∷ [] }))
      ≡ codes "{\"kind\":\"fit\",\"boot_cpu\":0,\"reservations\":[],"
      ++ (codes "\"root\":{\"properties\":[],\"children\":[{\"name\":\"other\","
      ++ (codes "\"properties\":[],\"children\":[{\"name\":\"images\",\"properties\":["
      ++ (codes "],\"children\":[{\"name\":\"n\",\"properties\":[{\"name\":\"data\","
      ++ (codes "\"hex\":\"71\"}],\"children\":[]}]}]},{\"name\":\"images\","
      ++ (codes "\"properties\":[],\"children\":[{\"name\":\"a\",\"payload\":null,"
      ++ (codes "\"properties\":[{\"name\":\"load\",\"hex\":\"00008000\"},"
      ++ (codes "{\"name\":\"os\",\"strings\":[\"linux\"]}],\"children\":["
      ++ (codes "{\"name\":\"hash-1\",\"properties\":[{\"name\":\"algo\",\"strings\":["
      ++ (codes "\"sha256\"]}],\"children\":[{\"name\":\"x\",\"properties\":[],"
      ++ (codes "\"children\":[]}]}]},{\"name\":\"b\",\"payload\":null,\"properties\":["
      ++ (codes "],\"children\":[]},{\"name\":\"c\",\"payload\":null,\"properties\":[],"
      ++ (codes "\"children\":[]}]},{\"name\":\"last\",\"properties\":[],\"children\":["
      ++ codes "]}]}}\n"))))))))))))
