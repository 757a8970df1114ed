use Rattle.std.specs.Prelude.{◌≡◌, List, [], ◌∷◌, ◌++◌, map, codes, Some, None}
use Rattle.std.specs.FinMap.{empty, from_entries}
use Rattle.bi_blob.specs.Tree.{none, node, Property}
use Rattle.bi_hash.specs.declared.verdicts.Verdict.TheVariants.{Malformed, UnknownAlgo, NoPayload}
use Rattle.bi_hash.specs.declared.verdicts.Verdict.TheVariants.{Good, Bad}
use Rattle.bi_fit.specs.declared.key.Key.TheVariants.{Kernel, Fdt, Ramdisk, Firmware, Loadables}
use Rattle.bi_fit.specs.declared.key.Key.TheVariants.{Script}
use Rattle.bi_fit.specs.Names.{images_name, configurations_name, algo_name, value_name}
use Rattle.bi_fit.specs.Names.{default_name}
use Rattle.bi_fit.specs.ImageTree.{ImageTree}
use Rattle.bi_fit.specs.Judgement.{verdicts_of, listed_of, NoConfig, NoKey, BadList}
use Rattle.bi_fit.specs.Judgement.{Missing, ListedImages, default_of, signature_count}

-- What follows from small trees about their images and configurations, by which a reader can judge
-- the definitions.

-- A configuration: its properties in no order.
abbrev pub configuration_lists : List Property
configuration_lists =
    (codes "kernel", codes "a" ++ 0 ∷ [])
    ∷ (codes "fdt", codes "a" ++ 0 ∷ codes "z" ++ 0 ∷ [])
    ∷ (codes "ramdisk", codes "a")
    ∷ (codes "firmware", 0 ∷ [])
    ∷ (codes "loadables", codes "a" ++ 0 ∷ 0 ∷ [])
    ∷ []

-- The lists of another one.
abbrev pub other_lists : List Property
other_lists = (codes "kernel", []) ∷ []

-- Which of the two is the default: neither.
abbrev pub default_list : List Property
default_list = (default_name, codes "conf-3" ++ 0 ∷ []) ∷ []

-- A tree with one image `a`, with the payload `abc`, and these two configurations. The image and
-- the first configuration have a signature each.
abbrev pub configured_tree : ImageTree
configured_tree = record {
  cpu = 0;
  reservations = [];
  root = record {
    own = empty;
    children = node images_name empty
        (node (codes "a") empty (node (codes "signature-1") empty none none) none)
        (node configurations_name (from_entries default_list)
        (node (codes "conf-1") (from_entries configuration_lists)
        (node (codes "signature") empty none none)
        (node (codes "conf-2") (from_entries other_lists) none none))
        none);
  };
  payloads = Some (codes "abc") ∷ [];
}

-- What the configurations list. One zero byte lists one empty name, and a second zero after a name
-- lists an empty name too. What does not end with a zero is not a list, and an empty value is not a
-- list.
pub record ListsAreRead : Type 0 where
  pub listed : listed_of configured_tree (codes "conf-1") Kernel
      ≡ ListedImages (record { name = codes "a"; payload = Some (codes "abc") } ∷ [])
  pub missing : listed_of configured_tree (codes "conf-1") Fdt ≡ Missing 1
  pub no_zero : listed_of configured_tree (codes "conf-1") Ramdisk ≡ BadList
  pub empty_name : listed_of configured_tree (codes "conf-1") Firmware ≡ Missing 0
  pub second_empty : listed_of configured_tree (codes "conf-1") Loadables ≡ Missing 1
  pub no_key : listed_of configured_tree (codes "conf-1") Script ≡ NoKey
  pub empty_value : listed_of configured_tree (codes "conf-2") Kernel ≡ BadList
  pub no_configuration : listed_of configured_tree (codes "conf-3") Kernel ≡ NoConfig
  pub default : default_of configured_tree ≡ Some (codes "conf-3")
  pub signatures : signature_count configured_tree ≡ 2

-- The properties of hash nodes: the CRC-32 of `abc`, three of its four bytes, an algorithm without
-- a meaning here, and no value.
abbrev pub good_crc : List Property
good_crc = (algo_name, codes "crc32" ++ 0 ∷ []) ∷ (value_name, 0x35 ∷ 0x24 ∷ 0x41 ∷ 0xc2 ∷ []) ∷ []

abbrev pub short_crc : List Property
short_crc = (algo_name, codes "crc32" ++ 0 ∷ []) ∷ (value_name, 0x35 ∷ 0x24 ∷ 0x41 ∷ []) ∷ []

abbrev pub other_crc : List Property
other_crc = (algo_name, codes "crc16-ccitt" ++ 0 ∷ []) ∷ (value_name, 0 ∷ 0 ∷ []) ∷ []

abbrev pub no_value : List Property
no_value = (algo_name, codes "crc32" ++ 0 ∷ []) ∷ []

-- A tree with an image `a`, with the payload `abc`, and an image `b` without a payload. Names that
-- begin with `hash` are those of hash nodes.
abbrev pub hashed_tree : ImageTree
hashed_tree = record {
  cpu = 0;
  reservations = [];
  root = record {
    own = empty;
    children = node images_name empty
        (node (codes "a") empty
        (node (codes "hash-1") (from_entries good_crc) none
        (node (codes "hash") (from_entries short_crc) none
        (node (codes "other") (from_entries good_crc) none
        (node (codes "hash@3") (from_entries other_crc) none
        (node (codes "hash-4") (from_entries no_value) none none)))))
        (node (codes "b") empty (node (codes "hash-1") (from_entries good_crc) none none) none))
        none;
  };
  payloads = Some (codes "abc") ∷ None ∷ [];
}

-- Their verdicts, in order.
abbrev pub HashesAreJudged : Type 0
HashesAreJudged =
    map (λ hash. hash.verdict) (verdicts_of hashed_tree)
    ≡ Good ∷ Bad ∷ UnknownAlgo ∷ Malformed ∷ NoPayload ∷ []
