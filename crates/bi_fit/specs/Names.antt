use Rattle.std.specs.Prelude.{ℕ, Bool, List, [], ◌∷◌, codes, bytes_eq, nat_eq}
use Rattle.std.specs.List.{list_any, starts_with}
use Rattle.bi_fit.specs.declared.key.Key.{Key}
use Rattle.bi_fit.specs.declared.key.Key.TheVariants.{Kernel, Fdt, Ramdisk, Firmware, Loadables}
use Rattle.bi_fit.specs.declared.key.Key.TheVariants.{Script}

-- The names of nodes and properties in a flattened image tree (Flattened Image Tree Specification;
-- U-Boot, include/image.h: FIT_*_PROP, FIT_*_PATH).

-- The child of the root that has the image nodes as children, and the one that has the
-- configuration nodes.
abbrev pub images_name : List ℕ
images_name = codes "images"

abbrev pub configurations_name : List ℕ
configurations_name = codes "configurations"

-- The properties of an image node that hold its payload or name a region of the file.
abbrev pub data_name : List ℕ
data_name = codes "data"

abbrev pub data_offset_name : List ℕ
data_offset_name = codes "data-offset"

abbrev pub data_position_name : List ℕ
data_position_name = codes "data-position"

abbrev pub data_size_name : List ℕ
data_size_name = codes "data-size"

-- All four of them.
abbrev pub payload_names : List (List ℕ)
payload_names = data_name ∷ data_offset_name ∷ data_position_name ∷ data_size_name ∷ []

-- Whether this is one of the four.
abbrev pub is_payload_name : List ℕ → Bool
is_payload_name name = list_any (bytes_eq name) payload_names

-- The properties of a hash node.
abbrev pub algo_name : List ℕ
algo_name = codes "algo"

abbrev pub value_name : List ℕ
value_name = codes "value"

-- The property of the root that has the time of creation.
abbrev pub timestamp_name : List ℕ
timestamp_name = codes "timestamp"

-- The property of `/configurations` that names the default configuration.
abbrev pub default_name : List ℕ
default_name = codes "default"

-- Whether a child of an image node is a hash node: its name begins with `hash`.
abbrev pub is_hash_name : List ℕ → Bool
is_hash_name name = starts_with nat_eq name (codes "hash")

-- Whether a child of an image node or of a configuration node is a signature node: its name begins
-- with `signature`.
abbrev pub is_signature_name : List ℕ → Bool
is_signature_name name = starts_with nat_eq name (codes "signature")

-- The property of a configuration node that lists images under a key. Other properties that list
-- images are not looked at (profile).
abbrev pub key_name : Key → List ℕ
key_name Kernel = codes "kernel"
key_name Fdt = codes "fdt"
key_name Ramdisk = codes "ramdisk"
key_name Firmware = codes "firmware"
key_name Loadables = codes "loadables"
key_name Script = codes "script"

-- The keys in their order (profile of this project).
abbrev pub all_keys : List Key
all_keys = Kernel ∷ Fdt ∷ Ramdisk ∷ Firmware ∷ Loadables ∷ Script ∷ []
