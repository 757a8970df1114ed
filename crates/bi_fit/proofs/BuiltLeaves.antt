use Rattle.std.proofs.Common.{◌≡◌, ℕ, zero, suc, ◌+◌, ◌<◌, ◌≤◌, List, [], ◌∷◌, ◌++◌, map, take, drop, get_or, length, refl, sym, ap, ap₂}
use Rattle.std.proofs.Common.{◌∙◌, rules}
use Rattle.std.proofs.Common.{append_assoc, arith}
use Rattle.std.specs.FinMap.{from_entries}
use Rattle.std.proofs.Math.Seq.{take-append_seam, drop-append_seam}
use Rattle.std.proofs.lemmas.List.{take_more, at_drop_more, map-append, length-map, length-append, length-take, get_or-map}
use Rattle.bi_blob.specs.Tree.{PropertyMap}
use Rattle.bi_hash.specs.declared.algo.Algo.{Algo}
use Rattle.bi_hash.specs.Digests.{digest_of, digest_size}
use Rattle.bi_hash.proofs.DigestBytes.{length-digest_of}
use Rattle.bi_fit.specs.declared.building.ConfigurationSpec.{ConfigurationSpec}
use Rattle.bi_fit.specs.declared.document.nodes.Leaf.{Leaf}
use Rattle.bi_fit.specs.Building.{HeadModel, built_hash_properties, hash_node_name, built_configuration_properties}
use Rattle.bi_fit.specs.BuiltNodes.{built_digests, hash_node_names, built_hash_leaves, built_configuration_leaves}
use Rattle.bi_fit.specs.Leaves.{leaf_model}
use Rattle.bi_fit.specs.NamedImages.{configuration_spec_model, configuration_spec_models}

-- The hash nodes of an image and the configurations are made one after the other.

-- The names of hash nodes and of one more.
names_one_more : (number : ℕ) (algorithms : List Algo) (algo : Algo) →
    hash_node_names number (algorithms ++ algo ∷ [])
    ≡ hash_node_names number algorithms ++ hash_node_name (length algorithms + number) ∷ []
names_one_more number [] algo = search rules
names_one_more number (first ∷ later) algo = search (rules, names_one_more (number + 1) later algo)

pub hash_node_names_more : (algorithms : List Algo) (index : ℕ) (d : Algo) → index < length algorithms →
    hash_node_names 1 (take (index + 1) algorithms) ≡ hash_node_names 1 (take index algorithms) ++ hash_node_name (index + 1) ∷ []
hash_node_names_more algorithms index d within =
    let same : length (take index algorithms) + 1 ≡ index + 1 = omega (arith, length-take index algorithms, within) in
    ap (hash_node_names 1) (take_more algorithms index d within)
    ∙ names_one_more 1 (take index algorithms) (get_or algorithms index d)
    ∙ ap (λ n. hash_node_names 1 (take index algorithms) ++ hash_node_name n ∷ []) same

-- There are as many as algorithms,
length-hash_node_names : (number : ℕ) (algorithms : List Algo) → length (hash_node_names number algorithms) ≡ length algorithms
length-hash_node_names number [] = refl
length-hash_node_names number (algo ∷ later) = ap suc (length-hash_node_names (number + 1) later)

-- and at an index is the name with the next number.
name_at : (number : ℕ) (algorithms : List Algo) (index : ℕ) → index < length algorithms →
    get_or (hash_node_names number algorithms) index [] ≡ hash_node_name (index + number)
name_at number [] index within = absurd (omega (arith, within))
name_at number (algo ∷ later) zero within = let same : number ≡ 0 + number = omega arith in ap hash_node_name same
name_at number (algo ∷ later) (suc index) within = search (rules, name_at (number + 1) later index (omega (arith, within)))

-- The same where the names are the bytes of texts.
pub hash_names_within : {S : Type 0} (bytes : S → List ℕ) (texts : List S) (algorithms : List Algo) (index : ℕ) →
    map bytes texts ≡ hash_node_names 1 algorithms → index < length algorithms → index < length texts
hash_names_within bytes texts algorithms index same within =
    omega (arith, ap length same, length-map texts bytes, length-hash_node_names 1 algorithms, within)

pub hash_name_at : {S : Type 0} (bytes : S → List ℕ) (texts : List S) (algorithms : List Algo) (index : ℕ) (text : S) →
    map bytes texts ≡ hash_node_names 1 algorithms → index < length algorithms → text ≡ get_or texts index text →
    bytes text ≡ hash_node_name (index + 1)
hash_name_at bytes texts algorithms index text same within is =
    ap bytes is
    ∙ sym (get_or-map bytes texts index text [] (hash_names_within bytes texts algorithms index same within))
    ∙ ap (λ l. get_or l index []) same
    ∙ name_at 1 algorithms index within

-- Digests that are left begin with that of the next algorithm.
pub digests_from : (algorithms : List Algo) (index : ℕ) (d : Algo) (payload : List ℕ) → index < length algorithms →
    built_digests (drop index algorithms) payload
    ≡ digest_of (get_or algorithms index d) payload ++ built_digests (drop (index + 1) algorithms) payload
digests_from algorithms index d payload within = at_drop_more (λ l. built_digests l payload) algorithms index d within

pub has_next_digest : (algo : Algo) (payload rest left : List ℕ) → left ≡ digest_of algo payload ++ rest → digest_size algo ≤ length left
has_next_digest algo payload rest left is =
    omega (arith, ap length is, length-append (digest_of algo payload) rest, length-digest_of algo payload)

-- Cut at the size of a digest, they are it and the rest.
pub next_digest : (algo : Algo) (payload rest left : List ℕ) (size : ℕ) → left ≡ digest_of algo payload ++ rest → size ≡ digest_size algo →
    take size left ≡ digest_of algo payload
next_digest algo payload rest left size is same =
    ap₂ take (same ∙ sym (length-digest_of algo payload)) is ∙ take-append_seam (digest_of algo payload) rest

pub digests_after : (algo : Algo) (payload rest left : List ℕ) (size : ℕ) → left ≡ digest_of algo payload ++ rest →
    size ≡ digest_size algo → drop size left ≡ rest
digests_after algo payload rest left size is same =
    ap₂ drop (same ∙ sym (length-digest_of algo payload)) is ∙ drop-append_seam (digest_of algo payload) rest

-- The hash nodes and one more, and those that are left, are all.
pub hash_leaves_more : (algorithms : List Algo) (index : ℕ) (d : Algo) (payload : List ℕ) → index < length algorithms →
    (leaves more : List Leaf) (next : Leaf) → more ≡ leaves ++ next ∷ [] → next.name.now ≡ hash_node_name (index + 1) →
    next.properties.by_name
    ≡ from_entries (built_hash_properties (get_or algorithms index d) (digest_of (get_or algorithms index d) payload)) →
    map leaf_model leaves ++ built_hash_leaves (index + 1) (drop index algorithms) payload ≡ built_hash_leaves 1 algorithms payload →
    map leaf_model more ++ built_hash_leaves (index + 1 + 1) (drop (index + 1) algorithms) payload ≡ built_hash_leaves 1 algorithms payload
hash_leaves_more algorithms index d payload within leaves more next is named has all =
    let rest = built_hash_leaves (index + 1 + 1) (drop (index + 1) algorithms) payload in
    ap (λ l. map leaf_model l ++ rest) is
    ∙ ap (λ l. l ++ rest) (map-append leaf_model leaves (next ∷ []))
    ∙ append_assoc (map leaf_model leaves) (leaf_model next ∷ []) rest
    ∙ ap₂ (λ name (properties : PropertyMap). map leaf_model leaves ++ ((name, properties) ∷ rest)) named has
    ∙ sym (ap (λ l. map leaf_model leaves ++ l)
    (at_drop_more (λ l. built_hash_leaves (index + 1) l payload) algorithms index d within))
    ∙ all

-- The configurations and one more.
pub configuration_leaves_more : (head : HeadModel) (configurations : List ConfigurationSpec) (index : ℕ) (d : ConfigurationSpec) →
    index < length configurations → (leaves more : List Leaf) (next : Leaf) → more ≡ leaves ++ next ∷ [] →
    next.name.now ≡ (get_or configurations index d).name.now →
    next.properties.by_name
    ≡ from_entries (built_configuration_properties head (configuration_spec_model (get_or configurations index d))) →
    map leaf_model leaves ≡ built_configuration_leaves head (configuration_spec_models (take index configurations)) →
    map leaf_model more ≡ built_configuration_leaves head (configuration_spec_models (take (index + 1) configurations))
configuration_leaves_more head configurations index d within leaves more next is named has all =
    let configuration = get_or configurations index d in
    let models = configuration_spec_models (take index configurations) in
    ap (map leaf_model) is
    ∙ map-append leaf_model leaves (next ∷ [])
    ∙ ap₂ (λ l leaf. l ++ leaf ∷ []) all (ap₂ (λ name (properties : PropertyMap). (name, properties)) named has)
    ∙ sym (ap (λ l. built_configuration_leaves head (configuration_spec_models l)) (take_more configurations index d within)
    ∙ ap (built_configuration_leaves head)
    (map-append configuration_spec_model (take index configurations) (configuration ∷ []))
    ∙ map-append _ models (configuration_spec_model configuration ∷ []))
