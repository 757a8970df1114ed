use Rattle.std.proofs.Common.{◌≡◌, ℕ, ◌+◌, List, [], ◌∷◌, ◌++◌, map, filter, flat_map, Some, refl, ap, arith, rules}
use Rattle.std.specs.FinMap.{get, from_entries, get-from_entries}
use Rattle.std.proofs.lemmas.Cmp.{nat_list_cmp_total}
use Rattle.bi_base.specs.Strings.{text_before_nul}
use Rattle.bi_blob.specs.Tree.{Nodes, PropertyMap}
use Rattle.bi_blob.specs.Lookups.{siblings}
use Rattle.bi_hash.specs.declared.algo.Algo.{Algo}
use Rattle.bi_hash.specs.declared.verdicts.Verdict.TheVariants.{Good}
use Rattle.bi_hash.specs.Algos.{algorithm_name}
use Rattle.bi_hash.specs.Digests.{digest_of}
use Rattle.bi_hash.specs.Verdicts.{verdict_of}
use Rattle.bi_hash.proofs.GoodValues.{good-from_digest}
use Rattle.bi_fit.specs.Names.{algo_name, value_name, is_hash_name}
use Rattle.bi_fit.specs.Judgement.{Image, CheckedHash, images_with, checked_hash, hash_nodes}
use Rattle.bi_fit.specs.Building.{HeadModel, ImageSpecModel, text_value, built_hash_properties, hash_node_name}
use Rattle.bi_fit.specs.Building.{built_hash_nodes, built_images, built_tree}
use Rattle.bi_fit.specs.Laws.{BuiltIsAccepted, good_hashes, BuiltHasGoodPayloads}
use Rattle.bi_fit.proofs.TextLaws.{fit_text_is_accepted}
use Rattle.bi_fit.proofs.BuiltTrees.{built_is_image_tree, depth-built, algorithm_text, text_before_nul-text_value}

-- What is built is accepted, and its verdicts are Good.

pub built_is_accepted : BuiltIsAccepted
built_is_accepted bounds form head plan images can is deep fits short =
    fit_text_is_accepted bounds form (built_tree head plan images) (built_is_image_tree head plan images can is)
    (omega (arith, depth-built head plan images, deep)) fits short

-- The properties of a hash node by their names.
abbrev hash_by_name : Algo → List ℕ → PropertyMap
hash_by_name algo payload = from_entries (built_hash_properties algo (digest_of algo payload))

algo_is : (algo : Algo) (payload : List ℕ) → get (hash_by_name algo payload) algo_name ≡ Some (text_value (algorithm_name algo))
algo_is algo payload = get-from_entries nat_list_cmp_total (built_hash_properties algo (digest_of algo payload)) algo_name

value_is : (algo : Algo) (payload : List ℕ) → get (hash_by_name algo payload) value_name ≡ Some (digest_of algo payload)
value_is algo payload = get-from_entries nat_list_cmp_total (built_hash_properties algo (digest_of algo payload)) value_name

-- Its text is the name of the algorithm.
named : (algo : Algo) → text_before_nul (text_value (algorithm_name algo)) ≡ Some (algorithm_name algo)
named algo = text_before_nul-text_value (algorithm_name algo) (algorithm_text algo).1

-- The verdict on it is Good.
verdict_is : (algo : Algo) (payload : List ℕ) →
    verdict_of (Some (text_value (algorithm_name algo))) (Some (digest_of algo payload)) (Some payload) ≡ Good
verdict_is algo payload = search (rules, good-from_digest, algo_is, value_is)

-- An image of a built tree.
abbrev built_image : ImageSpecModel → PropertyMap → (children later : Nodes PropertyMap) → Image
built_image image own children later = record {
  entry = record { name = image.name; own = own; children = children; later = later };
  payload = Some image.payload;
}

-- Its hash nodes, with their verdicts.
hashes_of : (image : ImageSpecModel) (own : PropertyMap) (children later : Nodes PropertyMap) (number : ℕ) (algorithms : List Algo) →
    map (checked_hash (built_image image own children later))
    (filter (λ child. is_hash_name child.name) (siblings (built_hash_nodes number algorithms image.payload)))
    ≡ good_hashes number algorithms image
hashes_of image own children later number [] = refl
hashes_of image own children later number (algo ∷ rest) =
    let good : CheckedHash = record {
      image = image.name;
      node_name = hash_node_name number;
      algo = Some (algorithm_name algo);
      value = Some (digest_of algo image.payload);
      verdict = Good;
    } in
    rw (algo_is algo image.payload, value_is algo image.payload, verdict_is algo image.payload, named algo)
    (ap (λ l. good ∷ l) (hashes_of image own children later (number + 1) rest))

-- The hash nodes of images, with their verdicts.
hashes_each : (head : HeadModel) (algorithms : List Algo) (images : List ImageSpecModel) →
    map (λ image. map (checked_hash image) (hash_nodes image))
    (images_with (siblings (built_images head algorithms images)) (map (λ image. Some image.payload) images))
    ≡ map (good_hashes 1 algorithms) images
hashes_each head algorithms [] = refl
hashes_each head algorithms (image ∷ later) = search (rules, hashes_of, hashes_each head algorithms later)

-- Lists one after the other, with each made by another function.
flat_map-map : {X : Type 0} (f : X → List CheckedHash) (xs : List X) → flat_map f xs ≡ flat_map (λ l. l) (map f xs)
flat_map-map f [] = refl
flat_map-map f (x ∷ later) = ap (λ l. f x ++ l) (flat_map-map f later)

pub built_has_good_payloads : BuiltHasGoodPayloads
built_has_good_payloads head plan images = search (rules, hashes_each, flat_map-map)
