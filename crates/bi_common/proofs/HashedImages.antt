use Rattle.std.proofs.Common.{◌≡◌, ℕ, true, false, List, ◌∷◌, map, filter, Option, refl, sym, ap, ◌∙◌}
use Rattle.std.proofs.lemmas.Simd.{map-map}
use Rattle.bi_blob.specs.Lookups.{Sibling}
use Rattle.bi_blob.specs.Tree.{FileNode}
use Rattle.bi_fit.specs.HashNodes.{file_hash, file_hashes}
use Rattle.bi_fit.specs.Judgement.{CheckedHash}
use Rattle.bi_fit.specs.Names.{is_hash_name}
use Rattle.bi_common.specs.HashedImages.{FoundHash, found_hashes}

-- The images that are left of a file, each with its hash nodes.

-- The verdicts on the hash nodes that were found.
pub verdicts_of_found : (image : List ℕ) (payload : Option (List ℕ)) (children : List (Sibling FileNode)) →
    map (λ hash. hash.checked) (found_hashes image payload children) ≡ file_hashes image payload children
verdicts_of_found image payload children =
    map-map (λ (hash : FoundHash). hash.checked) (λ hash. record { node = hash; checked = file_hash image payload hash })
    (filter (λ child. is_hash_name child.name) children)

-- The hash nodes that are left, after a node that is none,
pub hashes_after_another : (first : Sibling FileNode) (left later : List (Sibling FileNode)) → left ≡ first ∷ later →
    is_hash_name first.name ≡ false →
    filter (λ child. is_hash_name child.name) later ≡ filter (λ child. is_hash_name child.name) left
hashes_after_another first left later is other = sym (ap (filter (λ child. is_hash_name child.name)) is ∙ rw other refl)

-- and from a hash node on.
pub hashes_from_first : (first : Sibling FileNode) (left later : List (Sibling FileNode)) → left ≡ first ∷ later →
    is_hash_name first.name ≡ true →
    filter (λ child. is_hash_name child.name) left ≡ first ∷ filter (λ child. is_hash_name child.name) later
hashes_from_first first left later is one = ap (filter (λ child. is_hash_name child.name)) is ∙ rw one refl

-- The first hash node, and those that are left after it.
pub first_judged : (image : List ℕ) (payload : Option (List ℕ)) (first : Sibling FileNode) (left from later : List (Sibling FileNode))
    (checked : CheckedHash) → filter (λ child. is_hash_name child.name) from ≡ filter (λ child. is_hash_name child.name) left →
    from ≡ first ∷ later → is_hash_name first.name ≡ true → checked ≡ file_hash image payload first →
    found_hashes image payload left ≡ record { node = first; checked = checked } ∷ found_hashes image payload later
first_judged image payload first left from later checked same is one judged =
    ap (map (λ hash. record { node = hash; checked = file_hash image payload hash })) (sym same ∙ hashes_from_first first from later is one)
    ∙ ap (λ hash. record { node = first; checked = hash } ∷ found_hashes image payload later) (sym judged)
