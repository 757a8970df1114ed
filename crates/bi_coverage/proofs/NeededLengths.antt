use Rattle.std.proofs.Common.{◌≡◌, ◌<◌, ℕ, zero, suc, ◌+◌, ◌-◌, ◌*◌, List, [], ◌∷◌, ◌++◌, Bor, map, length, drop, get_or, sym, ap}
use Rattle.std.proofs.Common.{◌∙◌}
use Rattle.std.proofs.Common.{arith, length-append, append-nil}
use Rattle.std.proofs.Math.Nat.{suc-mul, zero-mul}
use Rattle.std.proofs.lemmas.List.{drop_more}
use Rattle.bi_base.specs.Slices.{bytes_of}
use Rattle.bi_fit.specs.Names.{images_name, configurations_name}
use Rattle.bi_fit.specs.ImageTree.{ImageTree}
use Rattle.bi_coverage.specs.Numbers.{sum_of}
use Rattle.bi_coverage.specs.Paths.{path_text}
use Rattle.bi_coverage.specs.Signatures.{NeededPart, total_length, image_part, paths_of_part, paths_of_parts, parts_for, covered_below}

-- The lengths of paths.

-- The sum of the numbers of two lists.
pub sum_of-append : (numbers later : List ℕ) → sum_of (numbers ++ later) ≡ sum_of numbers + sum_of later
sum_of-append [] later = omega arith
sum_of-append (number ∷ numbers) later = omega (arith, sum_of-append numbers later)

-- The lengths of the paths of two lists.
pub total_length-append : (paths later : List (List ℕ)) → total_length (paths ++ later) ≡ total_length paths + total_length later
total_length-append [] later = omega arith
total_length-append (path ∷ paths) later = omega (arith, total_length-append paths later)

-- The length of the path of an image.
pub image_length : (image : List ℕ) → length (path_text (images_name ∷ image ∷ [])) ≡ 8 + length image
image_length image = omega (arith, ap length (append-nil image))

-- And of its child.
pub child_length : (image child : List ℕ) →
    length (path_text (images_name ∷ image ∷ child ∷ [])) ≡ 9 + length image + length child
child_length image child =
    omega (arith, ap length (append-nil child), length-append image (47 ∷ (child ++ [])))

-- And of a configuration.
pub configuration_length : (name : List ℕ) → length (path_text (configurations_name ∷ name ∷ [])) ≡ 16 + length name
configuration_length name = omega (arith, ap length (append-nil name))

-- The lengths of the paths of children of an image.
abbrev pub children_length : (image : List ℕ) → (children : List (List ℕ)) → ℕ
children_length image children =
    total_length (map (λ child. path_text (images_name ∷ image ∷ child ∷ [])) children)

-- The length of the path of an image, and those of its children.
pub part_length : (image : List ℕ) (children : List (List ℕ)) →
    total_length (paths_of_part (image_part image children)) ≡ 8 + length image + children_length image children
part_length image children = omega (arith, image_length image)

-- What is left after an item of a list.
first_dropped : (slices : List (Bor (List ℕ))) (index : ℕ) (default : Bor (List ℕ)) → index < length slices →
    bytes_of (drop index slices) ≡ (get_or slices index default).now ∷ bytes_of (drop (index + 1) slices)
first_dropped slices index default within = ap bytes_of (drop_more slices index default within)

module _ (image : List ℕ) (children : List (Bor (List ℕ))) (index : ℕ) (default : Bor (List ℕ)) (within : index < length children)
    (before all : ℕ) (so_far : before + children_length image (bytes_of (drop index children)) ≡ all) where
  next_child : children_length image (bytes_of (drop index children))
      ≡ 9 + length image + length (get_or children index default).now + children_length image (bytes_of (drop (index + 1) children))
  next_child =
      let first : children_length image (bytes_of (drop index children))
      ≡ children_length image ((get_or children index default).now ∷ bytes_of (drop (index + 1) children)) =
      ap (children_length image) (first_dropped children index default within) in
      omega (arith, first, child_length image (get_or children index default).now)

  -- The length of one more child is added.
  pub child_added : (sum : ℕ) → sum ≡ before + (9 + length image + length (get_or children index default).now) →
      sum + children_length image (bytes_of (drop (index + 1) children)) ≡ all
  child_added sum is = let next = next_child in omega (arith, next, is, so_far)

  -- The paths are too long as soon as that of a child is.
  pub child_too_long : (limit : ℕ) → limit < before + (9 + length image + length (get_or children index default).now) → limit < all
  child_too_long limit more = let next = next_child in omega (arith, next, more, so_far)

-- A number of times a length is one time less, and once.
pub times_less : (left length : ℕ) → 0 < left → left * length ≡ (left - 1) * length + length
times_less zero length some = absurd (omega arith)
times_less (suc left) length some =
    let less : suc left - 1 ≡ left = omega arith in
    rw less (suc-mul left length)

-- The sum of as many equal numbers as there are things.
pub sum_of_times : {X : Type 0} (number : ℕ) (things : List X) → sum_of (map (λ thing. number) things) ≡ length things * number
sum_of_times number [] = sym (zero-mul number)
sum_of_times number (thing ∷ later) =
    let more : suc (length later) * number ≡ length later * number + number = suc-mul (length later) number in
    omega (arith, more, sum_of_times number later)

module _ (tree : ImageTree) where
  -- The part of a reference.
  abbrev pub needed_part_of : List ℕ → NeededPart
  needed_part_of image = image_part image (covered_below tree image)

  -- How long the paths of references are.
  abbrev pub references_length : List (List ℕ) → ℕ
  references_length references = total_length (paths_of_parts (map needed_part_of references))

  -- The root, the configuration, and the references.
  pub parts_length : (name : List ℕ) (references : List (List ℕ)) →
      total_length (paths_of_parts (parts_for tree name references)) ≡ 17 + length name + references_length references
  parts_length name references = omega (arith, configuration_length name)

  module _ (references : List (Bor (List ℕ))) (index : ℕ) (default : Bor (List ℕ)) (within : index < length references)
      (before all : ℕ) (so_far : before + references_length (bytes_of (drop index references)) ≡ all) (children : List (List ℕ))
      (are : children ≡ covered_below tree (get_or references index default).now) where
    next_length : references_length (bytes_of (drop index references))
        ≡ total_length (paths_of_part (image_part (get_or references index default).now children))
        + references_length (bytes_of (drop (index + 1) references))
    next_length =
        ap references_length (first_dropped references index default within)
        ∙ total_length-append (paths_of_part (needed_part_of (get_or references index default).now))
        (paths_of_parts (map needed_part_of (bytes_of (drop (index + 1) references))))
        ∙ ap (λ children. total_length (paths_of_part (image_part (get_or references index default).now children))
        + references_length (bytes_of (drop (index + 1) references))) (sym are)

    -- The length of one more reference is added.
    pub reference_added : (sum : ℕ) →
        sum ≡ before + total_length (paths_of_part (image_part (get_or references index default).now children)) →
        sum + references_length (bytes_of (drop (index + 1) references)) ≡ all
    reference_added sum is = let next = next_length in omega (arith, next, is, so_far)

    -- The paths are too long as soon as those of a reference are.
    pub reference_too_long : (limit : ℕ) →
        limit < before + total_length (paths_of_part (image_part (get_or references index default).now children)) → limit < all
    reference_too_long limit more = let next = next_length in omega (arith, next, more, so_far)
