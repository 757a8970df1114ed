use Rattle.std.specs.Prelude.{ℕ, Bool, false, List, [], ◌∷◌, bytes_eq}
use Rattle.bi_fit.specs.Names.{images_name}

-- Paths of image nodes.

-- Whether names lead from the root to an image node, if they lead to a node.
abbrev pub is_path_of_image : List (List ℕ) → Bool
is_path_of_image (first ∷ second ∷ []) = bytes_eq first images_name
is_path_of_image names = false
