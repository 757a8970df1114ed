use Rattle.std.proofs.Common.{◌≡◌, ℕ, zero, suc, List, [], ◌∷◌, ◌++◌, length, get_or, codes, refl, sym, ap, ap₂, ◌∙◌, nat_cmp, arith, rules}
use Rattle.std.proofs.Common.{option_and_then}
use Rattle.std.specs.Fmt.{digits}
use Rattle.std.specs.Cmp.Lexicographic.{slice_cmp}
use Rattle.std.specs.FinMap.{entries, from_entries, put, entries-insert}
use Rattle.std.proofs.lemmas.Cmp.{nat_list_cmp_total}
use Rattle.bi_base.specs.Cells.{cell, cell8, u32_at}
use Rattle.bi_base.specs.Strings.{text_before_nul}
use Rattle.bi_blob.specs.Tree.{Nodes, none, node, Property, with_each}
use Rattle.bi_blob.specs.Layout.{text_of_tree, text_of_events, text_of_blocks}
use Rattle.bi_hash.specs.Digests.{digest_of}
use Rattle.bi_hash.specs.declared.algo.Algo.TheVariants.{Crc32, Sha256}
use Rattle.bi_hash.proofs.DigestBytes.{length-digest_of}
use Rattle.bi_fit.specs.declared.form.Form.TheVariants.{Embedded}
use Rattle.bi_fit.specs.declared.key.Key.TheVariants.{Kernel, Fdt, Ramdisk}
use Rattle.bi_fit.specs.Names.{data_name, default_name, key_name}
use Rattle.bi_fit.specs.Judgement.{images_of, listed_at}
use Rattle.bi_fit.specs.Text.{normal_tree}
use Rattle.bi_fit.specs.Building.{text_value, built_root_properties, built_image_properties, built_hash_properties}
use Rattle.bi_fit.specs.Building.{built_hash_nodes, configuration_name, configuration_by_types, built_configuration_properties, built_tree}
use Rattle.bi_fit.specs.KnownBuilds.{known_head, known_kernel, known_ramdisk, known_images, known_plan, known_tree, known_text}
use Rattle.bi_fit.specs.KnownBuilds.{BuiltIsKnown, EachKeyIsKnown, board_devicetree, kernel_of_boards, first_board, second_board}
use Rattle.bi_fit.specs.KnownBuilds.{tree_of_boards, known_tree_of_boards, properties_of_devicetree, hashes_of_board}
use Rattle.bi_fit.specs.KnownBuilds.{BoardsAreKnown, HashNodesAreKnown, OwnTextsAreKnown}
use Rattle.bi_fit.proofs.FileFacts.{no_entries}
use Rattle.bi_fit.proofs.JudgementFacts.{find-properties}

-- Small built trees have known nodes and texts, and the keys have known names and list the images in their order.

-- Properties put in order one by one.
abbrev pub put_in_order : List Property → List Property
put_in_order [] = []
put_in_order (property ∷ later) = put (slice_cmp nat_cmp) property.0 property.1 (put_in_order later)

-- Properties by name are in this order.
pub entries_in_order : (properties : List Property) → entries (from_entries {R = slice_cmp nat_cmp} properties) ≡ put_in_order properties
entries_in_order [] = no_entries
entries_in_order (property ∷ later) =
    entries-insert nat_list_cmp_total (from_entries later) property.0 property.1
    ∙ ap (put (slice_cmp nat_cmp) property.0 property.1) (entries_in_order later)

-- Both digests.
abbrev hello_digest : List ℕ
hello_digest = digest_of Sha256 (codes "hello")

abbrev abc_digest : List ℕ
abc_digest = digest_of Sha256 (codes "abc")

known_is_tree : normal_tree Embedded (built_tree known_head (known_plan known_images) known_images) ≡ known_tree hello_digest abc_digest
unfolding digits
known_is_tree =
    λ i. record {
      own = entries_in_order (built_root_properties known_head) i;
      children = node (codes "images") (no_entries i)
          (node (codes "kernel-1") (entries_in_order ((data_name, codes "hello") ∷ built_image_properties known_head known_kernel) i)
          (node (codes "hash-1") (entries_in_order (built_hash_properties Sha256 hello_digest) i) none none)
          (node (codes "ramdisk-1") (entries_in_order ((data_name, codes "abc") ∷ built_image_properties known_head known_ramdisk) i)
          (node (codes "hash-1") (entries_in_order (built_hash_properties Sha256 abc_digest) i) none none)
          none))
          (node (codes "configurations") (entries_in_order ((default_name, text_value configuration_name) ∷ []) i)
          (node (codes "conf-1") (entries_in_order
          (built_configuration_properties known_head (configuration_by_types known_images)) i) none none)
          none);
    }

-- The text of the tree with these digests.
abbrev text_with : List ℕ → List ℕ → List ℕ
text_with kernel_digest ramdisk_digest = text_of_tree 4 0 [] (known_tree kernel_digest ramdisk_digest) ++ []

-- As many elements of a list, from an index on.
abbrev elements : List ℕ → ℕ → ℕ → List ℕ
elements bytes from zero = []
elements bytes from (suc n) = get_or bytes from 0 ∷ elements bytes (suc from) n

-- Elements of a longer list are those of the shorter one, one further.
elements-cons : (byte : ℕ) (bytes : List ℕ) (from n : ℕ) → elements (byte ∷ bytes) (suc from) n ≡ elements bytes from n
elements-cons byte bytes from zero = refl
elements-cons byte bytes from (suc n) = ap (λ l. get_or bytes from 0 ∷ l) (elements-cons byte bytes (suc from) n)

-- A list has its elements.
all_elements : (n : ℕ) (bytes : List ℕ) → length bytes ≡ n → bytes ≡ elements bytes 0 n
all_elements zero [] e = refl
all_elements zero (byte ∷ bytes) e = absurd (omega arith)
all_elements (suc n) [] e = absurd (omega arith)
all_elements (suc n) (byte ∷ bytes) e =
    ap (λ l. byte ∷ l) (all_elements n bytes (omega arith) ∙ sym (elements-cons byte bytes 0 n))

-- The text, with the elements of the digests.
known_is_text : known_text ≡ text_with (elements hello_digest 0 32) (elements abc_digest 0 32)
known_is_text =
    ap (λ root. text_of_tree 4 0 [] root ++ []) known_is_tree
    ∙ ap₂ text_with (all_elements 32 hello_digest (length-digest_of Sha256 (codes "hello")))
    (all_elements 32 abc_digest (length-digest_of Sha256 (codes "abc")))

pub built_is_known : BuiltIsKnown
unfolding text_of_events text_of_blocks cell cell8 u32_at
built_is_known = search (rules, known_is_tree, known_is_text)

pub each_key_is_known : EachKeyIsKnown
each_key_is_known = record { names = refl; types = refl; lists = refl }

-- The node of a devicetree of a board, with its hash nodes, before later nodes.
devicetree_node : (name payload : List ℕ) (later : Nodes (List Property)) →
    node name
    (entries {R = slice_cmp nat_cmp}
    (from_entries ((data_name, payload) ∷ built_image_properties known_head (board_devicetree name payload))))
    (with_each (entries {R = slice_cmp nat_cmp}) (built_hash_nodes 1 (Crc32 ∷ Sha256 ∷ []) payload)) later
    ≡ node name (properties_of_devicetree payload) (hashes_of_board payload) later
unfolding digits
devicetree_node name payload later = search (rules, entries_in_order)

boards_are_tree : normal_tree Embedded tree_of_boards ≡ known_tree_of_boards
unfolding digits
boards_are_tree =
    λ i. record {
      own = entries_in_order (built_root_properties known_head) i;
      children = node (codes "images") (no_entries i)
          (node (codes "k") (entries_in_order ((data_name, codes "x") ∷ built_image_properties known_head kernel_of_boards) i)
          (node (codes "hash-1") (entries_in_order (built_hash_properties Crc32 (digest_of Crc32 (codes "x"))) i) none
          (node (codes "hash-2") (entries_in_order (built_hash_properties Sha256 (digest_of Sha256 (codes "x"))) i) none none))
          (devicetree_node (codes "d") (codes "y") (devicetree_node (codes "e") (codes "z") none i) i))
          (node (codes "configurations") (entries_in_order ((default_name, text_value (codes "b")) ∷ []) i)
          (node (codes "a") (entries_in_order (built_configuration_properties known_head first_board) i) none
          (node (codes "b") (entries_in_order (built_configuration_properties known_head second_board) i) none none))
          none);
    }

pub boards_are_known : BoardsAreKnown
unfolding text_before_nul
boards_are_known = record {
  is_tree = boards_are_tree;
  first_fdt = ap (listed_at (images_of tree_of_boards))
      (find-properties (built_configuration_properties known_head first_board) (key_name Fdt));
  first_ramdisk = ap (listed_at (images_of tree_of_boards))
      (find-properties (built_configuration_properties known_head first_board) (key_name Ramdisk));
  second_kernel = ap (listed_at (images_of tree_of_boards))
      (find-properties (built_configuration_properties known_head second_board) (key_name Kernel));
  second_fdt = ap (listed_at (images_of tree_of_boards))
      (find-properties (built_configuration_properties known_head second_board) (key_name Fdt));
  default = ap (option_and_then text_before_nul) (find-properties ((default_name, text_value (codes "b")) ∷ []) default_name);
}

pub hash_nodes_are_known : HashNodesAreKnown
unfolding digits
hash_nodes_are_known = record { no_algorithm = refl; twice = refl; tenth = refl }

pub own_texts_are_known : OwnTextsAreKnown
own_texts_are_known = record {
  image = refl;
  compatible = refl;
  configuration = refl;
  plain_image = λ head image none. rw none refl;
  plain_configuration = λ head configuration none empty. rw (none, empty) refl;
}
