use Rattle.std.specs.Prelude.{◌≡◌, ℕ, List, [], ◌∷◌, ◌++◌, Some, codes}
use Rattle.std.specs.Borrow.{Bor}
use Rattle.std.specs.FinMap.{empty, from_entries}
use Rattle.bi_blob.specs.Tree.{none, node, Property}
use Rattle.bi_fit.specs.declared.key.Key.{Key}
use Rattle.bi_fit.specs.declared.key.Key.TheVariants.{Kernel, Fdt, Ramdisk, Script}
use Rattle.bi_fit.specs.ImageTree.{ImageTree}
use Rattle.bi_fit.specs.KnownJudgements.{configured_tree, hashed_tree}
use Rattle.bi_fit.specs.Names.{images_name, configurations_name, default_name}
use Rattle.bi_legacy.specs.KnownImages.{multi_image}
use Rattle.bi_norm.specs.Meaning.{OfLegacy, OfFit}
use Rattle.bi_commands.specs.declared.extract.Select.{Select}
use Rattle.bi_commands.specs.declared.extract.Select.TheVariants.{Part, Image, Config, Default}
use Rattle.bi_commands.specs.Extracting.{Choice, OfOtherKind, NoSuchPart, NoSuchImage}
use Rattle.bi_commands.specs.Extracting.{NoSuchConfiguration, NoSuchKey, HasBadList}
use Rattle.bi_commands.specs.Extracting.{HasMissingImage, NoSuchEntry, HasNoPayload, Chosen}
use Rattle.bi_commands.specs.Extracting.{choice_of}

-- Small boot images with what is selected of them, by which a reader can judge the definitions.

-- Bytes that are lent.
abbrev pub lent : List ℕ → Bor (List ℕ)
lent bytes = record { ref_ptr = (0, 0); now = bytes }

-- The image, or the entry of a configuration, of this name.
abbrev pub image_selection : List ℕ → Select
image_selection name = Image (lent name)

abbrev pub entry_selection : (configuration : List ℕ) → Key → (index : ℕ) → Select
entry_selection configuration key index = Config (lent configuration) key index

-- What is chosen of a multi-file image, whose parts are `hello` and `abc`.
abbrev pub choice_of_multi : Select → Choice
choice_of_multi select = choice_of select (OfLegacy multi_image)

-- What is chosen of a tree whose image `a` has the payload `abc`: the configuration `conf-1` lists
-- it as its kernel, and lists it and `z` as its devicetrees; its list of ramdisks has no zero.
abbrev pub choice_of_configured : Select → Choice
choice_of_configured select = choice_of select (OfFit configured_tree)

-- What is chosen of a tree whose image `b` has no payload.
abbrev pub choice_of_hashed : Select → Choice
choice_of_hashed select = choice_of select (OfFit hashed_tree)

-- The properties of two configurations, and the second one as the default.
abbrev pub first_lists : List Property
first_lists =
    (codes "kernel", codes "a" ++ 0 ∷ [])
    ∷ (codes "fdt", codes "b" ++ 0 ∷ codes "a" ++ 0 ∷ [])
    ∷ []

abbrev pub second_kernel : List Property
second_kernel = (codes "kernel", codes "b" ++ 0 ∷ []) ∷ []

abbrev pub second_default : List Property
second_default = (default_name, codes "conf-2" ++ 0 ∷ []) ∷ []

-- A tree with the images `a` and `b`, whose payloads are their names: the second of two
-- configurations is the default, and lists `b` as its kernel. The first one lists `a`, and `b` and
-- then `a` as its devicetrees.
abbrev pub second_tree : ImageTree
second_tree = record {
  cpu = 0;
  reservations = [];
  root = record {
    own = empty;
    children = node images_name empty
        (node (codes "a") empty none (node (codes "b") empty none none))
        (node configurations_name (from_entries second_default)
        (node (codes "conf-1") (from_entries first_lists) none
        (node (codes "conf-2") (from_entries second_kernel) none none))
        none);
  };
  payloads = Some (codes "a") ∷ Some (codes "b") ∷ [];
}

-- What is chosen of this tree.
abbrev pub choice_of_second : Select → Choice
choice_of_second select = choice_of select (OfFit second_tree)

-- Each choice, and each reason why there is none.
pub record ChoicesAreKnown : Type 0 where
  pub first_part : choice_of_multi (Part 0) ≡ Chosen (codes "hello")
  pub second_part : choice_of_multi (Part 1) ≡ Chosen (codes "abc")
  pub no_part : choice_of_multi (Part 2) ≡ NoSuchPart
  pub image_of_legacy : choice_of_multi (image_selection (codes "a")) ≡ OfOtherKind
  pub entry_of_legacy :
      choice_of_multi (entry_selection (codes "conf-1") Kernel 0) ≡ OfOtherKind
  pub part_of_tree : choice_of_configured (Part 0) ≡ OfOtherKind
  pub image : choice_of_configured (image_selection (codes "a")) ≡ Chosen (codes "abc")
  pub no_image : choice_of_configured (image_selection (codes "d")) ≡ NoSuchImage
  pub no_payload : choice_of_hashed (image_selection (codes "b")) ≡ HasNoPayload
  pub entry : choice_of_configured (entry_selection (codes "conf-1") Kernel 0)
      ≡ Chosen (codes "abc")
  pub first_entry : choice_of_second (entry_selection (codes "conf-1") Fdt 0) ≡ Chosen (codes "b")
  pub second_entry : choice_of_second (entry_selection (codes "conf-1") Fdt 1)
      ≡ Chosen (codes "a")
  pub no_third_entry : choice_of_second (entry_selection (codes "conf-1") Fdt 2) ≡ NoSuchEntry
  pub no_entry : choice_of_configured (entry_selection (codes "conf-1") Kernel 1) ≡ NoSuchEntry
  pub missing : choice_of_configured (entry_selection (codes "conf-1") Fdt 0) ≡ HasMissingImage 1
  pub bad_list : choice_of_configured (entry_selection (codes "conf-1") Ramdisk 0) ≡ HasBadList
  pub no_key : choice_of_configured (entry_selection (codes "conf-1") Script 0) ≡ NoSuchKey
  pub no_configuration : choice_of_configured (entry_selection (codes "conf-3") Kernel 0)
      ≡ NoSuchConfiguration
  pub default_of_legacy : choice_of_multi (Default Kernel 0) ≡ OfOtherKind
  pub default_entry : choice_of_second (Default Kernel 0) ≡ Chosen (codes "b")
  pub no_default_entry : choice_of_second (Default Kernel 1) ≡ NoSuchEntry
  pub no_default_key : choice_of_second (Default Fdt 0) ≡ NoSuchKey
  pub default_is_elsewhere : choice_of_configured (Default Kernel 0) ≡ NoSuchConfiguration
  pub no_default : choice_of_hashed (Default Kernel 0) ≡ NoSuchConfiguration
