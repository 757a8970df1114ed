use Rattle.std.proofs.Common.{◌≡◌, ◌+◌, ◌<◌, ◌≤◌, ℕ, zero, suc, Bool, true, false, List, [], ◌∷◌, length, map, slice_get, Option, Some}
use Rattle.std.proofs.Common.{None, Result, Ok, Err, IfErr, ◌⊎◌, inl, Bor, MatchOption, nat_eq, refl, sym, ap, subst, ◌∙◌, if◌then◌else◌}
use Rattle.std.specs.List.{AllByRecursion, HoldsAt, ends_with}
use Rattle.std.specs.Option.{option_map, ok_or}
use Rattle.std.proofs.lemmas.Option.{slice_get-map, slice_get_read}
use Rattle.std.specs.FinMap.{get}
use Rattle.bi_blob.specs.Tree.{PropertyMap}
use Rattle.bi_blob.specs.Lookups.{Sibling, node_named}
use Rattle.bi_fit.specs.declared.configurations.Named.{Named}
use Rattle.bi_fit.specs.declared.key.Key.{Key}
use Rattle.bi_fit.specs.JudgementCalls.{listed_image}
use Rattle.bi_fit.specs.ImageTree.{ImageTree}
use Rattle.bi_fit.specs.Names.{key_name}
use Rattle.bi_fit.specs.Judgement.{Image, images_of, image_named, ListResult, NoConfig, NoKey, BadList, Missing, ListedImages, ListedImage}
use Rattle.bi_fit.specs.Judgement.{list_images, listed_names, listed_from, listed_at, listed_under, listed_of, configuration_nodes}
use Rattle.bi_fit.proofs.Meanings.{same_in_some}
use Rattle.bi_base.specs.declared.fault.Error.TheVariants.{OutOfMemory}
use Rattle.bi_commands.specs.declared.extract.ExtractError.{ExtractError}
use Rattle.bi_commands.specs.declared.extract.ExtractError.TheVariants.{NoIndex, Failed}
use Rattle.bi_c.specs.declared.region.Region.{Region}
use Rattle.bi_c.proofs.ListedIndices.{same_listed}
use Rattle.bi_commands.specs.Extracting.{Choice, IsReason, choice_of_payload, choice_of_image, choice_of_entry, choice_of_listed}
use Rattle.bi_commands.specs.Extracting.{choice_by_name, choice_by_configuration}

-- What an entry of a configuration's list chooses is what its name chooses.

-- What holds of each element holds of the one at an index.
pub all_at : {X : Type 0} (P : X → Type 0) (xs : List X) (index : ℕ) (x : X) → AllByRecursion P xs → slice_get xs index ≡ Some x → P x
all_at P [] index x all is = absurd cc
all_at P (first ∷ later) zero x all is = subst P (same_in_some first x is) all.0
all_at P (first ∷ later) (suc index) x all is = all_at P later index x all.1 is

-- The name of an entry chooses its payload.
abbrev IsNamed : List Image → ListedImage → Type 0
IsNamed images entry = choice_of_image (image_named entry.name images) ≡ choice_of_payload entry.payload

entries_named : (images : List Image) (at : ℕ) (names : List (List ℕ)) (listed : List ListedImage) →
    list_images images at names ≡ ListedImages listed → AllByRecursion (IsNamed images) listed
entries_named images at [] listed is = subst (AllByRecursion (IsNamed images)) (same_listed [] listed is) tt
entries_named images at (name ∷ later) listed is = by (image_named name images) (list_images images (at + 1) later) refl refl
    (entries_named images (at + 1) later) is
  where
    by : (found : Option Image) (rest : ListResult) → image_named name images ≡ found → list_images images (at + 1) later ≡ rest
        → ((more : List ListedImage) → list_images images (at + 1) later ≡ ListedImages more → AllByRecursion (IsNamed images) more)
        → listed_from at name found rest ≡ ListedImages listed → AllByRecursion (IsNamed images) listed
    by None rest is_found is_rest named same = absurd cc
    by (Some image) (ListedImages more) is_found is_rest named same =
        subst (AllByRecursion (IsNamed images)) (same_listed (record { name = name; payload = image.payload } ∷ more) listed same)
        (ap choice_of_image is_found, named more is_rest)
    by (Some image) NoConfig is_found is_rest named same = absurd cc
    by (Some image) NoKey is_found is_rest named same = absurd cc
    by (Some image) BadList is_found is_rest named same = absurd cc
    by (Some image) (Missing index) is_found is_rest named same = absurd cc

-- The same of the value of a key, of a key and of a configuration, if they are there.
value_named : (images : List Image) (value : Option (List ℕ)) (listed : List ListedImage) → listed_at images value ≡ ListedImages listed →
    AllByRecursion (IsNamed images) listed
value_named images None listed is = absurd cc
value_named images (Some value) listed is = by (ends_with nat_eq value (0 ∷ [])) is
  where
    by : (b : Bool) → (if b then list_images images 0 (listed_names value) else BadList) ≡ ListedImages listed →
        AllByRecursion (IsNamed images) listed
    by true is = entries_named images 0 (listed_names value) listed is
    by false is = absurd cc

configuration_named : (images : List Image) (found : Option (Sibling PropertyMap)) (key : Key) (listed : List ListedImage) →
    listed_under images found key ≡ ListedImages listed → AllByRecursion (IsNamed images) listed
configuration_named images None key listed is = absurd cc
configuration_named images (Some configuration) key listed is = value_named images (get configuration.own (key_name key)) listed is

-- The entry at an index of what a configuration lists chooses what its name chooses.
pub entry_by_name : (tree : ImageTree) (configuration : List ℕ) (key : Key) (index : ℕ) (listed : List ListedImage) (entry : ListedImage) →
    listed_of tree configuration key ≡ ListedImages listed
    → slice_get listed index ≡ Some entry → choice_by_configuration tree configuration key index ≡ choice_by_name tree entry.name
entry_by_name tree configuration key index listed entry is found =
    ap (λ (other : ListResult). choice_of_listed other index) is ∙ ap choice_of_entry found
    ∙ sym (all_at (IsNamed (images_of tree)) listed index entry
    (configuration_named (images_of tree) (node_named (configuration_nodes tree) configuration) key listed is) found)

-- The entry at an index that was read from a list is that of the list as the definitions see it.
pub listed_entry_read : (items slice : List Named) (index : ℕ) (result : Option (Bor Named)) (named : Bor Named) → slice ≡ items
    → MatchOption result (length slice ≤ index) (λ x. (index < length slice) × HoldsAt (λ y. x.now ≡ y) slice index)
    → Ok named ≡ ok_or result NoIndex → slice_get (map listed_image items) index ≡ Some (listed_image named.now)
listed_entry_read items slice index None named same read is = absurd cc
listed_entry_read items slice index (Some found) named same read is =
    let same_named : found ≡ named = cc in
    slice_get-map listed_image items index
    ∙ ap (λ (list : List Named). option_map listed_image (slice_get list index)) (sym same)
    ∙ ap (option_map listed_image) (slice_get_read slice (length slice) index found.now refl read.0 (read.1 found.now))
    ∙ ap (λ (other : Bor Named). Some (listed_image other.now)) same_named

-- The reason for which the name of an entry chooses nothing is that of the entry, where memory may run out, too.
pub reason_of_entry : (result : Result Region ExtractError) (choice other : Choice) → choice ≡ other →
    IfErr result (λ error. IsReason error other)
    → IfErr result (λ error. IsReason error choice ⊎ (error ≡ Failed OutOfMemory))
reason_of_entry (Ok region) choice other same is = tt
reason_of_entry (Err error) choice other same is = inl (subst (IsReason error) (sym same) is)
