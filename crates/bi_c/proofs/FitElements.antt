use Rattle.std.proofs.Common.{◌≡◌, ◌+◌, ◌<◌, ℕ, suc, zero, true, false, List, [], ◌∷◌, Option, Some, None, Bor, length, map, drop, get_or}
use Rattle.std.proofs.Common.{bytes_eq, add-one, refl, sym, ap, ◌∙◌}
use Rattle.std.proofs.Math.Seq.{drop-cons}
use Rattle.std.specs.Option.{option_map}
use Rattle.std.specs.Prelude.{slice_get}
use Rattle.bi_blob.specs.Blob.{Reservation}
use Rattle.bi_blob.specs.Tree.{names}
use Rattle.bi_fit.specs.Content.{FitModel, tree_of}
use Rattle.bi_fit.specs.Judgement.{configuration_nodes, default_of}
use Rattle.bi_fit.specs.JudgementCalls.{ConfigurationModel, configurations_of, listed_image}
use Rattle.bi_fit.specs.declared.configurations.Named.{Named}
use Rattle.bi_fit.proofs.Meanings.{same_in_some}
use Rattle.bi_c.specs.FitElements.{default_index_of, element_of_reservation, index_among, index_of_default, index_of_first}

-- Some elements of a FIT are left: those from an index on.

-- The address and the size of a memory reservation are a pair.
abbrev pub pair_of_reservation : Reservation → ℕ × ℕ
pair_of_reservation reservation = (reservation.address, reservation.size)

-- The reservation at an index is the first of those that are left.
pub reservation_left : (all : List Reservation) (index address size : ℕ) →
    slice_get (map pair_of_reservation all) index ≡ Some (address, size) →
    map element_of_reservation (drop index all)
    ≡ record { address = address; size = size } ∷ map element_of_reservation (drop (index + 1) all)
reservation_left all index address size is = rw add-one (by all index is)
  where
    by : (all : List Reservation) (index : ℕ) → slice_get (map pair_of_reservation all) index ≡ Some (address, size) →
        map element_of_reservation (drop index all)
        ≡ record { address = address; size = size } ∷ map element_of_reservation (drop (suc index) all)
    by [] index is = absurd cc
    by (first ∷ later) zero is =
        let same = same_in_some (pair_of_reservation first) (address, size) is in
        ap (λ (it : ℕ × ℕ). record { address = it.0; size = it.1 } ∷ map element_of_reservation later) same
    by (first ∷ later) (suc index) is = by later index is

-- If there is no reservation at an index, none is left.
pub no_reservation_left : (all : List Reservation) (index : ℕ) → slice_get (map pair_of_reservation all) index ≡ None →
    map element_of_reservation (drop index all) ≡ []
no_reservation_left [] zero is = refl
no_reservation_left [] (suc index) is = refl
no_reservation_left (first ∷ later) zero is = absurd cc
no_reservation_left (first ∷ later) (suc index) is = no_reservation_left later index is

-- The names of the configurations are those that were read.
names_back : (content : FitModel) (all : List (List ℕ)) →
    map (λ (it : ConfigurationModel). it.name) (map (λ (name : List ℕ). record { content = content; name = name }) all) ≡ all
names_back content [] = refl
names_back content (first ∷ later) = ap (λ it. first ∷ it) (names_back content later)

pub names_of_configurations : (content : FitModel) →
    map (λ (it : ConfigurationModel). it.name) (configurations_of content) ≡ names (configuration_nodes (tree_of content))
names_of_configurations content = names_back content (names (configuration_nodes (tree_of content)))

-- If the first name is the given one, the index is 0. If not, the index is one more than among the later names.
pub first_is : (name first : List ℕ) (later : List (List ℕ)) → bytes_eq first name ≡ true → index_of_first name (first ∷ later) ≡ 0
first_is name first later is = rw is refl

pub first_is_not : (name first : List ℕ) (later : List (List ℕ)) → bytes_eq first name ≡ false →
    index_of_first name (first ∷ later) ≡ index_of_first name later + 1
first_is_not name first later is = rw is refl

-- The index of the default configuration is that of its name among the names of configurations.
pub default_found : (content : FitModel) (found : Option (Bor (List ℕ))) (default : Bor (List ℕ)) →
    option_map (λ (name : Bor (List ℕ)). name.now) found ≡ default_of (tree_of content) → found ≡ Some default →
    default_index_of (tree_of content) ≡ index_of_first default.now (names (configuration_nodes (tree_of content)))
default_found content found default is is_found =
    ap (λ (it : Option (List ℕ)). index_of_default it (names (configuration_nodes (tree_of content))))
    (sym is ∙ ap (option_map (λ (name : Bor (List ℕ)). name.now)) is_found)

pub no_default : (content : FitModel) (found : Option (Bor (List ℕ))) →
    option_map (λ (name : Bor (List ℕ)). name.now) found ≡ default_of (tree_of content) → found ≡ None →
    default_index_of (tree_of content) ≡ length (names (configuration_nodes (tree_of content)))
no_default content found is is_found =
    ap (λ (it : Option (List ℕ)). index_of_default it (names (configuration_nodes (tree_of content))))
    (sym is ∙ ap (option_map (λ (name : Bor (List ℕ)). name.now)) is_found)

-- The image at an index of a list is the first of the images that are left.
pub listed_left : (content : FitModel) (listed : List Named) (index : ℕ) (default : Named) → index < length listed →
    map (index_among content) (map listed_image (drop index listed))
    ≡ index_among content (listed_image (get_or listed index default))
    ∷ map (index_among content) (map listed_image (drop (index + 1) listed))
listed_left content listed index default within =
    rw add-one (ap (λ (left : List Named). map (index_among content) (map listed_image left)) (drop-cons listed index default within))
