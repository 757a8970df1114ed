use Rattle.std.proofs.Common.{◌≡◌, ℕ, List, [], ◌∷◌, Bool, true, false, Option, Some, None, Bor, filter, flat_map, refl, sym, ap, ◌∙◌}
use Rattle.std.specs.Prelude.{MatchOption}
use Rattle.std.specs.Option.{option_map}
use Rattle.std.proofs.lemmas.List.Elements.{filter-append}
use Rattle.bi_blob.specs.Layout.{is_among}
use Rattle.bi_blob.specs.Tree.{Property}
use Rattle.bi_fit.specs.Judgement.{listed_names, BeginsWithName}
use Rattle.bi_coverage.specs.Paths.{with_new, with_all_new}
use Rattle.bi_coverage.specs.Signatures.{names_in_property, other_names, names_of_value}
use Rattle.bi_coverage.specs.Values.{names_listed_by}
use Rattle.bi_coverage.proofs.NamesOnce.{with_all_new-append}

-- The references of a configuration, property by property and name by name.

module _ (is_image : List ℕ → Bool) (held : List (List ℕ)) where
  -- The names of one property, and those of the later ones.
  pub property_first : (property : Property) (later : List Property) →
      with_all_new held (filter is_image (flat_map names_in_property (property ∷ later)))
      ≡ with_all_new (with_all_new held (filter is_image (names_in_property property))) (filter is_image (flat_map names_in_property later))
  property_first property later =
      ap (with_all_new held) (filter-append is_image (names_in_property property) (flat_map names_in_property later))
      ∙ with_all_new-append held (filter is_image (names_in_property property)) (filter is_image (flat_map names_in_property later))

  -- A property that lists none.
  pub no_listed_names : (property : Property) (later : List Property) → names_in_property property ≡ [] →
      with_all_new held (filter is_image (flat_map names_in_property (property ∷ later)))
      ≡ with_all_new held (filter is_image (flat_map names_in_property later))
  no_listed_names property later none =
      property_first property later
      ∙ ap (λ l. with_all_new (with_all_new held (filter is_image l)) (filter is_image (flat_map names_in_property later))) none

  -- A property that lists the names of a value.
  pub list_first : (property : Property) (later : List Property) (list : List ℕ) → names_in_property property ≡ listed_names list →
      with_all_new held (filter is_image (flat_map names_in_property (property ∷ later)))
      ≡ with_all_new (with_all_new held (filter is_image (listed_names list))) (filter is_image (flat_map names_in_property later))
  list_first property later list all =
      property_first property later
      ∙ ap (λ l. with_all_new (with_all_new held (filter is_image l)) (filter is_image (flat_map names_in_property later))) all

  -- The first name of a list is an image's.
  pub image_first : (value name later : List ℕ) → BeginsWithName value name later → is_image name ≡ true →
      with_all_new held (filter is_image (listed_names value)) ≡ with_all_new (with_new held name) (filter is_image (listed_names later))
  image_first value name later begins is =
      ap (λ names. with_all_new held (filter is_image names)) begins.listed ∙ rest
    where
      rest : with_all_new held (filter is_image (name ∷ listed_names later))
          ≡ with_all_new (with_new held name) (filter is_image (listed_names later))
      rest = rw is refl

  -- Or it is not.
  pub other_first : (value name later : List ℕ) → BeginsWithName value name later → is_image name ≡ false →
      with_all_new held (filter is_image (listed_names value)) ≡ with_all_new held (filter is_image (listed_names later))
  other_first value name later begins is =
      ap (λ names. with_all_new held (filter is_image names)) begins.listed ∙ rest
    where
      rest : with_all_new held (filter is_image (name ∷ listed_names later)) ≡ with_all_new held (filter is_image (listed_names later))
      rest = rw is refl

-- A property of another name lists none.
pub other_lists_none : (property : Property) → is_among property.0 other_names ≡ true → names_in_property property ≡ []
other_lists_none property is = rw is refl

-- Any other lists the names of its value, if that is a list of names.
pub value_lists : (property : Property) (result : Option (Bor (List ℕ))) → is_among property.0 other_names ≡ false →
    option_map names_listed_by result ≡ names_of_value property.1 →
    MatchOption result (names_in_property property ≡ []) (λ list. names_in_property property ≡ listed_names list.now)
value_lists property None other is = rw (other, sym is) refl
value_lists property (Some list) other is = rw (other, sym is) refl
