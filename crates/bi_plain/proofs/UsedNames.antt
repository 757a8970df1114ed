use Rattle.std.proofs.Common.{◌≡◌, ◌⊎◌, ℕ, ◌<◌, Bool, true, false, List, [], ◌∷◌, ◌++◌, replicate, get_or, length, Contains, inl, inr}
use Rattle.std.proofs.Common.{flat_map}
use Rattle.std.proofs.Common.{sym, subst, ◌∙◌}
use Rattle.std.specs.List.{AllByRecursion}
use Rattle.std.proofs.lemmas.List.Elements.{Contains-append_left, Contains-append_right, Contains-append_cases}
use Rattle.std.proofs.lemmas.Option.{slice_get_within, same_Some}
use Rattle.bi_base.proofs.ListMembers.{Contains-none, Contains-cases, Contains-first, Contains-others, each-append, each-contains}
use Rattle.bi_base.proofs.ListMembers.{each-weaker}
use Rattle.std.proofs.Math.ListN.{length-replicate}
use Rattle.bi_blob.specs.Tree.{Nodes, none, node, EachOwn, AreDistinct}
use Rattle.bi_fdt.specs.Numbers.{AreNumbered, IsNumberOf}
use Rattle.bi_tree.specs.Properties.{TreePropertyModel, own_property_names}
use Rattle.bi_tree.specs.Trees.{AreNumberedAmong}
use Rattle.bi_fit.specs.LongNames.{name_if_long}
use Rattle.bi_plain.specs.Ranked.{all_names, all_numbers, own_numbers, with_marks, marked_names, marked_table}
use Rattle.bi_plain.specs.Ranked.{AreRankedNodes, HaveLongNames}
use Rattle.bi_plain.proofs.Marks.{is_marked, marked_only}
use Rattle.bi_plain.proofs.MarkedNames.{HasMark, each_has_mark, rank_there, marked_are_distinct}

-- The names that properties of a tree have are those with the marks at their numbers.

module _ (names : List (List ℕ)) where
  -- The numbers are within the names.
  own_within : (properties : List TreePropertyModel) →
      AllByRecursion (λ property. IsNumberOf names property.name property.number) properties →
      AllByRecursion (λ number. number < length names) (own_numbers properties)
  own_within [] all = tt
  own_within (property ∷ later) all = (slice_get_within names property.number property.name all.0, own_within later all.1)

  pub all_within : (nodes : Nodes (List TreePropertyModel)) → EachOwn (AreNumberedAmong names) nodes →
      AllByRecursion (λ number. number < length names) (all_numbers nodes)
  all_within none all = tt
  all_within (node name own children later) all =
      each-append (λ number. number < length names) (own_numbers own) (all_numbers children ++ all_numbers later)
      (own_within own all.0.numbered)
      (each-append (λ number. number < length names) (all_numbers children) (all_numbers later) (all_within children all.1)
      (all_within later all.2))

  -- A name with one of the numbers is that of a property.
  own_named : (properties : List TreePropertyModel) →
      AllByRecursion (λ property. IsNumberOf names property.name property.number) properties →
      (number : ℕ) (name : List ℕ) → IsNumberOf names name number → Contains (own_numbers properties) number →
      Contains (own_property_names properties) name
  own_named [] all number name is has = absurd (Contains-none number has)
  own_named (property ∷ later) all number name is has =
      by_case (Contains-cases property.number (own_numbers later) number has) (λ has. own_named later all.1 number name is has)
    where
      by_case : (property.number ≡ number) ⊎ Contains (own_numbers later) number →
          (Contains (own_numbers later) number → Contains (own_property_names later) name) →
          Contains (property.name ∷ own_property_names later) name
      by_case (inl same) rest =
          let found : property.name ≡ name =
          same_Some property.name name (sym (subst (λ n. IsNumberOf names property.name n) same all.0) ∙ is) in
          subst (Contains (property.name ∷ own_property_names later)) found (Contains-first property.name (own_property_names later))
      by_case (inr has) rest = Contains-others property.name (own_property_names later) name (rest has)

  all_named : (nodes : Nodes (List TreePropertyModel)) → EachOwn (AreNumberedAmong names) nodes →
      (number : ℕ) (name : List ℕ) → IsNumberOf names name number → Contains (all_numbers nodes) number → Contains (all_names nodes) name
  all_named none all number name is has = absurd (Contains-none number has)
  all_named (node n own children later) all number name is has =
      by_own (Contains-append_cases (own_numbers own) (all_numbers children ++ all_numbers later) number has)
      (λ has. all_named children all.1 number name is has) (λ has. all_named later all.2 number name is has)
    where
      by_rest : Contains (all_numbers children) number ⊎ Contains (all_numbers later) number →
          (Contains (all_numbers children) number → Contains (all_names children) name) →
          (Contains (all_numbers later) number → Contains (all_names later) name) →
          Contains (all_names (node n own children later)) name
      by_rest (inl has) below after =
          Contains-append_right (own_property_names own) (all_names children ++ all_names later) name
          (Contains-append_left (all_names children) (all_names later) name (below has))
      by_rest (inr has) below after =
          Contains-append_right (own_property_names own) (all_names children ++ all_names later) name
          (Contains-append_right (all_names children) (all_names later) name (after has))

      by_own : Contains (own_numbers own) number ⊎ Contains (all_numbers children ++ all_numbers later) number →
          (Contains (all_numbers children) number → Contains (all_names children) name) →
          (Contains (all_numbers later) number → Contains (all_names later) name) →
          Contains (all_names (node n own children later)) name
      by_own (inl has) below after =
          Contains-append_left (own_property_names own) (all_names children ++ all_names later) name
          (own_named own all.0.numbered number name is has)
      by_own (inr has) below after = by_rest (Contains-append_cases (all_numbers children) (all_numbers later) number has) below after

  -- Where the marks at the numbers of properties are set, the properties have ranks.
  module _ (sorted : List (List ℕ)) (marks : List Bool) (ranks : List ℕ) (are : AreNumbered sorted (marked_table names marks) ranks) where
    own_ranked : (properties : List TreePropertyModel) →
        AllByRecursion (λ property. IsNumberOf names property.name property.number) properties →
        ((number : ℕ) → Contains (own_numbers properties) number → get_or marks number false ≡ true) →
        AllByRecursion (λ property. IsNumberOf sorted property.name (get_or ranks property.number 0)) properties
    own_ranked [] all set = tt
    own_ranked (property ∷ later) all set = (
      rank_there sorted names marks ranks property.name property.number are all.0
          (set property.number (Contains-first property.number (own_numbers later))),
      own_ranked later all.1 (λ number has. set number (Contains-others property.number (own_numbers later) number has)),
    )

    nodes_ranked : (nodes : Nodes (List TreePropertyModel)) → EachOwn (AreNumberedAmong names) nodes →
        ((number : ℕ) → Contains (all_numbers nodes) number → get_or marks number false ≡ true) → AreRankedNodes sorted ranks nodes
    nodes_ranked none all set = tt
    nodes_ranked (node name own children later) all set = (
      record {
        distinct = all.0.distinct;
        ranked = own_ranked own all.0.numbered
            (λ number has. set number (Contains-append_left (own_numbers own) (all_numbers children ++ all_numbers later) number has));
      },
      nodes_ranked children all.1
          (λ number has. set number (Contains-append_right (own_numbers own) (all_numbers children ++ all_numbers later) number
          (Contains-append_left (all_numbers children) (all_numbers later) number has))),
      nodes_ranked later all.2
          (λ number has. set number (Contains-append_right (own_numbers own) (all_numbers children ++ all_numbers later) number
          (Contains-append_right (all_numbers children) (all_numbers later) number has))),
    )

  module _ (nodes : Nodes (List TreePropertyModel)) (all : EachOwn (AreNumberedAmong names) nodes) where
    -- The marks at the numbers of all properties.
    abbrev pub used_marks : List Bool
    used_marks = with_marks (all_numbers nodes) (replicate (length names) false)

    pub used_ranked : (sorted : List (List ℕ)) (ranks : List ℕ) → AreNumbered sorted (marked_table names used_marks) ranks →
        AreRankedNodes sorted ranks nodes
    used_ranked sorted ranks are =
        nodes_ranked sorted used_marks ranks are nodes all
        (λ number has. is_marked (all_numbers nodes) (replicate (length names) false) number
        (subst (λ n. number < n) (sym (length-replicate (length names) false))
        (each-contains (λ number. number < length names) (all_numbers nodes) number (all_within nodes all) has)) has)

    each_used : (kept : List (List ℕ)) → AllByRecursion (HasMark names used_marks) kept → AllByRecursion (Contains (all_names nodes)) kept
    each_used kept marks =
        each-weaker (HasMark names used_marks) (Contains (all_names nodes))
        (λ name mark. all_named nodes all mark.0 name mark.1
        (marked_only (all_numbers nodes) (length names) mark.0 mark.2)) kept marks

    -- The names that are used and long.
    pub long_names_used : AreDistinct names → (limit : ℕ) →
        limit < length (flat_map name_if_long (marked_names names used_marks)) → HaveLongNames limit nodes
    long_names_used distinct limit longer = (
      marked_names names used_marks,
      marked_are_distinct names used_marks distinct,
      each_used (marked_names names used_marks) (each_has_mark names used_marks),
      longer,
    )
