use Rattle.std.proofs.Common.{◌≡◌, ℕ, zero, suc, ◌<◌, ◌≤◌, Bool, true, false, cond, not, nat_le, T, List, [], ◌∷◌, length, set, filter}
use Rattle.std.proofs.Common.{bytes_eq}
use Rattle.std.proofs.Common.{true≢false, Ordering, Less, Equal, Greater, Some, slice_get, refl, sym, ap, ap₂, subst, ◌∙◌, nat_cmp, arith}
use Rattle.std.specs.Prelude.{◌==◌, ◌&&◌, ◌||◌, if◌then◌else◌}
use Rattle.std.specs.Cmp.{tied_itself, nat_cmp_is, ranks as nat_cmp_order}
use Rattle.std.specs.Cmp.Lexicographic.{slice_cmp}
use Rattle.std.specs.FinMap.{from_sorted, insert, is_sorted, put}
use Rattle.std.specs.FinMap.Entries.{by_order, below_all, where_key}
use Rattle.std.specs.List.{insert as insert_at}
use Rattle.std.specs.List.Sorted.{IsStrictlySortedBy}
use Rattle.std.specs.Ordering.{ordering_reverse, MatchOrdering, is_lt}
use Rattle.std.proofs.Math.Bool.{or-false}
use Rattle.std.proofs.lemmas.Bool.{le-leb, leb-true}
use Rattle.std.proofs.lemmas.Bool.Decides.{Decides-eqb, same_from_decides}
use Rattle.std.proofs.lemmas.Cmp.{nat_list_cmp_total}
use Rattle.std.proofs.lemmas.Map.Keys.{sorted_tail}
use Rattle.std.proofs.lemmas.Option.{get_or_from_slice_get, slice_get_within, slice_get-get_or}
use Rattle.std.proofs.lemmas.Slice.Eq.{bytes_eq-Decides}
use Rattle.bi_lay.specs.Contents.{name_numbered}
use Rattle.bi_lay.specs.declared.items.Value.{Value}
use Rattle.bi_lay.specs.Values.{value_bytes}
use Rattle.bi_fdt.specs.Numbers.{IsNumberOf}
use Rattle.bi_fit.specs.declared.property_names.ChangedNumbers.{ChangedNumbers}
use Rattle.bi_fdt.proofs.ByName.{first_before}
use Rattle.bi_fit.specs.Names.{is_payload_name}
use Rattle.bi_fit.specs.ChangedNames.{AreRankedNames, is_payload_rank}
use Rattle.bi_fit.specs.PropertyMapModels.{among, with_property_value}
use Rattle.bi_fit.proofs.PropertyMaps.{from_sorted-put, from_sorted-kept}
use Rattle.bi_fit.specs.ImageTree.{without_payload}
use Rattle.bi_fit.specs.PropertyMaps.{named_values, AreRanksWithin, index_of_rank, is_entry_ranked}

-- Properties by the ranks of their names are in the order of their names, also as one is inserted, changed or left out.

-- Names in byte order are in the order of their ranks.
ranks_match : (names : List (List ℕ)) → IsStrictlySortedBy (slice_cmp nat_cmp) names → (rank other : ℕ) (name other_name : List ℕ) →
    slice_get names rank ≡ Some name → slice_get names other ≡ Some other_name →
    MatchOrdering (slice_cmp nat_cmp name other_name) (rank < other) (rank ≡ other) (other < rank)
ranks_match [] ordered rank other name other_name there other_there = absurd cc
ranks_match (first ∷ names) ordered zero zero name other_name there other_there =
    let same : name ≡ other_name = cc in
    let tied : slice_cmp nat_cmp name other_name ≡ Equal = subst (λ n. slice_cmp nat_cmp name n ≡ Equal) same
    (tied_itself nat_list_cmp_total name) in
    rw tied refl
ranks_match (first ∷ names) ordered zero (suc other) name other_name there other_there =
    let same : first ≡ name = cc in
    let less : slice_cmp nat_cmp name other_name ≡ Less =
    subst (λ n. slice_cmp nat_cmp n other_name ≡ Less) same (first_before first names ordered other other_name other_there) in
    let below : zero < suc other = omega arith in
    rw less below
ranks_match (first ∷ names) ordered (suc rank) zero name other_name there other_there =
    let same : first ≡ other_name = cc in
    let less : slice_cmp nat_cmp other_name name ≡ Less =
    subst (λ n. slice_cmp nat_cmp n name ≡ Less) same (first_before first names ordered rank name there) in
    let greater : slice_cmp nat_cmp name other_name ≡ Greater = nat_list_cmp_total.antisymm name other_name ∙ ap ordering_reverse less in
    let below : zero < suc rank = omega arith in
    rw greater below
ranks_match (first ∷ names) ordered (suc rank) (suc other) name other_name there other_there =
    more (slice_cmp nat_cmp name other_name)
    (ranks_match names (sorted_tail (slice_cmp nat_cmp) first names ordered) rank other name other_name there other_there)
  where
    more : (o : Ordering) → MatchOrdering o (rank < other) (rank ≡ other) (other < rank) →
        MatchOrdering o (suc rank < suc other) (suc rank ≡ suc other) (suc other < suc rank)
    more Less below = omega arith
    more Equal same = ap suc same
    more Greater above = omega arith

module _ (names : List (List ℕ)) (ordered : IsStrictlySortedBy (slice_cmp nat_cmp) names) where
  -- So they are compared as their ranks are.
  pub rank_cmp : (rank other : ℕ) → rank < length names → other < length names →
      slice_cmp nat_cmp (name_numbered names rank) (name_numbered names other) ≡ nat_cmp rank other
  rank_cmp rank other within other_within =
      nat_cmp_is rank other (slice_cmp nat_cmp (name_numbered names rank) (name_numbered names other))
      (ranks_match names ordered rank other (name_numbered names rank) (name_numbered names other)
      (slice_get-get_or names rank [] within) (slice_get-get_or names other [] other_within))

  -- A rank is that of a name if and only if the names are equal.
  same_rank : (rank other : ℕ) (name : List ℕ) → rank < length names → IsNumberOf names name other →
      (rank == other) ≡ bytes_eq (name_numbered names rank) name
  same_rank rank other name within is =
      let there : name_numbered names other ≡ name = get_or_from_slice_get names other name [] is in
      same_from_decides (rank == other) (bytes_eq (name_numbered names rank) name) (Decides-eqb rank other) (
        (λ equal.
            let tied : slice_cmp nat_cmp (name_numbered names rank) (name_numbered names other) ≡ Equal =
            subst (λ n. slice_cmp nat_cmp (name_numbered names rank) n ≡ Equal)
            ((bytes_eq-Decides (name_numbered names rank) name).0 equal ∙ sym there)
            (tied_itself nat_list_cmp_total (name_numbered names rank)) in
            subst (λ o. MatchOrdering o (rank < other) (rank ≡ other) (other < rank)) tied
            (ranks_match names ordered rank other (name_numbered names rank) (name_numbered names other)
            (slice_get-get_or names rank [] within) (slice_get-get_or names other [] (slice_get_within names other name is)))),
        (λ equal. (bytes_eq-Decides (name_numbered names rank) name).1 (ap (name_numbered names) equal ∙ there)),
      )

  -- Ranks that are in order are those of names in order.
  below-named : (rank : ℕ) → rank < length names → (entries : List (ℕ × Value)) → AreRanksWithin names entries →
      below_all (slice_cmp nat_cmp) (name_numbered names rank) (named_values names entries) ≡ below_all nat_cmp rank entries
  below-named rank within [] are = refl
  below-named rank within (entry ∷ entries) are =
      ap₂ (λ o rest. is_lt o && rest) (rank_cmp rank entry.0 within are.0) (below-named rank within entries are.1)

  sorted-named : (entries : List (ℕ × Value)) → AreRanksWithin names entries →
      is_sorted (slice_cmp nat_cmp) (named_values names entries) ≡ is_sorted nat_cmp entries
  sorted-named [] are = refl
  sorted-named (entry ∷ entries) are = ap₂ ◌&&◌ (below-named entry.0 are.0 entries are.1) (sorted-named entries are.1)

  pub named_in_order : (entries : List (ℕ × Value)) → AreRanksWithin names entries → T (is_sorted nat_cmp entries) →
      T (is_sorted (slice_cmp nat_cmp) (named_values names entries))
  named_in_order entries are ascending = subst T (sym (sorted-named entries are)) ascending

  module _ (rank : ℕ) (within : rank < length names) (value : Value) where
    -- One more rank is one more name.
    pub named-put : (entries : List (ℕ × Value)) → AreRanksWithin names entries →
        named_values names (put nat_cmp rank value entries) ≡ put (slice_cmp nat_cmp) (name_numbered names rank) (value_bytes value)
        (named_values names entries)
    named-put [] are = refl
    named-put (entry ∷ entries) are =
        subst (λ o. named_values names (put nat_cmp rank value (entry ∷ entries))
        ≡ by_order o ((name_numbered names rank, value_bytes value) ∷ named_values names (entry ∷ entries))
        ((name_numbered names entry.0, value_bytes value) ∷ named_values names entries)
        ((name_numbered names entry.0, value_bytes entry.1) ∷ put (slice_cmp nat_cmp) (name_numbered names rank) (value_bytes value)
        (named_values names entries)))
        (sym (rank_cmp rank entry.0 within are.0)) (by_cmp (nat_cmp rank entry.0) (named-put entries are.1))
      where
        by_cmp : (o : Ordering) →
            named_values names (put nat_cmp rank value entries) ≡ put (slice_cmp nat_cmp) (name_numbered names rank)
            (value_bytes value) (named_values names entries) →
            named_values names (by_order o ((rank, value) ∷ entry ∷ entries) ((entry.0, value) ∷ entries) (entry
            ∷ put nat_cmp rank value entries))
            ≡ by_order o ((name_numbered names rank, value_bytes value) ∷ named_values names (entry ∷ entries))
            ((name_numbered names entry.0, value_bytes value) ∷ named_values names entries)
            ((name_numbered names entry.0, value_bytes entry.1) ∷ put (slice_cmp nat_cmp) (name_numbered names rank)
            (value_bytes value) (named_values names entries))
        by_cmp Less rest = refl
        by_cmp Equal rest = refl
        by_cmp Greater rest = ap (λ l. (name_numbered names entry.0, value_bytes entry.1) ∷ l) rest

    -- The ranks stay those of names.
    pub within-put : (entries : List (ℕ × Value)) → AreRanksWithin names entries → AreRanksWithin names (put nat_cmp rank value entries)
    within-put [] are = (within, tt)
    within-put (entry ∷ entries) are = by_cmp (nat_cmp rank entry.0) (within-put entries are.1)
      where
        by_cmp : (o : Ordering) → AreRanksWithin names (put nat_cmp rank value entries) →
            AreRanksWithin names (by_order o ((rank, value) ∷ entry ∷ entries) ((entry.0, value) ∷ entries) (entry
            ∷ put nat_cmp rank value entries))
        by_cmp Less rest = (within, are)
        by_cmp Equal rest = are
        by_cmp Greater rest = (are.0, rest)

    -- The map has the property with this name.
    pub model-put : (entries items : List (ℕ × Value)) → items ≡ put nat_cmp rank value entries → AreRanksWithin names entries →
        T (is_sorted nat_cmp entries) → (name : List ℕ) → IsNumberOf names name rank →
        among names (from_sorted (named_values names items)) ≡ with_property_value name (value_bytes value) (among names (from_sorted
        (named_values names entries)))
    model-put entries items is are ascending name is_name =
        ap (λ l. among names (from_sorted (named_values names l))) is
        ∙ ap (λ l. among names (from_sorted l)) (named-put entries are)
        ∙ ap (among names) (from_sorted-put (named_values names entries) (name_numbered names rank)
        (value_bytes value) (named_in_order entries are ascending))
        ∙ ap (λ n. among names (insert (from_sorted (named_values names entries)) n (value_bytes value)))
        (get_or_from_slice_get names rank name [] is_name)

  module _ (ranks : ChangedNumbers) (ranked : AreRankedNames names ranks) where
    -- A rank is that of a property that holds a payload or names its region if the name is.
    payload_rank : (rank : ℕ) → rank < length names → is_payload_rank ranks rank ≡ is_payload_name (name_numbered names rank)
    payload_rank rank within =
        ap₂ ◌||◌ (same_rank rank ranks.payload _ within ranked.numbers.payload)
        (ap₂ ◌||◌ (same_rank rank ranks.offset _ within ranked.numbers.offset)
        (ap₂ ◌||◌ (same_rank rank ranks.position _ within ranked.numbers.position)
        (same_rank rank ranks.size _ within ranked.numbers.size ∙ sym (or-false _))))

    -- Whether an entry is none of them.
    abbrev pub keeps_value : ℕ × Value → Bool
    keeps_value entry = not (is_payload_rank ranks entry.0)

    -- The entries that are kept are the properties that are.
    pub named-filter : (entries : List (ℕ × Value)) → AreRanksWithin names entries →
        named_values names (filter keeps_value entries) ≡ where_key (slice_cmp nat_cmp) (λ name. not (is_payload_name name))
        (named_values names entries)
    named-filter [] are = refl
    named-filter (entry ∷ entries) are =
        subst (λ b. named_values names (cond (keeps_value entry) (entry ∷ filter keeps_value entries) (filter keeps_value entries))
        ≡ cond (not b) ((name_numbered names entry.0, value_bytes entry.1)
        ∷ where_key (slice_cmp nat_cmp) (λ name. not (is_payload_name name)) (named_values names entries))
        (where_key (slice_cmp nat_cmp) (λ name. not (is_payload_name name)) (named_values names entries)))
        (payload_rank entry.0 are.0) (where_kept (keeps_value entry) (named-filter entries are.1))
      where
        where_kept : (b : Bool) →
            named_values names (filter keeps_value entries) ≡ where_key (slice_cmp nat_cmp) (λ name. not (is_payload_name name))
            (named_values names entries) →
            named_values names (cond b (entry ∷ filter keeps_value entries) (filter keeps_value entries))
            ≡ cond b ((name_numbered names entry.0, value_bytes entry.1)
            ∷ where_key (slice_cmp nat_cmp) (λ name. not (is_payload_name name)) (named_values names entries))
            (where_key (slice_cmp nat_cmp) (λ name. not (is_payload_name name)) (named_values names entries))
        where_kept true rest = ap (λ l. (name_numbered names entry.0, value_bytes entry.1) ∷ l) rest
        where_kept false rest = rest

    -- So the map of those that are kept is that of the properties that are.
    pub by_name-filter : (entries : List (ℕ × Value)) → AreRanksWithin names entries → T (is_sorted nat_cmp entries) →
        from_sorted {R = slice_cmp nat_cmp} (named_values names (filter keeps_value entries)) ≡ without_payload (from_sorted
        (named_values names entries))
    by_name-filter entries are ascending =
        ap (λ l. from_sorted {R = slice_cmp nat_cmp} l) (named-filter entries are)
        ∙ from_sorted-kept (named_values names entries) (named_in_order entries are ascending)

-- ---- the place of a rank

strict : (rank : ℕ) → rank < rank → ⊥
strict rank less = omega arith

no_less : (rank other : ℕ) → other < rank → rank ≤ other → ⊥
no_less rank other less within = omega arith

module _ (rank : ℕ) (value : Value) where
  -- It is one of an entry, or the end.
  pub index_within : (entries : List (ℕ × Value)) → index_of_rank entries rank ≤ length entries
  index_within [] = omega arith
  index_within (entry ∷ entries) = by_test (nat_le rank entry.0) (index_within entries)
    where
      by_test : (b : Bool) → index_of_rank entries rank ≤ length entries →
          (if b then 0 else suc (index_of_rank entries rank)) ≤ suc (length entries)
      by_test true within = omega arith
      by_test false within = omega arith

  -- An entry of a new rank in its place is one more,
  pub put_new : (entries : List (ℕ × Value)) → is_entry_ranked (slice_get entries (index_of_rank entries rank)) rank ≡ false →
      insert_at entries (index_of_rank entries rank) (rank, value) ≡ put nat_cmp rank value entries
  put_new [] apart = refl
  put_new (entry ∷ entries) apart = by_cmp (nat_cmp rank entry.0) (nat_cmp_order rank entry.0) refl
      (nat_le rank entry.0) refl (put_new entries)
    where
      by_cmp : (o : Ordering) → MatchOrdering o (rank < entry.0) (rank ≡ entry.0) (entry.0 < rank) → nat_cmp rank entry.0 ≡ o →
          (b : Bool) → nat_le rank entry.0 ≡ b →
          (is_entry_ranked (slice_get entries (index_of_rank entries rank)) rank ≡ false →
          insert_at entries (index_of_rank entries rank) (rank, value) ≡ put nat_cmp rank value entries) →
          insert_at (entry ∷ entries) (index_of_rank (entry ∷ entries) rank) (rank, value) ≡ put nat_cmp rank value (entry ∷ entries)
      by_cmp Less order is true le rest = rw (is, le) refl
      by_cmp Less order is false le rest = absurd (true≢false (sym (le-leb rank entry.0 (omega arith)) ∙ le))
      by_cmp Equal order is true le rest =
          absurd (true≢false (sym ((Decides-eqb entry.0 rank).1 (sym order)) ∙ subst (λ b. is_entry_ranked (slice_get (entry ∷ entries)
          (if b then 0 else suc (index_of_rank entries rank))) rank ≡ false) le apart))
      by_cmp Equal order is false le rest = absurd (true≢false (sym (le-leb rank entry.0 (omega arith)) ∙ le))
      by_cmp Greater order is true le rest = absurd (no_less rank entry.0 order (leb-true rank entry.0 le))
      by_cmp Greater order is false le rest =
          let apart : is_entry_ranked (slice_get entries (index_of_rank entries rank)) rank ≡ false =
          subst (λ b. is_entry_ranked (slice_get (entry ∷ entries) (if b then 0 else suc (index_of_rank entries rank))) rank
          ≡ false) le apart in
          rw (is, le) (ap (λ l. entry ∷ l) (rest apart))

  -- and one in the place of the one of its rank has another value.
  pub put_other : (entries : List (ℕ × Value)) → is_entry_ranked (slice_get entries (index_of_rank entries rank)) rank ≡ true →
      set entries (index_of_rank entries rank) (rank, value) ≡ put nat_cmp rank value entries
  put_other [] there = absurd (true≢false (sym there))
  put_other (entry ∷ entries) there = by_cmp (nat_cmp rank entry.0) (nat_cmp_order rank entry.0) refl
      (nat_le rank entry.0) refl (put_other entries)
    where
      by_cmp : (o : Ordering) → MatchOrdering o (rank < entry.0) (rank ≡ entry.0) (entry.0 < rank) → nat_cmp rank entry.0 ≡ o →
          (b : Bool) → nat_le rank entry.0 ≡ b →
          (is_entry_ranked (slice_get entries (index_of_rank entries rank)) rank ≡ true →
          set entries (index_of_rank entries rank) (rank, value) ≡ put nat_cmp rank value entries) →
          set (entry ∷ entries) (index_of_rank (entry ∷ entries) rank) (rank, value) ≡ put nat_cmp rank value (entry ∷ entries)
      by_cmp Less order is true le rest =
          let here : (entry.0 == rank) ≡ true = subst (λ b. is_entry_ranked (slice_get (entry ∷ entries)
          (if b then 0 else suc (index_of_rank entries rank))) rank ≡ true) le there in
          absurd (strict rank (subst (λ n. rank < n) ((Decides-eqb entry.0 rank).0 here) order))
      by_cmp Less order is false le rest = absurd (true≢false (sym (le-leb rank entry.0 (omega arith)) ∙ le))
      by_cmp Equal order is true le rest = rw (is, le) (ap (λ n. (n, value) ∷ entries) order)
      by_cmp Equal order is false le rest = absurd (true≢false (sym (le-leb rank entry.0 (omega arith)) ∙ le))
      by_cmp Greater order is true le rest = absurd (no_less rank entry.0 order (leb-true rank entry.0 le))
      by_cmp Greater order is false le rest =
          let there : is_entry_ranked (slice_get entries (index_of_rank entries rank)) rank ≡ true =
          subst (λ b. is_entry_ranked (slice_get (entry ∷ entries) (if b then 0 else suc (index_of_rank entries rank))) rank
          ≡ true) le there in
          rw (is, le) (ap (λ l. entry ∷ l) (rest there))
