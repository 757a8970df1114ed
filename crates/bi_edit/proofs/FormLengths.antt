use Rattle.std.proofs.Common.{◌≡◌, ◌≢◌, ◌⊎◌, zero, suc, ℕ, ◌+◌, ◌*◌, ◌<◌, ◌≤◌, Bool, true, false, not, cond, inl, inr, length, map}
use Rattle.std.proofs.Common.{List, [], ◌∷◌, ◌++◌, Option, Some, None, Ordering, Less, Equal, Greater}
use Rattle.std.proofs.Common.{Contains, filter, bytes_eq, nat_cmp, refl, sym, ap, subst, ◌∙◌, arith}
use Rattle.std.specs.Cmp.Lexicographic.{slice_cmp}
use Rattle.std.specs.FinMap.{entries, get, insert, get-entries, entries-insert, put, find}
use Rattle.std.specs.FinMap.Entries.{by_order}
use Rattle.std.specs.List.{AllZip, sum_by}
use Rattle.std.specs.Ordering.{is_eq}
use Rattle.std.proofs.lemmas.Cmp.{nat_list_cmp_total}
use Rattle.std.proofs.lemmas.List.{map-append}
use Rattle.std.proofs.lemmas.List.Elements.{Contains-append_left, Contains-append_right, Contains-append_cases}
use Rattle.std.proofs.lemmas.List.Filters.{sum_by-filter_both}
use Rattle.std.proofs.lemmas.List.Sums.{sum_by-cons, sum_by-append, get_or-le-sum_by}
use Rattle.std.proofs.lemmas.Slice.Eq.{bytes_eq-Decides}
use Rattle.bi_base.specs.declared.fault.Fault.{Fault}
use Rattle.bi_base.specs.Alignments.{IsAlignment}
use Rattle.bi_base.specs.Aligns.{align_bytes}
use Rattle.bi_base.specs.Cells.{cell, up_to}
use Rattle.bi_base.specs.Limits.{Limits}
use Rattle.bi_base.proofs.AlignmentLaws.{up_to-le, up_to-near, up_to-whole, whole-four, alignment-positive, IsAlignment-four}
use Rattle.bi_base.proofs.CellLaws.{length-cell}
use Rattle.bi_base.proofs.ListMembers.{each-contains, Contains-cases, Contains-first, Contains-others, Contains-filter}
use Rattle.bi_blob.specs.Tree.{Nodes, none, node, Root, with_each, as_nodes, AreDistinct, Property, PropertyMap}
use Rattle.bi_blob.specs.Blob.{Reservation, reservation_block}
use Rattle.bi_blob.specs.Events.{Event, NodeStart, NodeProperty, NodeEnd, events, events_of}
use Rattle.bi_blob.specs.Layout.{distinct_names, event_width, structure_block, strings_block, length_before_padding}
use Rattle.bi_blob.specs.Layout.{in_byte_order, text_of_events, text_of_tree}
use Rattle.bi_blob.proofs.Texts.EventLengths.{has_event_widths, text_of_events_has_length}
use Rattle.bi_blob.proofs.Texts.NamesOnce.{distinct_names-all, distinct_names-only, distinct_names-distinct}
use Rattle.bi_fit.specs.declared.form.Form.{Form}
use Rattle.bi_fit.specs.declared.form.Form.TheVariants.{Embedded, External, Aligned}
use Rattle.bi_fit.specs.Documents.{IsTextFault}
use Rattle.bi_fit.specs.ImageTree.{ImageTree, IsApart, IsImageTree, children_of, each_own, image_nodes, with_children_of, with_image_nodes}
use Rattle.bi_fit.specs.Names.{data_name, data_offset_name, data_size_name, images_name}
use Rattle.bi_fit.specs.Text.{end_after, fit_text, payloads_end, with_payload, with_payloads}
use Rattle.bi_fit.proofs.LongNames.{names_of_nodes, names_of_nodes-first}
use Rattle.bi_fit.proofs.Meanings.{same_in_some}
use Rattle.bi_fit.proofs.NormalTrees.{length-fit_text}
use Rattle.bi_fit.proofs.PayloadProperties.{get-put_other}

-- The text of an image tree in the form Embedded is no longer than its text in any form: `data` takes fewer bytes of the structure block
-- than `data-offset` and `data-size`, and at most its own five bytes more of the strings block.

-- ---- a property that is put among others

-- The names of properties.
abbrev names_of : List Property → List (List ℕ)
names_of properties = map (λ property. property.0) properties

-- Properties are others with one more between them.
record IsWithOneMore (one : Property) (before after : List Property) : Type 0 where
  pub front : List Property
  pub back : List Property
  pub is_before : before ≡ front ++ back
  pub is_after : after ≡ front ++ (one ∷ back)

one_later : (one first : Property) (before after : List Property) → IsWithOneMore one before after →
    IsWithOneMore one (first ∷ before) (first ∷ after)
one_later one first before after is = record {
  front = first ∷ is.front;
  back = is.back;
  is_before = ap (λ l. first ∷ l) is.is_before;
  is_after = ap (λ l. first ∷ l) is.is_after;
}

-- A property with a new name is put between the others.
put_between : (one : Property) (properties : List Property) → find (slice_cmp nat_cmp) one.0 properties ≡ None →
    IsWithOneMore one properties (put (slice_cmp nat_cmp) one.0 one.1 properties)
put_between one [] new = record { front = []; back = []; is_before = refl; is_after = refl }
put_between one (first ∷ later) new =
    by_cmp (slice_cmp nat_cmp one.0 first.0) new (λ new. put_between one later new)
  where
    by_cmp : (o : Ordering) → cond (is_eq o) (Some first.1) (find (slice_cmp nat_cmp) one.0 later) ≡ None →
        (find (slice_cmp nat_cmp) one.0 later ≡ None → IsWithOneMore one later (put (slice_cmp nat_cmp) one.0 one.1 later)) →
        IsWithOneMore one (first ∷ later)
        (by_order o (one ∷ first ∷ later) ((first.0, one.1) ∷ later) (first ∷ put (slice_cmp nat_cmp) one.0 one.1 later))
    by_cmp Less new rest = record { front = []; back = first ∷ later; is_before = refl; is_after = refl }
    by_cmp Equal new rest = absurd cc
    by_cmp Greater new rest = one_later one first later _ (rest new)

inserted : (properties : PropertyMap) (name value : List ℕ) → get properties name ≡ None →
    IsWithOneMore (name, value) (entries properties) (entries (insert properties name value))
inserted properties name value new =
    subst (IsWithOneMore (name, value) (entries properties)) (sym (entries-insert nat_list_cmp_total properties name value))
    (put_between (name, value) (entries properties) (sym (get-entries properties name) ∙ new))

-- How many bytes the tokens of properties take.
abbrev width_of : List Property → ℕ
width_of properties = sum_by event_width (map NodeProperty properties)

width-append : (front back : List Property) → width_of (front ++ back) ≡ width_of front + width_of back
width-append front back =
    ap (sum_by event_width) (map-append NodeProperty front back)
    ∙ sum_by-append event_width (map NodeProperty front) (map NodeProperty back)

-- The token of the one that was put among the others is added,
one_more_width : (one : Property) (before after : List Property) → IsWithOneMore one before after →
    width_of after ≡ width_of before + event_width (NodeProperty one)
one_more_width one before after is =
    omega (
      arith,
      ap width_of is.is_before,
      ap width_of is.is_after,
      width-append is.front is.back,
      width-append is.front (one ∷ is.back),
      sum_by-cons event_width (NodeProperty one) (map NodeProperty is.back),
    )

-- the names of the others stay,
old_name_stays : (one : Property) (before after : List Property) → IsWithOneMore one before after →
    (name : List ℕ) → Contains (names_of before) name → Contains (names_of after) name
old_name_stays one before after is name has =
    subst (λ l. Contains l name) (sym (ap names_of is.is_after ∙ map-append (λ p. p.0) is.front (one ∷ is.back)))
    (where_there (Contains-append_cases (names_of is.front) (names_of is.back) name
    (subst (λ l. Contains l name) (ap names_of is.is_before ∙ map-append (λ p. p.0) is.front is.back) has)))
  where
    where_there : Contains (names_of is.front) name ⊎ Contains (names_of is.back) name →
        Contains (names_of is.front ++ names_of (one ∷ is.back)) name
    where_there (inl has) = Contains-append_left (names_of is.front) (names_of (one ∷ is.back)) name has
    where_there (inr has) =
        Contains-append_right (names_of is.front) (names_of (one ∷ is.back)) name (Contains-others one.0 (names_of is.back) name has)

-- and no other name than its own is new.
only_one_is_new : (one : Property) (before after : List Property) → IsWithOneMore one before after →
    (name : List ℕ) → Contains (names_of after) name → Contains (one.0 ∷ names_of before) name
only_one_is_new one before after is name has =
    subst (λ l. Contains (one.0 ∷ l) name) (sym (ap names_of is.is_before ∙ map-append (λ p. p.0) is.front is.back))
    (where_there (Contains-append_cases (names_of is.front) (names_of (one ∷ is.back)) name
    (subst (λ l. Contains l name) (ap names_of is.is_after ∙ map-append (λ p. p.0) is.front (one ∷ is.back)) has)))
  where
    where_back : (one.0 ≡ name) ⊎ Contains (names_of is.back) name → Contains (one.0 ∷ (names_of is.front ++ names_of is.back)) name
    where_back (inl same) =
        subst (λ n. Contains (one.0 ∷ (names_of is.front ++ names_of is.back)) n) same
        (Contains-first one.0 (names_of is.front ++ names_of is.back))
    where_back (inr has) =
        Contains-others one.0 _ name (Contains-append_right (names_of is.front) (names_of is.back) name has)

    where_there : Contains (names_of is.front) name ⊎ Contains (names_of (one ∷ is.back)) name →
        Contains (one.0 ∷ (names_of is.front ++ names_of is.back)) name
    where_there (inl has) =
        Contains-others one.0 _ name (Contains-append_left (names_of is.front) (names_of is.back) name has)
    where_there (inr has) = where_back (Contains-cases one.0 (names_of is.back) name has)

-- ---- distinct names among others

-- How many bytes a name takes in the strings block.
abbrev name_width : List ℕ → ℕ
name_width name = length name + 1

one_of_all : (name : List ℕ) (names : List (List ℕ)) → Contains names name → name_width name ≤ sum_by name_width names
one_of_all name names (k, below, is) =
    subst (λ other. name_width other ≤ sum_by name_width names) is (get_or-le-sum_by name_width names k name below)

one_and_others : (name : List ℕ) (names : List (List ℕ)) → Contains names name →
    name_width name + sum_by name_width (filter (λ other. not (bytes_eq name other)) names) ≤ sum_by name_width names
one_and_others name names has =
    let both = sum_by-filter_both (bytes_eq name) (λ other. not (bytes_eq name other)) (λ other. refl) name_width names in
    let one = one_of_all name (filter (bytes_eq name) names)
    (Contains-filter (bytes_eq name) names name ((bytes_eq-Decides name name).1 refl) has) in
    omega (arith, both, one)

-- A name that is not another one fails the test.
differs : (name other : List ℕ) → (other ≡ name → ⊥) → not (bytes_eq name other) ≡ true
differs name other is_other = where_same (bytes_eq name other) refl
  where
    where_same : (b : Bool) → bytes_eq name other ≡ b → not b ≡ true
    where_same true is = absurd (is_other (sym ((bytes_eq-Decides name other).0 is)))
    where_same false is = refl

-- Distinct names, all of them among others, together take no more bytes than these.
no_longer_than_others : (names others : List (List ℕ)) → AreDistinct names →
    ((name : List ℕ) → Contains names name → Contains others name) →
    sum_by name_width names ≤ sum_by name_width others
no_longer_than_others [] others distinct are = omega arith
no_longer_than_others (name ∷ later) others distinct are =
    let left = no_longer_than_others later (filter (λ other. not (bytes_eq name other)) others) distinct.1
    (λ other has. Contains-filter (λ other. not (bytes_eq name other)) others other
    (differs name other (each-contains (λ other. other ≢ name) later other distinct.0 has))
    (are other (Contains-others name later other has))) in
    omega (arith, sum_by-cons name_width name later, one_and_others name others (are name (Contains-first name later)), left)

-- Each of some names is one that may be new, or is among others.
abbrev AreAmong : (new : List ℕ) → (few many : List (List ℕ)) → Type 0
AreAmong new few many = (name : List ℕ) → Contains few name → Contains (new ∷ many) name

-- Names are among themselves,
among_same : (new : List ℕ) (names : List (List ℕ)) → AreAmong new names names
among_same new names name has = Contains-others new names name has

-- and among more names,
one_or : (new : List ℕ) (some all : List (List ℕ)) (name : List ℕ) → (Contains some name → Contains all name) →
    Contains (new ∷ some) name → Contains (new ∷ all) name
one_or new some all name widens has = where_there (Contains-cases new some name has)
  where
    where_there : (new ≡ name) ⊎ Contains some name → Contains (new ∷ all) name
    where_there (inl same) = subst (λ n. Contains (new ∷ all) n) same (Contains-first new all)
    where_there (inr has) = Contains-others new all name (widens has)

-- and two lists are among two others together, if each is among one of them.
among_both : (new : List ℕ) (few many other_few other_many : List (List ℕ)) → AreAmong new few many →
    AreAmong new other_few other_many → AreAmong new (few ++ other_few) (many ++ other_many)
among_both new few many other_few other_many are others_are name has = where_there (Contains-append_cases few other_few name has)
  where
    where_there : Contains few name ⊎ Contains other_few name → Contains (new ∷ (many ++ other_many)) name
    where_there (inl has) =
        one_or new many (many ++ other_many) name (λ has. Contains-append_left many other_many name has) (are name has)
    where_there (inr has) =
        one_or new other_many (many ++ other_many) name (λ has. Contains-append_right many other_many name has) (others_are name has)

-- So names that events use take at most the bytes of one name more.
one_name_more : (new : List ℕ) (few many : List (List ℕ)) → AreAmong new few many →
    sum_by name_width (distinct_names few) ≤ name_width new + sum_by name_width (distinct_names many)
one_name_more new few many are =
    omega (
      arith,
      no_longer_than_others (distinct_names few) (new ∷ distinct_names many) (distinct_names-distinct few)
          (λ name has. one_or new many (distinct_names many) name (distinct_names-all many name)
          (are name (distinct_names-only few name has))),
      sum_by-cons name_width new (distinct_names many),
    )

-- ---- nodes

-- How many bytes the tokens of nodes take.
abbrev width_of_nodes : Nodes PropertyMap → ℕ
width_of_nodes nodes = sum_by event_width (events (with_each entries nodes))

-- They are those of the first node, of the nodes below it, and of the nodes after it.
width_of_nodes-first : (name : List ℕ) (own : PropertyMap) (children later : Nodes PropertyMap) →
    width_of_nodes (node name own children later)
    ≡ event_width (NodeStart name) + width_of (entries own) + width_of_nodes children + event_width NodeEnd + width_of_nodes later
width_of_nodes-first name own children later =
    omega (
      arith,
      sum_by-cons event_width (NodeStart name) (map NodeProperty (entries own) ++ (below ++ (NodeEnd ∷ after))),
      sum_by-append event_width (map NodeProperty (entries own)) (below ++ (NodeEnd ∷ after)),
      sum_by-append event_width below (NodeEnd ∷ after),
      sum_by-cons event_width NodeEnd after,
    )
  where
    below : List Event
    below = events (with_each entries children)

    after : List Event
    after = events (with_each entries later)

-- The tokens of nodes with `fewer` bytes take at most those of other nodes with `more` bytes, and the names of their properties are among
-- those of the others, but for one that may be new.
record AreShorter (new : List ℕ) (fewer more : ℕ) (one other : Nodes PropertyMap) : Type 0 where
  pub width : width_of_nodes one + fewer ≤ width_of_nodes other + more
  pub names : AreAmong new (names_of_nodes one) (names_of_nodes other)

-- The properties of a node, likewise.
record IsShorter (new : List ℕ) (fewer more : ℕ) (one other : PropertyMap) : Type 0 where
  pub width : width_of (entries one) + fewer ≤ width_of (entries other) + more
  pub names : AreAmong new (names_of (entries one)) (names_of (entries other))

nodes_same : (new : List ℕ) (nodes : Nodes PropertyMap) → AreShorter new 0 0 nodes nodes
nodes_same new nodes = record { width = omega arith; names = among_same new (names_of_nodes nodes) }

own_same : (new : List ℕ) (own : PropertyMap) → IsShorter new 0 0 own own
own_same new own = record { width = omega arith; names = among_same new (names_of (entries own)) }

-- Nodes are shorter by as much as the first, those below it and those after it together.
first_shorter : (new name : List ℕ) (own other_own : PropertyMap) (children other_children later other_later : Nodes PropertyMap)
    (a b c d e f : ℕ) → IsShorter new a b own other_own → AreShorter new c d children other_children →
    AreShorter new e f later other_later →
    AreShorter new (a + c + e) (b + d + f) (node name own children later) (node name other_own other_children other_later)
first_shorter new name own other_own children other_children later other_later a b c d e f is below after = record {
  width = omega (
    arith,
    width_of_nodes-first name own children later,
    width_of_nodes-first name other_own other_children other_later,
    is.width,
    below.width,
    after.width,
  );
  names = λ found has.
      subst (λ l. Contains (new ∷ l) found) (sym (names_of_nodes-first name other_own other_children other_later))
      (among_both new (names_of (entries own)) (names_of (entries other_own)) (names_of_nodes children ++ names_of_nodes later)
      (names_of_nodes other_children ++ names_of_nodes other_later) is.names
      (among_both new (names_of_nodes children) (names_of_nodes other_children) (names_of_nodes later) (names_of_nodes other_later)
      below.names after.names) found
      (subst (λ l. Contains l found) (names_of_nodes-first name own children later) has));
}

-- They are shorter by less too.
shorter_by : (new : List ℕ) (a b c d : ℕ) (one other : Nodes PropertyMap) → c + b ≤ a + d → AreShorter new a b one other →
    AreShorter new c d one other
shorter_by new a b c d one other less are = record { width = omega (arith, less, are.width); names = are.names }

-- ---- lengths of texts

-- A text is padded to a multiple of four no further than to one of its alignment.
up_to-four : (align n : ℕ) → IsAlignment align → up_to 4 n ≤ up_to align n
up_to-four align n aligned =
    omega (
      arith,
      up_to-near 4 n (omega arith),
      up_to-le align n (omega (arith, alignment-positive align aligned)),
      up_to-whole 4 n,
      whole-four align (up_to align n) aligned (up_to-whole align n),
    )

-- The same text with another alignment.
same_with_align : (align cpu : ℕ) (reservations : List Reservation) (all : List Event) → IsAlignment align →
    length (text_of_events 4 cpu reservations all) ≤ length (text_of_events align cpu reservations all)
same_with_align align cpu reservations all aligned =
    omega (
      arith,
      (text_of_events_has_length 4 cpu reservations all IsAlignment-four).is_length,
      (text_of_events_has_length align cpu reservations all aligned).is_length,
      up_to-four align (length_before_padding (length (reservation_block reservations)) (length (structure_block all))
          (length (strings_block all))) aligned,
    )

-- A text of shorter nodes is no longer than one of the others with these bytes after it.
shorter_text : (new : List ℕ) (fewer more align cpu : ℕ) (reservations : List Reservation) (one other : Nodes PropertyMap) →
    IsAlignment align → AreShorter new fewer more one other → length new + 4 ≤ fewer →
    length (text_of_events 4 cpu reservations (events (with_each entries one)))
    ≤ length (text_of_events align cpu reservations (events (with_each entries other))) + more
shorter_text new fewer more align cpu reservations one other aligned are enough =
    let few = events (with_each entries one) in
    let many = events (with_each entries other) in
    let small = text_of_events_has_length 4 cpu reservations few IsAlignment-four in
    let large = text_of_events_has_length align cpu reservations many aligned in
    omega (
      arith,
      enough,
      are.width,
      one_name_more new (names_of_nodes one) (names_of_nodes other) are.names,
      small.structure,
      small.strings,
      small.is_length,
      large.structure,
      large.strings,
      large.is_length,
      up_to-near 4 (length_before_padding (length (reservation_block reservations)) (length (structure_block few))
          (length (strings_block few))) (omega arith),
      up_to-le align (length_before_padding (length (reservation_block reservations)) (length (structure_block many))
          (length (strings_block many))) (omega (arith, alignment-positive align aligned)),
    )

-- ---- images

-- How many images have a payload.
abbrev count_of : List (Option (List ℕ)) → ℕ
count_of [] = 0
count_of (None ∷ later) = count_of later
count_of (Some payload ∷ later) = count_of later + 1

-- The token of `data` takes less than those of `data-offset` and `data-size`, but for the bytes of the payload.
image_shorter : (align one begin : ℕ) (payload : List ℕ) (own : PropertyMap) → IsApart own (Some payload) →
    IsShorter data_name 17 (length payload) (with_payload None one (Some payload) own)
    (with_payload (Some align) begin (Some payload) own)
image_shorter align one begin payload own apart = record {
  width = omega (
    arith,
    one_more_width (data_name, payload) (entries own) _ put_data,
    one_more_width (data_offset_name, cell begin) (entries own) _ put_offset,
    one_more_width (data_size_name, cell (length payload)) (entries with_offset) _ put_size,
    has_event_widths.property (data_name, payload),
    has_event_widths.property (data_offset_name, cell begin),
    has_event_widths.property (data_size_name, cell (length payload)),
    length-cell begin,
    length-cell (length payload),
    up_to-near 4 (length payload + 12) (omega arith),
    up_to-le 4 (length (cell begin) + 12) (omega arith),
    up_to-le 4 (length (cell (length payload)) + 12) (omega arith),
  );
  names = λ name has.
      one_or data_name (names_of (entries own)) (names_of (entries (insert with_offset data_size_name (cell (length payload))))) name
      (λ has. old_name_stays (data_size_name, cell (length payload)) (entries with_offset) _ put_size name
      (old_name_stays (data_offset_name, cell begin) (entries own) _ put_offset name has))
      (only_one_is_new (data_name, payload) (entries own) _ put_data name has);
}
  where
    with_offset : PropertyMap
    with_offset = insert own data_offset_name (cell begin)

    put_data : IsWithOneMore (data_name, payload) (entries own) (entries (insert own data_name payload))
    put_data = inserted own data_name payload (apart.no_payload_name data_name refl)

    put_offset : IsWithOneMore (data_offset_name, cell begin) (entries own) (entries with_offset)
    put_offset = inserted own data_offset_name (cell begin) (apart.no_payload_name data_offset_name refl)

    put_size : IsWithOneMore (data_size_name, cell (length payload)) (entries with_offset)
        (entries (insert with_offset data_size_name (cell (length payload))))
    put_size = inserted with_offset data_size_name (cell (length payload))
        (get-put_other own data_offset_name (cell begin) data_size_name refl ∙ apart.no_payload_name data_size_name refl)

-- So image nodes that have their payloads are shorter than those of a blob that these follow, counted with what follows.
images_shorter : (align one end : ℕ) → 0 < align → (payloads : List (Option (List ℕ))) (nodes : Nodes PropertyMap) →
    AllZip IsApart (each_own nodes) payloads →
    AreShorter data_name (17 * count_of payloads + end) (payloads_end align end payloads) (with_payloads None one payloads nodes)
    (with_payloads (Some align) end payloads nodes)
images_shorter align one end positive [] nodes apart =
    shorter_by data_name 0 0 (17 * 0 + end) end nodes nodes (omega arith) (nodes_same data_name nodes)
images_shorter align one end positive (payload ∷ payloads) none apart = absurd apart
images_shorter align one end positive (None ∷ payloads) (node name own children later) apart =
    shorter_by data_name (0 + 0 + (17 * count_of payloads + end)) (0 + 0 + payloads_end align end payloads)
    (17 * count_of payloads + end) (payloads_end align end payloads) _ _ (omega arith)
    (first_shorter data_name name own own children children (with_payloads None one payloads later)
    (with_payloads (Some align) end payloads later) 0 0 0 0 (17 * count_of payloads + end) (payloads_end align end payloads)
    (own_same data_name own) (nodes_same data_name children) (images_shorter align one end positive payloads later apart.1))
images_shorter align one end positive (Some payload ∷ payloads) (node name own children later) apart =
    let next : ℕ = up_to align end + length payload in
    let ends : ℕ = payloads_end align next payloads in
    let count : ℕ = count_of payloads in
    shorter_by data_name (17 + 0 + (17 * count + next)) (length payload + 0 + ends) (17 * (count + 1) + end) ends _ _
    (omega (arith, up_to-le align end positive))
    (first_shorter data_name name (with_payload None (up_to 4 one) (Some payload) own)
    (with_payload (Some align) (up_to align end) (Some payload) own) children children
    (with_payloads None (end_after 4 one (Some payload)) payloads later) (with_payloads (Some align) next payloads later)
    17 (length payload) 0 0 (17 * count + next) ends
    (image_shorter align (up_to 4 one) (up_to align end) payload own apart.0) (nodes_same data_name children)
    (images_shorter align (end_after 4 one (Some payload)) next positive payloads later apart.1))

-- Without payloads they are the same.
same_images : (align one end : ℕ) (payloads : List (Option (List ℕ))) (nodes : Nodes PropertyMap) → count_of payloads ≡ 0 →
    with_payloads None one payloads nodes ≡ with_payloads (Some align) end payloads nodes
same_images align one end [] nodes absent = refl
same_images align one end (payload ∷ payloads) none absent = refl
same_images align one end (None ∷ payloads) (node name own children later) absent =
    ap (node name own children) (same_images align one end payloads later absent)
same_images align one end (Some payload ∷ payloads) (node name own children later) absent = absurd (omega (arith, absent))

-- ---- trees

module _ (new : List ℕ) (fewer more : ℕ) (change other_change : Nodes PropertyMap → Nodes PropertyMap) (images : Nodes PropertyMap)
    (are : AreShorter new fewer more (change images) (other_change images)) where
  -- A tree is shorter if its image nodes are.
  children_shorter : (nodes : Nodes PropertyMap) → children_of images_name nodes ≡ Some images →
      AreShorter new fewer more (with_children_of images_name change nodes) (with_children_of images_name other_change nodes)
  children_shorter none has = absurd cc
  children_shorter (node name own children later) has =
      where_first (bytes_eq name images_name) refl has (λ has. children_shorter later has)
    where
      where_first : (b : Bool) → bytes_eq name images_name ≡ b →
          children_of images_name (node name own children later) ≡ Some images → (children_of images_name later ≡ Some images →
          AreShorter new fewer more (with_children_of images_name change later) (with_children_of images_name other_change later)) →
          AreShorter new fewer more (with_children_of images_name change (node name own children later))
          (with_children_of images_name other_change (node name own children later))
      where_first true is has rest =
          let found : children ≡ images = same_in_some children images (rw is at has) in
          let below = subst (λ n. AreShorter new fewer more (change n) (other_change n)) (sym found) are in
          rw is
          (shorter_by new (0 + fewer + 0) (0 + more + 0) fewer more _ _ (omega arith)
          (first_shorter new name own own (change children) (other_change children) later later 0 0 fewer more 0 0
          (own_same new own) below (nodes_same new later)))
      where_first false is has rest =
          rw is
          (shorter_by new (0 + 0 + fewer) (0 + 0 + more) fewer more _ _ (omega arith)
          (first_shorter new name own own children children (with_children_of images_name change later)
          (with_children_of images_name other_change later) 0 0 0 0 fewer more (own_same new own) (nodes_same new children)
          (rest (rw is at has))))

  tree_shorter : (root : Root PropertyMap) → image_nodes root ≡ Some images →
      AreShorter new fewer more (as_nodes (with_image_nodes change root)) (as_nodes (with_image_nodes other_change root))
  tree_shorter root has =
      shorter_by new (0 + fewer + 0) (0 + more + 0) fewer more _ _ (omega arith)
      (first_shorter new [] root.own root.own (with_children_of images_name change root.children)
      (with_children_of images_name other_change root.children) none none 0 0 fewer more 0 0
      (own_same new root.own) (children_shorter root.children has) (nodes_same new none))

-- It is the same if its image nodes are.
same_children : (change other_change : Nodes PropertyMap → Nodes PropertyMap) →
    ((nodes : Nodes PropertyMap) → change nodes ≡ other_change nodes) →
    (nodes : Nodes PropertyMap) → with_children_of images_name change nodes ≡ with_children_of images_name other_change nodes
same_children change other_change same none = refl
same_children change other_change same (node name own children later) =
    where_first (bytes_eq name images_name) (same_children change other_change same later)
  where
    where_first : (b : Bool) → with_children_of images_name change later ≡ with_children_of images_name other_change later →
        cond b (node name own (change children) later) (node name own children (with_children_of images_name change later))
        ≡ cond b (node name own (other_change children) later) (node name own children (with_children_of images_name other_change later))
    where_first true rest = ap (λ n. node name own n later) (same children)
    where_first false rest = ap (node name own children) rest

module _ (align : ℕ) (aligned : IsAlignment align) (tree : ImageTree) (is : IsImageTree tree) where
  abbrev embedded : Root PropertyMap
  embedded = with_image_nodes (with_payloads None 0 tree.payloads) tree.root

  abbrev external : Root PropertyMap
  external = with_image_nodes (with_payloads (Some align) 0 tree.payloads) tree.root

  -- The blob with the payloads is no longer than one without them that they follow.
  blob_shorter : length (text_of_tree 4 tree.cpu tree.reservations (in_byte_order embedded))
      ≤ length (text_of_tree align tree.cpu tree.reservations (in_byte_order external)) + payloads_end align 0 tree.payloads
  blob_shorter = where_count (count_of tree.payloads) refl
    where
      where_count : (count : ℕ) → count_of tree.payloads ≡ count →
          length (text_of_tree 4 tree.cpu tree.reservations (in_byte_order embedded))
          ≤ length (text_of_tree align tree.cpu tree.reservations (in_byte_order external)) + payloads_end align 0 tree.payloads
      where_count zero absent =
          let same : in_byte_order embedded ≡ in_byte_order external =
          ap (λ nodes. in_byte_order (record { own = tree.root.own; children = nodes }))
          (same_children (with_payloads None 0 tree.payloads) (with_payloads (Some align) 0 tree.payloads)
          (λ nodes. same_images align 0 0 tree.payloads nodes absent) tree.root.children) in
          omega (
            arith,
            ap (λ root. length (text_of_tree 4 tree.cpu tree.reservations root)) same,
            same_with_align align tree.cpu tree.reservations (events_of (in_byte_order external)) aligned,
          )
      where_count (suc count) some =
          let four : length data_name ≡ 4 = refl in
          shorter_text data_name (17 * count_of tree.payloads + 0) (payloads_end align 0 tree.payloads) align tree.cpu tree.reservations
          (as_nodes embedded) (as_nodes external) aligned
          (tree_shorter data_name (17 * count_of tree.payloads + 0) (payloads_end align 0 tree.payloads)
          (with_payloads None 0 tree.payloads) (with_payloads (Some align) 0 tree.payloads) is.images
          (images_shorter align 0 0 (omega (arith, alignment-positive align aligned)) tree.payloads is.images is.apart)
          tree.root is.has_images)
          (omega (arith, some, four))

-- ---- forms

-- The text in the form Embedded is no longer than in any form,
pub embedded_is_shortest : (form : Form) (tree : ImageTree) → IsImageTree tree →
    length (fit_text Embedded tree) ≤ length (fit_text form tree)
embedded_is_shortest Embedded tree is = omega arith
embedded_is_shortest External tree is =
    omega (arith, length-fit_text Embedded tree, length-fit_text External tree, blob_shorter 4 IsAlignment-four tree is)
embedded_is_shortest (Aligned align) tree is =
    omega (
      arith,
      length-fit_text Embedded tree,
      length-fit_text (Aligned align) tree,
      blob_shorter (align_bytes align) align.is_alignment tree is,
    )

-- so it has a fault only if the text in each form has it.
pub embedded_fault_is_fault : (limits : Limits) (form : Form) (tree : ImageTree) (fault : Fault) → IsImageTree tree →
    IsTextFault limits Embedded tree fault → IsTextFault limits form tree fault
embedded_fault_is_fault limits form tree fault is failed =
    (failed.0, omega (arith, failed.1, embedded_is_shortest form tree is))
