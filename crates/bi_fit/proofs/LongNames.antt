use Rattle.std.proofs.Common.{◌≡◌, ◌⊎◌, ℕ, ◌+◌, ◌≤◌, Bool, true, false, cond, not, nat_le, inl, inr, List, [], ◌∷◌, ◌++◌, Option, rules}
use Rattle.std.proofs.Common.{Some, None, length, map}
use Rattle.std.proofs.Common.{Contains, filter, flat_map, bytes_eq, nat_cmp, refl, sym, ap, subst, ◌∙◌, arith}
use Rattle.std.specs.Prelude.{if◌then◌else◌}
use Rattle.std.proofs.Common.{Less}
use Rattle.std.specs.List.Sorted.{IsStrictlySortedBy}
use Rattle.std.proofs.lemmas.Map.Keys.{sorted_head, sorted_tail}
use Rattle.std.specs.Cmp.Lexicographic.{slice_cmp}
use Rattle.std.specs.FinMap.{get, insert, entries, from_entries, get-insert, get-entries, get-from_entries}
use Rattle.std.specs.FinMap.Entries.{is_some-find}
use Rattle.std.specs.List.{AllByRecursion, list_any, sum_by}
use Rattle.std.specs.Option.{is_some}
use Rattle.std.specs.Ordering.{eq_by_cmp}
use Rattle.std.proofs.lemmas.Cmp.{eq_by_cmp_equiv, nat_list_cmp_total}
use Rattle.std.proofs.lemmas.List.Concat.{flat_map-append, length-flat_map}
use Rattle.std.proofs.lemmas.List.Elements.{Contains-append_left, Contains-append_right, Contains-append_cases}
use Rattle.std.proofs.lemmas.List.Filters.{sum_by-filter_both}
use Rattle.std.proofs.lemmas.List.Sums.{sum_by-cons, get_or-le-sum_by}
use Rattle.std.proofs.lemmas.Map.Text.{is_eq-slice_cmp}
use Rattle.std.proofs.lemmas.Map.Views.{list_any-from_Contains, Contains-from_any}
use Rattle.std.proofs.lemmas.Slice.Eq.{bytes_eq-Decides}
use Rattle.bi_base.proofs.ListMembers.{Contains-none, Contains-cases, Contains-first, Contains-others, Contains-filter}
use Rattle.bi_blob.specs.Tree.{Nodes, none, node, with_each, as_nodes, IsNew, AreDistinct, FileProperty, FileNode, Property, PropertyMap}
use Rattle.bi_blob.specs.Tree.{property_of, properties_of}
use Rattle.bi_blob.specs.Events.{Event, NodeProperty, events, events_of}
use Rattle.bi_blob.specs.Events.{FileEvent, FileNodeStart, FileNodeProperty, FileNodeEnd, file_events}
use Rattle.bi_blob.specs.Blob.{reservation_block}
use Rattle.bi_blob.specs.Layout.{event_names, used_names, distinct_names, structure_block, strings_block, length_before_padding}
use Rattle.bi_blob.proofs.Texts.EventLengths.{text_of_events_has_length}
use Rattle.bi_blob.proofs.Texts.NamesOnce.{distinct_names-all}
use Rattle.bi_fdt.specs.Content.{Blob, root_of}
use Rattle.bi_fdt.specs.TreeNames.{AreNamesIn}
use Rattle.bi_hash.specs.declared.algo.Algo.{Algo}
use Rattle.bi_hash.specs.Digests.{digest_of}
use Rattle.bi_fit.specs.declared.changes.Changes.{Changes}
use Rattle.bi_fit.specs.declared.form.Form.{Form}
use Rattle.bi_fit.specs.Content.{FitModel, tree_of}
use Rattle.bi_fit.specs.ImageTree.{with_children_of, without_payload, without_payloads}
use Rattle.bi_fit.specs.Documents.{IsTextFault}
use Rattle.bi_fit.specs.LongNames.{name_if_long, HasLongerNames}
use Rattle.bi_fit.specs.Names.{images_name, timestamp_name, value_name, is_payload_name, payload_names}
use Rattle.bi_fit.specs.Text.{alignment_of, blob_alignment, with_payload, with_payloads, end_after, normal_tree, fit_text}
use Rattle.bi_fit.specs.Updating.{with_time, with_digest_by, with_digest, with_digests, with_digests_of}
use Rattle.bi_fit.specs.Updating.{images_with_digests, with_new_digests, with_changes}
use Rattle.bi_fit.proofs.NormalTrees.{length-fit_text}
use Rattle.bi_fit.proofs.FormAlignments.{form-aligned, form-positive}
use Rattle.bi_fit.proofs.PayloadProperties.{get-without}
use Rattle.bi_base.specs.Cells.{cell, up_to}
use Rattle.bi_base.proofs.AlignmentLaws.{up_to-le}
use Rattle.bi_base.specs.declared.fault.Fault.{Fault}
use Rattle.bi_base.specs.Limits.{Limits}
use Rattle.bi_base.specs.Reading.{too_large}

-- The text of a file's tree is at least as long as the different long names of the file's properties together.

-- What stands for a name is no longer than the name.
pub length-name_if_long : (name : List ℕ) → length (name_if_long name) ≤ length name
length-name_if_long name = search (rules, nat_le)

-- The name of a property that holds a payload or names its region is not long.
one_of_short : (name : List ℕ) (others : List (List ℕ)) → AllByRecursion (λ other. name_if_long other ≡ []) others →
    list_any (bytes_eq name) others ≡ true → name_if_long name ≡ []
one_of_short name [] short is = absurd cc
one_of_short name (other ∷ others) short is = search (rules, bytes_eq-Decides, one_of_short name others short.1)

pub payload_name_short : (name : List ℕ) → is_payload_name name ≡ true → name_if_long name ≡ []
payload_name_short name is = one_of_short name payload_names (refl, (refl, (refl, (refl, tt)))) is

-- How many bytes stand for a name.
abbrev pub long_length : List ℕ → ℕ
long_length name = length (name_if_long name)

-- These are at most as many as those of all names among which the name is,
one_of_all : (name : List ℕ) (names : List (List ℕ)) → Contains names name → long_length name ≤ sum_by long_length names
one_of_all name names (k, below, is) =
    subst (λ other. long_length other ≤ sum_by long_length names) is (get_or-le-sum_by long_length names k name below)

-- and with those of the other names at most as many as those of all.
one_and_others : (name : List ℕ) (names : List (List ℕ)) → Contains names name →
    long_length name + sum_by long_length (filter (λ other. not (bytes_eq name other)) names) ≤ sum_by long_length names
one_and_others name names has =
    let both = sum_by-filter_both (bytes_eq name) (λ other. not (bytes_eq name other)) (λ other. refl) long_length names in
    let one = one_of_all name (filter (bytes_eq name) names)
    (Contains-filter (bytes_eq name) names name ((bytes_eq-Decides name name).1 refl) has) in
    omega (arith, both, one)

-- Each of these names is short or among others.
abbrev pub AreShortOrAmong : List (List ℕ) → List (List ℕ) → Type 0
AreShortOrAmong others names = AllByRecursion (λ name. (long_length name ≡ 0) ⊎ Contains others name) names

-- This is so without a name that is none of them.
short_or_left : (name : List ℕ) (others names : List (List ℕ)) → IsNew name names → AreShortOrAmong others names →
    AreShortOrAmong (filter (λ other. not (bytes_eq name other)) others) names
short_or_left name others [] new are = tt
short_or_left name others (first ∷ later) new are = (where_short are.0, short_or_left name others later new.1 are.1)
  where
    differs : (b : Bool) → bytes_eq name first ≡ b → bytes_eq name first ≡ false
    differs true is = absurd (new.0 (sym ((bytes_eq-Decides name first).0 is)))
    differs false is = is

    where_short : (long_length first ≡ 0) ⊎ Contains others first →
        (long_length first ≡ 0) ⊎ Contains (filter (λ other. not (bytes_eq name other)) others) first
    where_short (inl short) = inl short
    where_short (inr has) =
        inr (Contains-filter (λ other. not (bytes_eq name other)) others first (ap not (differs (bytes_eq name first) refl)) has)

-- Distinct names, if each is short or among others, are together no longer than the others, as far as they are long.
no_longer_than_others : (names others : List (List ℕ)) → AreDistinct names → AreShortOrAmong others names →
    sum_by long_length names ≤ sum_by long_length others
no_longer_than_others [] others distinct are = omega arith
no_longer_than_others (name ∷ later) others distinct are =
    where_short are.0 (λ others are. no_longer_than_others later others distinct.1 are)
  where
    where_short : (long_length name ≡ 0) ⊎ Contains others name →
        ((others : List (List ℕ)) → AreShortOrAmong others later → sum_by long_length later ≤ sum_by long_length others) →
        sum_by long_length (name ∷ later) ≤ sum_by long_length others
    where_short (inl short) rest = omega (arith, short, sum_by-cons long_length name later, rest others are.1)
    where_short (inr has) rest =
        let left = rest (filter (λ other. not (bytes_eq name other)) others) (short_or_left name others later distinct.0 are.1) in
        omega (arith, sum_by-cons long_length name later, one_and_others name others has, left)

-- A name is none of those that it is before in byte order,
new_before : (name : List ℕ) (names : List (List ℕ)) → AllByRecursion (λ other. slice_cmp nat_cmp name other ≡ Less) names →
    IsNew name names
new_before name [] before = tt
new_before name (other ∷ later) before = search (rules, nat_list_cmp_total, new_before name later before.1)

-- so names in byte order are distinct.
pub distinct_in_order : (names : List (List ℕ)) → IsStrictlySortedBy (slice_cmp nat_cmp) names → AreDistinct names
distinct_in_order [] ordered = tt
distinct_in_order (name ∷ later) ordered = (
  new_before name later (sorted_head (slice_cmp nat_cmp) name later ordered),
  distinct_in_order later (sorted_tail (slice_cmp nat_cmp) name later ordered),
)

-- Long names in byte order, if each is short or among others, are together no longer than those.
pub long_names_in_order : (sorted names : List (List ℕ)) → IsStrictlySortedBy (slice_cmp nat_cmp) sorted → AreShortOrAmong names sorted →
    length (flat_map name_if_long sorted) ≤ length (flat_map name_if_long names)
long_names_in_order sorted names ordered among = search (rules, no_longer_than_others, distinct_in_order, length-flat_map)

-- One of these nodes or of all nodes below them has what meets a condition.
abbrev SomeOwn : {Own : Type 0} → (Own → Type 0) → Nodes Own → Type 0
SomeOwn IsOwn none = ⊥
SomeOwn IsOwn (node name own children later) = IsOwn own ⊎ (SomeOwn IsOwn children ⊎ SomeOwn IsOwn later)

-- A change of what each node has keeps this, if it keeps the condition,
some_with_each : {A B : Type 0} (P : A → Type 0) (Q : B → Type 0) (change : A → B) → ((own : A) → P own → Q (change own)) →
    (nodes : Nodes A) → SomeOwn P nodes → SomeOwn Q (with_each change nodes)
some_with_each P Q change keeps none some = some
some_with_each P Q change keeps (node name own children later) (inl here) = inl (keeps own here)
some_with_each P Q change keeps (node name own children later) (inr (inl below)) =
    inr (inl (some_with_each P Q change keeps children below))
some_with_each P Q change keeps (node name own children later) (inr (inr after)) =
    inr (inr (some_with_each P Q change keeps later after))

-- and a change of the children of one node, if it keeps this.
some_with_children_of : {Own : Type 0} (P : Own → Type 0) (wanted : List ℕ) (change : Nodes Own → Nodes Own) →
    ((nodes : Nodes Own) → SomeOwn P nodes → SomeOwn P (change nodes)) →
    (nodes : Nodes Own) → SomeOwn P nodes → SomeOwn P (with_children_of wanted change nodes)
some_with_children_of P wanted change keeps none some = some
some_with_children_of {Own = Own} P wanted change keeps (node name own children later) some =
    where_wanted (bytes_eq name wanted) some (λ after. some_with_children_of P wanted change keeps later after)
  where
    where_wanted : (b : Bool) → SomeOwn P (node name own children later) →
        (SomeOwn P later → SomeOwn P (with_children_of wanted change later)) →
        SomeOwn P (if b then node name own (change children) later else node name own children (with_children_of wanted change later))
    where_wanted true (inl here) rest = inl here
    where_wanted true (inr (inl below)) rest = inr (inl (keeps children below))
    where_wanted true (inr (inr after)) rest = inr (inr after)
    where_wanted false (inl here) rest = inl here
    where_wanted false (inr (inl below)) rest = inr (inl below)
    where_wanted false (inr (inr after)) rest = inr (inr (rest after))

-- Properties, one of them with this name: in a list,
abbrev HasName : List ℕ → List Property → Type 0
HasName name properties = Contains (map (λ property. property.0) properties) name

-- and by name.
abbrev HasKey : List ℕ → PropertyMap → Type 0
HasKey name properties = is_some (get properties name) ≡ true

-- A list has a name if it has it by name,
key_by_name : (name : List ℕ) (properties : List Property) → HasName name properties → HasKey name (from_entries properties)
key_by_name name properties has =
    ap is_some (get-from_entries nat_list_cmp_total properties name)
    ∙ is_some-find (slice_cmp nat_cmp) name properties
    ∙ list_any-from_Contains (eq_by_cmp_equiv nat_list_cmp_total) name (map (λ property. property.0) properties) has

-- and the other way round.
name_in_order : (name : List ℕ) (properties : PropertyMap) → HasKey name properties → HasName name (entries properties)
name_in_order name properties has =
    Contains-from_any {eq = eq_by_cmp (slice_cmp nat_cmp)}
    (λ one other same. (bytes_eq-Decides one other).0 (sym (is_eq-slice_cmp one other) ∙ same)) name
    (map (λ property. property.0) (entries properties))
    (sym (is_some-find (slice_cmp nat_cmp) name (entries properties)) ∙ ap is_some (sym (get-entries properties name)) ∙ has)

-- A property that is put in takes away no name,
key_put : (name key value : List ℕ) (properties : PropertyMap) → HasKey name properties → HasKey name (insert properties key value)
key_put name key value properties has =
    ap is_some (get-insert nat_list_cmp_total properties key value name) ∙ where_same (eq_by_cmp (slice_cmp nat_cmp) name key)
  where
    where_same : (b : Bool) → is_some (cond b (Some value) (get properties name)) ≡ true
    where_same true = refl
    where_same false = has

-- nor does a time,
key_with_time : (name : List ℕ) (time : Option ℕ) (properties : PropertyMap) → HasKey name properties →
    HasKey name (with_time time properties)
key_with_time name None properties has = has
key_with_time name (Some time) properties has = key_put name timestamp_name (cell time) properties has

-- what gives a payload,
key_with_payload : (name : List ℕ) (alignment : Option ℕ) (begin : ℕ) (payload : Option (List ℕ)) (properties : PropertyMap) →
    HasKey name properties → HasKey name (with_payload alignment begin payload properties)
key_with_payload name alignment begin None properties has = has
key_with_payload name None begin (Some payload) properties has = key_put name _ _ properties has
key_with_payload name (Some align) begin (Some payload) properties has = key_put name _ _ _ (key_put name _ _ properties has)

some_with_payloads : (name : List ℕ) (alignment : Option ℕ) (end : ℕ) (payloads : List (Option (List ℕ))) (nodes : Nodes PropertyMap) →
    SomeOwn (HasKey name) nodes → SomeOwn (HasKey name) (with_payloads alignment end payloads nodes)
some_with_payloads name alignment end [] nodes some = some
some_with_payloads name alignment end (payload ∷ payloads) none some = some
some_with_payloads name alignment end (payload ∷ payloads) (node n own children later) (inl here) =
    inl (key_with_payload name alignment (up_to (blob_alignment alignment) end) payload own here)
some_with_payloads name alignment end (payload ∷ payloads) (node n own children later) (inr (inl below)) = inr (inl below)
some_with_payloads name alignment end (payload ∷ payloads) (node n own children later) (inr (inr after)) =
    inr (inr (some_with_payloads name alignment (end_after (blob_alignment alignment) end payload) payloads later after))

-- or a digest.
key_with_digest_by : (name : List ℕ) (algo : Option Algo) (payload : List ℕ) (properties : PropertyMap) → HasKey name properties →
    HasKey name (with_digest_by algo payload properties)
key_with_digest_by name None payload properties has = has
key_with_digest_by name (Some algo) payload properties has = key_put name value_name (digest_of algo payload) properties has

key_with_digest : (name payload node_name : List ℕ) (properties : PropertyMap) → HasKey name properties →
    HasKey name (with_digest payload node_name properties)
key_with_digest name payload node_name properties has = search (rules, key_with_digest_by)

some_with_digests : (name payload : List ℕ) (nodes : Nodes PropertyMap) → SomeOwn (HasKey name) nodes →
    SomeOwn (HasKey name) (with_digests payload nodes)
some_with_digests name payload none some = some
some_with_digests name payload (node n own children later) (inl here) = inl (key_with_digest name payload n own here)
some_with_digests name payload (node n own children later) (inr (inl below)) = inr (inl below)
some_with_digests name payload (node n own children later) (inr (inr after)) =
    inr (inr (some_with_digests name payload later after))

some_with_digests_of : (name : List ℕ) (payload : Option (List ℕ)) (nodes : Nodes PropertyMap) → SomeOwn (HasKey name) nodes →
    SomeOwn (HasKey name) (with_digests_of payload nodes)
some_with_digests_of name None nodes some = some
some_with_digests_of name (Some payload) nodes some = some_with_digests name payload nodes some

some_images_with_digests : (name : List ℕ) (payloads : List (Option (List ℕ))) (nodes : Nodes PropertyMap) →
    SomeOwn (HasKey name) nodes → SomeOwn (HasKey name) (images_with_digests payloads nodes)
some_images_with_digests name [] nodes some = some
some_images_with_digests name (payload ∷ payloads) none some = some
some_images_with_digests name (payload ∷ payloads) (node n own children later) (inl here) = inl here
some_images_with_digests name (payload ∷ payloads) (node n own children later) (inr (inl below)) =
    inr (inl (some_with_digests_of name payload children below))
some_images_with_digests name (payload ∷ payloads) (node n own children later) (inr (inr after)) =
    inr (inr (some_images_with_digests name payloads later after))

some_with_new_digests : (name : List ℕ) (hashes : Bool) (payloads : List (Option (List ℕ))) (nodes : Nodes PropertyMap) →
    SomeOwn (HasKey name) nodes → SomeOwn (HasKey name) (with_new_digests hashes payloads nodes)
some_with_new_digests name false payloads nodes some = some
some_with_new_digests name true payloads nodes some =
    some_with_children_of (HasKey name) images_name (images_with_digests payloads) (some_images_with_digests name payloads) nodes some

-- Without the properties of payloads, the other names are still there.
key_without : (name : List ℕ) → is_payload_name name ≡ false → (properties : PropertyMap) → HasKey name properties →
    HasKey name (without_payload properties)
key_without name other properties has =
    ap is_some (get-without properties name ∙ ap (λ b. cond (not b) (get properties name) None) other) ∙ has

some_without_payloads : (name : List ℕ) → is_payload_name name ≡ false → (nodes : Nodes PropertyMap) → SomeOwn (HasKey name) nodes →
    SomeOwn (HasKey name) (without_payloads nodes)
some_without_payloads name other none some = some
some_without_payloads name other (node n own children later) (inl here) = inl (key_without name other own here)
some_without_payloads name other (node n own children later) (inr (inl below)) = inr (inl below)
some_without_payloads name other (node n own children later) (inr (inr after)) =
    inr (inr (some_without_payloads name other later after))

-- One of the nodes of a file has a property with this name.
abbrev SomeNamed : List ℕ → Nodes FileNode → Type 0
SomeNamed name nodes = SomeOwn (λ own. HasName name (properties_of own)) nodes

-- So a name of a property of the file is one of the tree that it means, unless it is that of a property of a payload,
some_in_tree : (content : FitModel) (name : List ℕ) → is_payload_name name ≡ false → SomeNamed name (as_nodes (root_of content.blob)) →
    SomeOwn (HasKey name) (as_nodes (tree_of content).root)
some_in_tree content name other (inl here) = inl (key_by_name name (properties_of (root_of content.blob).own) here)
some_in_tree content name other (inr (inr after)) = absurd after
some_in_tree content name other (inr (inl below)) =
    let in_lists = some_with_each (λ own. HasName name (properties_of own)) (HasName name) properties_of (λ own has. has)
    (root_of content.blob).children below in
    let by_name = some_with_each (HasName name) (HasKey name) from_entries (key_by_name name) _ in_lists in
    inr (inl (some_with_children_of (HasKey name) images_name without_payloads (some_without_payloads name other) _ by_name))

-- and one of the tree of the text.
some_in_text : (form : Form) (changes : Changes) (content : FitModel) (name : List ℕ) →
    SomeOwn (HasKey name) (as_nodes (tree_of content).root) →
    SomeOwn (HasName name) (as_nodes (normal_tree form (with_changes changes (tree_of content))))
some_in_text form changes content name (inl here) =
    inl (name_in_order name _ (key_with_time name changes.time (tree_of content).root.own here))
some_in_text form changes content name (inr (inr after)) = absurd after
some_in_text form changes content name (inr (inl below)) =
    let payloads = (tree_of content).payloads in
    let changed = some_with_new_digests name changes.hashes payloads _ below in
    let whole = some_with_children_of (HasKey name) images_name (with_payloads (alignment_of form) 0 payloads)
    (some_with_payloads name (alignment_of form) 0 payloads) _ changed in
    inr (inl (some_with_each (HasKey name) (HasName name) entries (name_in_order name) _ whole))

-- A property among the events of a node's properties is one of these.
name_of_one : (properties : List FileProperty) (property : FileProperty) →
    Contains (map FileNodeProperty properties) (FileNodeProperty property) → HasName property.name (map property_of properties)
name_of_one [] property has = absurd (Contains-none (FileNodeProperty property) has)
name_of_one (first ∷ others) property has =
    where_first (Contains-cases (FileNodeProperty first) (map FileNodeProperty others) (FileNodeProperty property) has)
    (λ has. name_of_one others property has)
  where
    where_first : (FileNodeProperty first ≡ FileNodeProperty property) ⊎
        Contains (map FileNodeProperty others) (FileNodeProperty property) →
        (Contains (map FileNodeProperty others) (FileNodeProperty property) → HasName property.name (map property_of others)) →
        HasName property.name (map property_of (first ∷ others))
    where_first (inl same) rest =
        let is : first ≡ property = cc in
        subst (λ found. Contains (first.name ∷ map (λ property. property.0) (map property_of others)) found.name)
        is (Contains-first first.name _)
    where_first (inr has) rest = Contains-others first.name _ property.name (rest has)

-- A property is among events.
abbrev IsAmong : FileProperty → List FileEvent → Type 0
IsAmong property events = Contains events (FileNodeProperty property)

-- A property among the events of nodes is one of a node.
some_in_events : (nodes : Nodes FileNode) (property : FileProperty) → IsAmong property (file_events nodes) → SomeNamed property.name nodes
some_in_events none property has = absurd (Contains-none (FileNodeProperty property) has)
some_in_events (node name own children later) property has =
    by_start (Contains-cases (FileNodeStart own.place name)
    (map FileNodeProperty own.properties ++ (file_events children ++ (FileNodeEnd ∷ file_events later))) (FileNodeProperty property) has)
    (λ has. some_in_events children property has) (λ has. some_in_events later property has)
  where
    by_end : (FileNodeEnd ≡ FileNodeProperty property) ⊎ IsAmong property (file_events later) →
        (IsAmong property (file_events later) → SomeNamed property.name later) → SomeNamed property.name (node name own children later)
    by_end (inl same) after = absurd cc
    by_end (inr has) after = inr (inr (after has))

    by_rest : IsAmong property (file_events children) ⊎ IsAmong property (FileNodeEnd ∷ file_events later) →
        (IsAmong property (file_events children) → SomeNamed property.name children) →
        (IsAmong property (file_events later) → SomeNamed property.name later) → SomeNamed property.name (node name own children later)
    by_rest (inl has) below after = inr (inl (below has))
    by_rest (inr has) below after = by_end (Contains-cases FileNodeEnd (file_events later) (FileNodeProperty property) has) after

    by_part : IsAmong property (map FileNodeProperty own.properties) ⊎
        IsAmong property (file_events children ++ (FileNodeEnd ∷ file_events later)) →
        (IsAmong property (file_events children) → SomeNamed property.name children) →
        (IsAmong property (file_events later) → SomeNamed property.name later) → SomeNamed property.name (node name own children later)
    by_part (inl has) below after = inl (name_of_one own.properties property has)
    by_part (inr has) below after =
        by_rest (Contains-append_cases (file_events children) (FileNodeEnd ∷ file_events later) (FileNodeProperty property) has) below after

    by_start : (FileNodeStart own.place name ≡ FileNodeProperty property) ⊎
        IsAmong property (map FileNodeProperty own.properties ++ (file_events children ++ (FileNodeEnd ∷ file_events later))) →
        (IsAmong property (file_events children) → SomeNamed property.name children) →
        (IsAmong property (file_events later) → SomeNamed property.name later) → SomeNamed property.name (node name own children later)
    by_start (inl same) below after = absurd cc
    by_start (inr has) below after =
        by_part (Contains-append_cases (map FileNodeProperty own.properties) (file_events children ++ (FileNodeEnd ∷ file_events later))
        (FileNodeProperty property) has) below after

-- What is used by the first of some events is used by all of them,
used_first : (name : List ℕ) (front back : List Event) → Contains (used_names front) name → Contains (used_names (front ++ back)) name
used_first name front back has =
    subst (λ names. Contains names name) (sym (flat_map-append event_names front back))
    (Contains-append_left (used_names front) (used_names back) name has)

-- and what is used by the later ones.
used_later : (name : List ℕ) (front back : List Event) → Contains (used_names back) name → Contains (used_names (front ++ back)) name
used_later name front back has =
    subst (λ names. Contains names name) (sym (flat_map-append event_names front back))
    (Contains-append_right (used_names front) (used_names back) name has)

-- The events of a tree use the name of each of its properties.
names_of_properties : (properties : List Property) → used_names (map NodeProperty properties) ≡ map (λ property. property.0) properties
names_of_properties [] = refl
names_of_properties (property ∷ later) = ap (λ names. property.0 ∷ names) (names_of_properties later)

some_used : (name : List ℕ) (nodes : Nodes (List Property)) → SomeOwn (HasName name) nodes → Contains (used_names (events nodes)) name
some_used name none some = absurd some
some_used name (node n properties children later) (inl here) =
    used_first name (map NodeProperty properties) _ (subst (λ names. Contains names name) (sym (names_of_properties properties)) here)
some_used name (node n properties children later) (inr (inl below)) = search (rules, used_later, used_first, some_used name children below)
some_used name (node n properties children later) (inr (inr after)) = search (rules, used_later, some_used name later after)

-- Long names together are no longer than all names with a zero byte after each.
no_longer_than_all : (names : List (List ℕ)) → sum_by long_length names ≤ sum_by (λ name. length name + 1) names
no_longer_than_all [] = omega arith
no_longer_than_all (name ∷ later) = search (rules, length-name_if_long, sum_by-cons, no_longer_than_all later)

-- The names of the properties of nodes, in their order.
abbrev pub names_of_nodes : Nodes PropertyMap → List (List ℕ)
names_of_nodes nodes = used_names (events (with_each entries nodes))

-- They are those of the first node, of the nodes below it, and of the nodes after it.
pub names_of_nodes-first : (name : List ℕ) (own : PropertyMap) (children later : Nodes PropertyMap) →
    names_of_nodes (node name own children later)
    ≡ map (λ property. property.0) (entries own) ++ (names_of_nodes children ++ names_of_nodes later)
names_of_nodes-first name own children later = search (rules, flat_map-append, names_of_properties)

module _ (content : FitModel) where
  -- Names of properties of the file are short or among others, if those of the tree that it means are among these.
  short_or_among : (others : List (List ℕ)) →
      ((name : List ℕ) → SomeOwn (HasKey name) (as_nodes (tree_of content).root) → Contains others name) →
      (names : List (List ℕ)) → AreNamesIn names (root_of content.blob) → AreShortOrAmong others names
  short_or_among others among [] are = tt
  short_or_among others among (name ∷ later) are =
      (where_payload (is_payload_name name) refl, short_or_among others among later are.1)
    where
      where_payload : (b : Bool) → is_payload_name name ≡ b → (long_length name ≡ 0) ⊎ Contains others name
      where_payload true is = inl (ap length (payload_name_short name is))
      where_payload false is =
          let (property, has, same) = are.0 in
          let of_file = subst (λ name. SomeNamed name (as_nodes (root_of content.blob))) same
          (some_in_events (as_nodes (root_of content.blob)) property has) in
          inr (among name (some_in_tree content name is of_file))

  -- Different long names of properties of a file are together no longer than those of the tree that it means.
  pub long_names_of_tree : (names : List (List ℕ)) → AreDistinct names → AreNamesIn names (root_of content.blob) →
      length (flat_map name_if_long names) ≤ length (flat_map name_if_long (names_of_nodes (as_nodes (tree_of content).root)))
  long_names_of_tree names distinct are =
      let nodes = as_nodes (tree_of content).root in
      let others = names_of_nodes nodes in
      let among : (name : List ℕ) → SomeOwn (HasKey name) nodes → Contains others name =
      λ name some. some_used name (with_each entries nodes)
      (some_with_each (HasKey name) (HasName name) entries (name_in_order name) nodes some) in
      let long_ones = no_longer_than_others names others distinct (short_or_among others among names are) in
      omega (arith, length-flat_map name_if_long names, length-flat_map name_if_long others, long_ones)

module _ (content : FitModel) (form : Form) (changes : Changes) where
  abbrev text_events : List Event
  text_events = events_of (normal_tree form (with_changes changes (tree_of content)))

  abbrev text_names : List (List ℕ)
  text_names = distinct_names (used_names text_events)

  -- The names of the properties of the tree are in the text.
  in_text : (name : List ℕ) → SomeOwn (HasKey name) (as_nodes (tree_of content).root) → Contains text_names name
  in_text name some = search (rules, distinct_names-all, some_used, some_in_text)

  -- The text of the tree of a file, with these changes, is at least as long as different long names of properties of the file together.
  pub long_names_within : (names : List (List ℕ)) → AreDistinct names → AreNamesIn names (root_of content.blob) →
      length (flat_map name_if_long names) ≤ length (fit_text form (with_changes changes (tree_of content)))
  long_names_within names distinct are =
      let tree = with_changes changes (tree_of content) in
      let lengths = text_of_events_has_length (blob_alignment (alignment_of form)) tree.cpu tree.reservations text_events
      (form-aligned form) in
      let long_ones = no_longer_than_others names text_names distinct (short_or_among content text_names in_text names are) in
      omega (
        arith,
        length-flat_map name_if_long names,
        long_ones,
        no_longer_than_all text_names,
        lengths.strings,
        lengths.is_length,
        up_to-le (blob_alignment (alignment_of form)) (length_before_padding (length (reservation_block tree.reservations))
            (length (structure_block text_events)) (length (strings_block text_events))) (form-positive form),
        length-fit_text form tree,
      )

  -- So the text is too long where such names have more bytes than the limit.
  pub too_long_names : (limits : Limits) (limit : ℕ) → limit ≡ limits.file →
      (blob : Blob) → blob ≡ content.blob → (fault : Fault) →
      (fault ≡ too_large limit) × HasLongerNames limit (root_of blob) →
      IsTextFault limits form (with_changes changes (tree_of content)) fault
  too_long_names limits limit is_limit blob is_blob fault (is, (names, distinct, are, longer)) = search (rules, long_names_within)
