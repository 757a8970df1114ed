use Rattle.std.proofs.Common.{◌<◌, ◌≤◌, ◌+◌, length, subst, suc}
use Rattle.std.proofs.lemmas.List.{drop_all, length-map}
use Rattle.bi_describe.specs.declared.describe.entries.Entry.{Entry}
use Rattle.bi_describe.proofs.EntryLines.{entries_from}
use Rattle.std.proofs.Common.{◌≡◌, ◌↔◌, ◌∙◌, Bool, true, false, ℕ, List, [], ◌∷◌, ◌++◌, Option, None, Some, drop, get_or, map, refl, sym}
use Rattle.std.proofs.Common.{ap, ap₂}
use Rattle.std.specs.Prelude.{if◌then◌else◌}
use Rattle.std.specs.FinMap.{entries}
use Rattle.std.specs.Option.{option_map}
use Rattle.std.specs.Borrow.{Bor}
use Rattle.bi_blob.specs.Tree.{Nodes, none, node, Property, PropertyMap, Root}
use Rattle.bi_legacy.specs.Meaning.{LegacyImage, image_of}
use Rattle.bi_describe.specs.declared.describe.kept.legacy.KeptLegacy.{KeptLegacy}
use Rattle.bi_describe.specs.declared.describe.kept.legacy.KeptPart.{KeptPart}
use Rattle.bi_describe.specs.declared.describe.kept.tree.KeptFit.{KeptFit}
use Rattle.bi_describe.specs.declared.ignored.PayloadPlace.{PayloadPlace as MadePlace}
use Rattle.bi_describe.specs.ComparedNodes.{ComparedNode, ComparedPayload, ImageWith, NoImage}
use Rattle.bi_describe.specs.DeepEntries.{last_begun}
use Rattle.bi_describe.specs.Ignoring.{OfImageNamed, PayloadPlace}
use Rattle.bi_describe.specs.KeptEntries.{root_entries}
use Rattle.bi_describe.specs.KeptImages.{IsKeptLegacy, IsKeptTree, numbered_part}
use Rattle.bi_describe.specs.MadeInsides.{is_one_of_places, kept_part_unless}
use Rattle.bi_describe.specs.OpenedEntries.{entries_unless_opened, entry_unless_opened}
use Rattle.bi_describe.specs.OpenedPayloads.{nodes_unless_opened, own_unless_opened, part_unless_opened, payload_unless, root_unless_opened}
use Rattle.bi_describe.specs.OpenedPayloads.{unless_opened}
use Rattle.bi_describe.specs.ReducedMeanings.{OfReducedLegacy, OfReducedTree, ReducedLegacy, ReducedTree, fields_alone}
use Rattle.bi_describe.specs.TreeEntries.{ChildrenBegin, EntryModel, NodeBegins, NodeEnds, PayloadEntry, PropertiesBegin, PropertyEntry}
use Rattle.bi_describe.specs.TreeEntries.{as_entry, node_entries, own_entries, payload_entries, property_entries}
use Rattle.bi_describe.proofs.EntriesApart.{roots_apart}
use Rattle.bi_describe.proofs.KeptImageFacts.{legacy_as_meanings, trees_as_meanings}

-- Trees are the same but for the payloads that are opened if and only if their entries are.

-- ---- entries

-- The name of the last node that began, after entries.
abbrev last_after : (last : List ℕ) → List EntryModel → List ℕ
last_after last [] = last
last_after last (entry ∷ later) = last_after (last_begun last entry) later

module _ (is_opened : PayloadPlace → Bool) where
  less-append : (last : List ℕ) (xs ys : List EntryModel) →
      entries_unless_opened is_opened last (xs ++ ys)
      ≡ entries_unless_opened is_opened last xs ++ entries_unless_opened is_opened (last_after last xs) ys
  less-append last [] ys = refl
  less-append last (x ∷ xs) ys =
      ap (λ (later : List EntryModel). entry_unless_opened is_opened last x ∷ later) (less-append (last_begun last x) xs ys)

  properties_less : (last : List ℕ) (properties : List Property) →
      entries_unless_opened is_opened last (map PropertyEntry properties ++ ChildrenBegin ∷ [])
      ≡ map PropertyEntry properties ++ ChildrenBegin ∷ []
  properties_less last [] = refl
  properties_less last (property ∷ later) =
      ap (λ (later : List EntryModel). PropertyEntry property ∷ later) (properties_less last later)

  payload_less : (is_out : Bool) (name : List ℕ) (payload : Option (List ℕ)) → is_opened (OfImageNamed name) ≡ is_out →
      entry_unless_opened is_opened name (PayloadEntry payload) ∷ []
      ≡ payload_entries (payload_unless (is_opened (OfImageNamed name)) (ImageWith payload))
  payload_less true name payload is = rw is refl
  payload_less false name payload is = rw is refl

  -- The name of the last node that began does not depend on what is opened.
  begun_less : (last : List ℕ) (entry : EntryModel) → last_begun last entry ≡ last_begun last (entry_unless_opened is_opened last entry)
  begun_less last (PayloadEntry payload) = by (is_opened (OfImageNamed last))
    where
      by : (b : Bool) → last ≡ last_begun last (if b then PayloadEntry None else PayloadEntry payload)
      by true = refl
      by false = refl
  begun_less last (NodeBegins name) = refl
  begun_less last NodeEnds = refl
  begun_less last PropertiesBegin = refl
  begun_less last (PropertyEntry property) = refl
  begun_less last ChildrenBegin = refl

  -- After two entries that are the same, the later ones decide.
  pub same_after : (last : List ℕ) (a b : EntryModel) (xs ys : List EntryModel) →
      entry_unless_opened is_opened last a ≡ entry_unless_opened is_opened last b →
      (entries_unless_opened is_opened (last_begun last a) xs ≡ entries_unless_opened is_opened (last_begun last a) ys)
      ↔ (entries_unless_opened is_opened last (a ∷ xs) ≡ entries_unless_opened is_opened last (b ∷ ys))
  same_after last a b xs ys same =
      let begun : last_begun last a ≡ last_begun last b =
      begun_less last a ∙ ap (last_begun last) same ∙ sym (begun_less last b) in
      let there = ap (λ (last : List ℕ). entries_unless_opened is_opened last ys) begun in (
        (λ rest. ap₂ (λ (first : EntryModel) (later : List EntryModel). first ∷ later) same (rest ∙ there)),
        (λ all. ap (drop 1) all ∙ sym there),
      )

  -- Two lists that are the same have the same first entry.
  pub same_first : (last : List ℕ) (a b : EntryModel) (xs ys : List EntryModel) →
      entries_unless_opened is_opened last (a ∷ xs) ≡ entries_unless_opened is_opened last (b ∷ ys) →
      entry_unless_opened is_opened last a ≡ entry_unless_opened is_opened last b
  same_first last a b xs ys all = ap (λ (entries : List EntryModel). get_or entries 0 a) all

  -- The entries of two lists that are left decide, one entry further.
  abbrev pub Decides : (last : List ℕ) → (one other : List Entry) → (Whole : Type 0) → Type 0
  Decides last one other Whole =
      (entries_unless_opened is_opened last (map as_entry one) ≡ entries_unless_opened is_opened last (map as_entry other)) ↔ Whole

  pub same_further : (one other : List Entry) (index : ℕ) (a b : Entry) (last next : List ℕ) (Whole : Type 0) → a ≡ get_or one index a →
      b ≡ get_or other index b → index < length one → index < length other →
      entry_unless_opened is_opened last (as_entry a) ≡ entry_unless_opened is_opened last (as_entry b) →
      next ≡ last_begun last (as_entry a) → Decides last (drop index one) (drop index other) Whole →
      Decides next (drop (index + 1) one) (drop (index + 1) other) Whole
  same_further one other index a b last next Whole is also within other_within same is_next left =
      let from = ap (entries_unless_opened is_opened last) (entries_from one index a is within) in
      let other_from = ap (entries_unless_opened is_opened last) (entries_from other index b also other_within) in
      let both = same_after last (as_entry a) (as_entry b) (map as_entry (drop (index + 1) one)) (map as_entry (drop (index + 1) other))
      same in
      subst (λ last. Decides last (drop (index + 1) one) (drop (index + 1) other) Whole) (sym is_next) (
        (λ rest. left.0 (from ∙ both.0 rest ∙ sym other_from)),
        (λ whole. both.1 (sym from ∙ left.1 whole ∙ other_from)),
      )

  -- Two entries at which two lists differ.
  pub same_here : (one other : List Entry) (index : ℕ) (a b : Entry) (last : List ℕ) (Whole : Type 0) → a ≡ get_or one index a →
      b ≡ get_or other index b → index < length one → index < length other → Decides last (drop index one) (drop index other) Whole →
      Whole → entry_unless_opened is_opened last (as_entry a) ≡ entry_unless_opened is_opened last (as_entry b)
  same_here one other index a b last Whole is also within other_within left whole =
      same_first last (as_entry a) (as_entry b) (map as_entry (drop (index + 1) one)) (map as_entry (drop (index + 1) other))
      (sym (ap (entries_unless_opened is_opened last) (entries_from one index a is within)) ∙ left.1 whole
      ∙ ap (entries_unless_opened is_opened last) (entries_from other index b also other_within))

  -- At the end none are left.
  pub none_left : (one other : List Entry) (index : ℕ) (last : List ℕ) (Whole : Type 0) → length one ≤ index → length other ≤ index →
      Decides last (drop index one) (drop index other) Whole → Whole
  none_left one other index last Whole past other_past left =
      left.0 (ap (λ (entries : List Entry). entries_unless_opened is_opened last (map as_entry entries))
      (drop_all index one past ∙ sym (drop_all index other other_past)))

  less_length : (last : List ℕ) (entries : List EntryModel) → length (entries_unless_opened is_opened last entries) ≡ length entries
  less_length last [] = refl
  less_length last (entry ∷ later) = ap suc (less_length (last_begun last entry) later)

  pub same_lengths : (last : List ℕ) (one other : List Entry) →
      entries_unless_opened is_opened last (map as_entry one) ≡ entries_unless_opened is_opened last (map as_entry other) →
      length one ≡ length other
  same_lengths last one other same =
      sym (less_length last (map as_entry one) ∙ length-map one as_entry) ∙ ap length same
      ∙ less_length last (map as_entry other) ∙ length-map other as_entry

  own_less : (name : List ℕ) (own : ComparedNode) →
      entries_unless_opened is_opened name (own_entries own) ≡ own_entries (own_unless_opened is_opened name own)
  own_less name own = by own.payload
    where
      whole : List EntryModel
      whole = property_entries own.properties

      stays : entries_unless_opened is_opened name whole ≡ whole
      stays = ap (λ (later : List EntryModel). PropertiesBegin ∷ later) (properties_less name (entries own.properties))

      by : (payload : ComparedPayload) →
          entries_unless_opened is_opened name (payload_entries payload ++ whole)
          ≡ payload_entries (payload_unless (is_opened (OfImageNamed name)) payload) ++ whole
      by NoImage = stays
      by (ImageWith payload) =
          ap₂ (λ (first later : List EntryModel). first ++ later) (payload_less (is_opened (OfImageNamed name)) name payload refl) stays

  nodes_less : (last : List ℕ) (nodes : Nodes ComparedNode) →
      entries_unless_opened is_opened last (node_entries nodes) ≡ node_entries (nodes_unless_opened is_opened nodes)
  nodes_less last none = refl
  nodes_less last (node name own children later) =
      let rest : List EntryModel = NodeEnds ∷ node_entries later in
      let below : List EntryModel = node_entries children in
      let inner = last_after name (own_entries own) in
      let end = last_after inner below in
      ap (λ (later : List EntryModel). NodeBegins name ∷ later)
      (less-append name (own_entries own) (below ++ rest)
      ∙ ap₂ (λ (first later : List EntryModel). first ++ later) (own_less name own)
      (less-append inner below rest
      ∙ ap₂ (λ (first later : List EntryModel). first ++ later) (nodes_less inner children)
      (ap (λ (later : List EntryModel). NodeEnds ∷ later) (nodes_less end later))))

  roots_less : (root : Option (Root ComparedNode)) →
      option_map (entries_unless_opened is_opened []) (root_entries root) ≡ root_entries (option_map (root_unless_opened is_opened) root)
  roots_less None = refl
  roots_less (Some root) =
      ap Some
      (less-append [] (own_entries root.own) (node_entries root.children)
      ∙ ap₂ (λ (first later : List EntryModel). first ++ later) (own_less [] root.own)
      (nodes_less (last_after [] (own_entries root.own)) root.children))

-- ---- images

-- What the code compares of trees.
abbrev kept_less : (PayloadPlace → Bool) → KeptFit → Option (List EntryModel)
kept_less is_opened fit = option_map (λ entries. entries_unless_opened is_opened [] (map as_entry entries.items)) fit.entries

map_twice : {X Y Z : Type 0} (found : Option X) (f : X → Y) (g : Y → Z) →
    option_map (λ x. g (f x)) found ≡ option_map g (option_map f found)
map_twice None f g = refl
map_twice (Some x) f g = refl

entries_map : (is_opened : PayloadPlace → Bool) (fit : KeptFit) →
    kept_less is_opened fit
    ≡ option_map (entries_unless_opened is_opened []) (option_map (λ entries. map as_entry entries.items) fit.entries)
entries_map is_opened fit = map_twice fit.entries (λ entries. map as_entry entries.items) (entries_unless_opened is_opened [])

-- The entries of a tree that is kept.
entries_of : (is_opened : PayloadPlace → Bool) (tree : ReducedTree) (fit : KeptFit) → IsKeptTree tree fit →
    kept_less is_opened fit ≡ root_entries (option_map (root_unless_opened is_opened) tree.root)
entries_of is_opened tree fit is =
    entries_map is_opened fit ∙ ap (option_map (entries_unless_opened is_opened [])) is.entries ∙ roots_less is_opened tree.root

-- A tree but for the payloads that are opened.
abbrev less_tree : (PayloadPlace → Bool) → ReducedTree → ReducedTree
less_tree is_opened tree = record {
  cpu = tree.cpu;
  reservations = tree.reservations;
  root = option_map (root_unless_opened is_opened) tree.root;
}

pub trees_same_less : (is_opened : PayloadPlace → Bool) (tree others : ReducedTree) (one other : KeptFit) → IsKeptTree tree one →
    IsKeptTree others other →
    (((one.blob.now.cpu ≡ other.blob.now.cpu) × (one.blob.now.reservations ≡ other.blob.now.reservations))
    × (kept_less is_opened one ≡ kept_less is_opened other))
    ↔ (unless_opened is_opened (OfReducedTree tree) ≡ unless_opened is_opened (OfReducedTree others))
trees_same_less is_opened tree others one other is also =
    let both = trees_as_meanings (less_tree is_opened tree) (less_tree is_opened others) in
    let own = entries_of is_opened tree one is in
    let own_other = entries_of is_opened others other also in (
      (λ same. both.0 (λ i. record {
        cpu = (sym is.cpu ∙ same.0.0 ∙ also.cpu) i;
        reservations = (sym is.reservations ∙ same.0.1 ∙ also.reservations) i;
        root = roots_apart (less_tree is_opened tree).root (less_tree is_opened others).root (sym own ∙ same.1 ∙ own_other) i;
      })),
      (λ same.
          let trees = both.1 same in (
            (
              is.cpu ∙ ap (λ (tree : ReducedTree). tree.cpu) trees ∙ sym also.cpu,
              is.reservations ∙ ap (λ (tree : ReducedTree). tree.reservations) trees ∙ sym also.reservations,
            ),
            own ∙ ap (λ (tree : ReducedTree). root_entries tree.root) trees ∙ sym own_other,
          )),
    )

-- What the code compares of legacy images.
abbrev pub AreSameLessLegacy : List (Bor MadePlace) → (one other : KeptLegacy) → Type 0
AreSameLessLegacy opened one other =
    (fields_alone (image_of one.fields []) ≡ fields_alone (image_of other.fields []))
    × (one.time ≡ other.time)
    × (map (kept_part_unless opened) one.parts.items ≡ map (kept_part_unless opened) other.parts.items)

parts_of : (opened : List (Bor MadePlace)) (image : ReducedLegacy) (made : KeptLegacy) → IsKeptLegacy image made →
    map (kept_part_unless opened) made.parts.items ≡ map (part_unless_opened (is_one_of_places opened)) image.parts
parts_of opened image made is =
    by made.parts.items ∙ ap (map (part_unless_opened (is_one_of_places opened))) is.parts
  where
    by : (parts : List KeptPart) →
        map (kept_part_unless opened) parts ≡ map (part_unless_opened (is_one_of_places opened)) (map numbered_part parts)
    by [] = refl
    by (part ∷ later) = ap (λ (parts : List (ℕ × List ℕ)). kept_part_unless opened part ∷ parts) (by later)

-- A legacy image but for the parts that are opened.
abbrev less_legacy : List (Bor MadePlace) → ReducedLegacy → ReducedLegacy
less_legacy opened image = record {
  fields = image.fields;
  time = image.time;
  parts = map (part_unless_opened (is_one_of_places opened)) image.parts;
}

pub legacy_same_less : (opened : List (Bor MadePlace)) (image others : ReducedLegacy) (one other : KeptLegacy) → IsKeptLegacy image one →
    IsKeptLegacy others other → AreSameLessLegacy opened one other
    ↔ (unless_opened (is_one_of_places opened) (OfReducedLegacy image) ≡ unless_opened (is_one_of_places opened) (OfReducedLegacy others))
legacy_same_less opened image others one other is also =
    let both = legacy_as_meanings (less_legacy opened image) (less_legacy opened others) in
    let own = parts_of opened image one is in
    let own_other = parts_of opened others other also in (
      (λ same. both.0 (λ i. record {
        fields = (sym is.fields ∙ same.0 ∙ also.fields) i;
        time = (sym is.time ∙ same.1 ∙ also.time) i;
        parts = (sym own ∙ same.2 ∙ own_other) i;
      })),
      (λ same.
          let images = both.1 same in (
            is.fields ∙ ap (λ (image : ReducedLegacy). image.fields) images ∙ sym also.fields,
            is.time ∙ ap (λ (image : ReducedLegacy). image.time) images ∙ sym also.time,
            own ∙ ap (λ (image : ReducedLegacy). image.parts) images ∙ sym own_other,
          )),
    )
