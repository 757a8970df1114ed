use Rattle.std.proofs.Common.{◌≡◌, ◌⊎◌, ℕ, ◌+◌, Bool, true, false, not, List, [], ◌∷◌, ◌++◌, Contains, Option, None, Some, bytes_eq}
use Rattle.std.proofs.Common.{flat_map, inl, inr, map, refl, sym, ap, ap₂, subst, ◌∙◌, true≢false}
use Rattle.std.specs.Prelude.{◌&&◌, ◌||◌, ⊤, is_some, if◌then◌else◌}
use Rattle.std.specs.List.{list_any}
use Rattle.std.specs.Option.{option_map}
use Rattle.std.proofs.lemmas.Bool.{and_parts, not-true}
use Rattle.std.proofs.lemmas.Grind.{flat_map-append}
use Rattle.std.proofs.lemmas.List.Folds.{list_any-append}
use Rattle.bi_base.specs.Limits.{Limits}
use Rattle.bi_base.proofs.EqualBytes.{same_bytes}
use Rattle.bi_base.proofs.ListMembers.{Contains-cases, Contains-first, Contains-none, Contains-others}
use Rattle.bi_blob.specs.Tree.{Nodes, none, node, PropertyMap, Root, names, with_each, with_each_node}
use Rattle.bi_fit.specs.ImageTree.{children_of, image_nodes, nodes_or_none}
use Rattle.bi_fit.specs.Names.{images_name}
use Rattle.bi_norm.specs.Meaning.{Meaning, OfFit, OfLegacy}
use Rattle.bi_describe.specs.ComparedNodes.{ComparedNode, ComparedPayload, ImageWith, NoImage, compared_children, compared_images}
use Rattle.bi_describe.specs.ComparedNodes.{nodes_to_compare, plain_compared}
use Rattle.bi_describe.specs.DeepLaws.{MoreWordsKeepTheSameDeep}
use Rattle.bi_describe.specs.Devicetrees.{AreInside, DeepMeaning, Devicetree, Insides, MeansWithInside, image_payloads_at}
use Rattle.bi_describe.specs.Devicetrees.{payloads_at_places, payloads_of_parts}
use Rattle.bi_describe.specs.Ignoring.{Ignored, OfImageNamed, OfPart, PayloadPlace, is_node_ignored, is_part_ignored, names_node}
use Rattle.bi_describe.specs.Ignoring.{names_part}
use Rattle.bi_describe.specs.OpenedPayloads.{AreSameDeep, is_opened, is_payload_ignored, is_word_inside, nodes_unless_opened}
use Rattle.bi_describe.specs.OpenedPayloads.{own_unless_opened, part_unless_opened, payload_unless, root_unless_opened, tree_at_without}
use Rattle.bi_describe.specs.OpenedPayloads.{tree_without, unless_opened, word_inside, words_inside}
use Rattle.bi_describe.specs.ReducedMeanings.{OfReducedLegacy, OfReducedTree, ReducedMeaning, ReducedTree, compared_root, kept_nodes}
use Rattle.bi_describe.specs.ReducedMeanings.{kept_own, kept_part, kept_properties, kept_root, meaning_without, numbered_parts}
use Rattle.bi_describe.proofs.FurtherWords.{kept_again, kept_time_again, meaning_kept, reduced_again, root_kept}
use Rattle.bi_describe.proofs.OneInside.{FoundAt, found_payload, one_inside, place_found}

-- What is the same without some words is the same without more, also with what is inside.

-- ---- tests

both_false : (one other : Bool) → (one || other) ≡ false → (one ≡ false) × (other ≡ false)
both_false true other is = absurd (true≢false is)
both_false false other is = (refl, is)

-- ---- elements

-- An element of a list is the first or a later one.
abbrev In : {X : Type 0} → List X → X → Type 0
In [] x = ⊥
In (first ∷ later) x = (first ≡ x) ⊎ In later x

in_list : {X : Type 0} (xs : List X) (x : X) → Contains xs x → In xs x
in_list [] x has = Contains-none x has
in_list (first ∷ later) x has = by (Contains-cases first later x has) (in_list later x)
  where
    by : (first ≡ x) ⊎ Contains later x → (Contains later x → In later x) → (first ≡ x) ⊎ In later x
    by (inl is) rest = inl is
    by (inr has) rest = inr (rest has)

from_list : {X : Type 0} (xs : List X) (x : X) → In xs x → Contains xs x
from_list [] x has = absurd has
from_list (first ∷ later) x (inl is) = subst (Contains (first ∷ later)) is (Contains-first first later)
from_list (first ∷ later) x (inr has) = Contains-others first later x (from_list later x has)

-- ---- payloads that are opened

-- The payload is not left out as a whole by either of two lists of words.
stays_without : (words more : List Ignored) (place : PayloadPlace) → is_payload_ignored (words ++ more) place ≡ false →
    (is_payload_ignored words place ≡ false) × (is_payload_ignored more place ≡ false)
stays_without words more (OfPart index) is =
    both_false (is_part_ignored words index) (is_part_ignored more index) (sym (list_any-append (names_part index) words more) ∙ is)
stays_without words more (OfImageNamed name) is =
    let images : List (List ℕ) = images_name ∷ [] in
    let image : List (List ℕ) = images_name ∷ name ∷ [] in
    let all = λ (names : List (List ℕ)). is_node_ignored (words ++ more) names in
    let (root, later) = both_false (all []) (all images || all image) is in
    let (top, own) = both_false (all images) (all image) later in
    let a = both_false (is_node_ignored words []) (is_node_ignored more []) (sym (list_any-append (names_node []) words more) ∙ root) in
    let b = both_false (is_node_ignored words images) (is_node_ignored more images)
    (sym (list_any-append (names_node images) words more) ∙ top) in
    let d = both_false (is_node_ignored words image) (is_node_ignored more image)
    (sym (list_any-append (names_node image) words more) ∙ own) in
    (rw (a.0, b.0, d.0) refl, rw (a.1, b.1, d.1) refl)

-- And the other way round.
stays_with : (words more : List Ignored) (place : PayloadPlace) → is_payload_ignored words place ≡ false →
    is_payload_ignored more place ≡ false → is_payload_ignored (words ++ more) place ≡ false
stays_with words more (OfPart index) is also =
    list_any-append (names_part index) words more ∙ ap₂ (λ (a b : Bool). a || b) is also
stays_with words more (OfImageNamed name) is also =
    let images : List (List ℕ) = images_name ∷ [] in
    let image : List (List ℕ) = images_name ∷ name ∷ [] in
    let (root, later) = both_false (is_node_ignored words []) _ is in
    let (top, own) = both_false (is_node_ignored words images) (is_node_ignored words image) later in
    let (more_root, more_later) = both_false (is_node_ignored more []) _ also in
    let (more_top, more_own) = both_false (is_node_ignored more images) (is_node_ignored more image) more_later in
    let a : is_node_ignored (words ++ more) [] ≡ false =
    list_any-append (names_node []) words more ∙ ap₂ (λ (a b : Bool). a || b) root more_root in
    let b : is_node_ignored (words ++ more) images ≡ false =
    list_any-append (names_node images) words more ∙ ap₂ (λ (a b : Bool). a || b) top more_top in
    let d : is_node_ignored (words ++ more) image ≡ false =
    list_any-append (names_node image) words more ∙ ap₂ (λ (a b : Bool). a || b) own more_own in
    rw (a, b, d) refl

record IsOpened (words : List Ignored) (one other : Insides) (place : PayloadPlace) : Type 0 where
  has_word : list_any (is_word_inside place) words ≡ true
  stays : is_payload_ignored words place ≡ false
  is_there : is_some (one place) ≡ true
  is_in_other : is_some (other place) ≡ true

opened : (words : List Ignored) (one other : Insides) (place : PayloadPlace) → is_opened words one other place ≡ true →
    IsOpened words one other place
opened words one other place is =
    let (has_word, can) = and_parts (list_any (is_word_inside place) words) _ is in
    let (stays, there) = and_parts (not (is_payload_ignored words place)) _ can in
    let (is_there, is_in_other) = and_parts (is_some (one place)) (is_some (other place)) there in
    record { has_word = has_word; stays = not-true _ stays; is_there = is_there; is_in_other = is_in_other }

opened_by : (words : List Ignored) (one other : Insides) (place : PayloadPlace) → IsOpened words one other place →
    is_opened words one other place ≡ true
opened_by words one other place is = rw (is.has_word, is.stays, is.is_there, is.is_in_other) refl

-- ---- trees with payloads only in the image nodes

abbrev Placed : (above : List (List ℕ)) → ComparedPayload → Type 0
Placed above NoImage = ⊤
Placed above (ImageWith payload) = above ≡ images_name ∷ []

abbrev OnlyImages : (above : List (List ℕ)) → Nodes ComparedNode → Type 0
OnlyImages above none = ⊤
OnlyImages above (node name own children later) =
    Placed above own.payload × OnlyImages (above ++ name ∷ []) children × OnlyImages above later

plain_placed : (above : List (List ℕ)) (nodes : Nodes PropertyMap) → OnlyImages above (with_each plain_compared nodes)
plain_placed above none = tt
plain_placed above (node name own children later) = (tt, plain_placed (above ++ name ∷ []) children, plain_placed above later)

images_placed : (nodes : Nodes PropertyMap) (payloads : List (Option (List ℕ))) →
    OnlyImages (images_name ∷ []) (compared_images nodes payloads)
images_placed none payloads = tt
images_placed (node name own children later) [] = tt
images_placed (node name own children later) (payload ∷ payloads) =
    (refl, plain_placed (images_name ∷ name ∷ []) children, images_placed later payloads)

all_placed : (nodes : Nodes PropertyMap) (payloads : List (Option (List ℕ))) → OnlyImages [] (nodes_to_compare nodes payloads)
all_placed none payloads = tt
all_placed (node name own children later) payloads = (tt, by (bytes_eq name images_name) refl, all_placed later payloads)
  where
    by : (b : Bool) → bytes_eq name images_name ≡ b → OnlyImages (name ∷ []) (compared_children name children payloads)
    by true is =
        rw is (subst (λ top. OnlyImages (top ∷ []) (compared_images children payloads)) (sym (same_bytes name images_name is))
        (images_placed children payloads))
    by false is = rw is (plain_placed (name ∷ []) children)

kept_placed : (words : List Ignored) (above : List (List ℕ)) (nodes : Nodes ComparedNode) → OnlyImages above nodes →
    OnlyImages above (kept_nodes words above nodes)
kept_placed words above none placed = tt
kept_placed words above (node name own children later) placed =
    by (is_node_ignored words (above ++ name ∷ [])) refl (kept_placed words (above ++ name ∷ []) children placed.1)
    (kept_placed words above later placed.2)
  where
    by : (b : Bool) → is_node_ignored words (above ++ name ∷ []) ≡ b →
        OnlyImages (above ++ name ∷ []) (kept_nodes words (above ++ name ∷ []) children) → OnlyImages above (kept_nodes words above later) →
        OnlyImages above (kept_nodes words above (node name own children later))
    by true is below after = rw is after
    by false is below after = rw is (placed.0, below, after)

-- The root has none.
abbrev OnlyImagesIn : Option (Root ComparedNode) → Type 0
OnlyImagesIn None = ⊤
OnlyImagesIn (Some root) = (root.own.payload ≡ NoImage) × OnlyImages [] root.children

root_placed : (words : List Ignored) (root : Root PropertyMap) (payloads : List (Option (List ℕ))) →
    OnlyImagesIn (kept_root words (compared_root root payloads))
root_placed words root payloads = by (is_node_ignored words []) refl
  where
    by : (b : Bool) → is_node_ignored words [] ≡ b → OnlyImagesIn (kept_root words (compared_root root payloads))
    by true is = rw is tt
    by false is = rw is (refl, kept_placed words [] (nodes_to_compare root.children payloads) (all_placed root.children payloads))

abbrev OnlyImagesOf : ReducedMeaning → Type 0
OnlyImagesOf (OfReducedLegacy image) = ⊤
OnlyImagesOf (OfReducedTree tree) = OnlyImagesIn tree.root

meaning_placed : (words : List Ignored) (meaning : Meaning) → OnlyImagesOf (meaning_without words meaning)
meaning_placed words (OfLegacy image) = tt
meaning_placed words (OfFit tree) = root_placed words tree.root tree.payloads

-- ---- opened before and after

-- What is opened with fewer words is opened with more, or left out by them.
module _ (is_out is_out_later : PayloadPlace → Bool) (more : List Ignored)
    (covers : (place : PayloadPlace) → is_out place ≡ true → is_payload_ignored more place ≡ false → is_out_later place ≡ true) where
  payload_twice : (one other : Bool) (payload : ComparedPayload) → (one ≡ true → other ≡ true) →
      payload_unless other (payload_unless one payload) ≡ payload_unless other payload
  payload_twice one other NoImage fine = refl
  payload_twice false other (ImageWith payload) fine = refl
  payload_twice true true (ImageWith payload) fine = refl
  payload_twice true false (ImageWith payload) fine = absurd (true≢false (sym (fine refl)))

  payload_less_twice : (above : List (List ℕ)) (name : List ℕ) (payload : ComparedPayload) → Placed above payload →
      is_node_ignored more [] ≡ false → is_node_ignored more above ≡ false → is_node_ignored more (above ++ name ∷ []) ≡ false →
      payload_unless (is_out_later (OfImageNamed name)) (payload_unless (is_out (OfImageNamed name)) payload)
      ≡ payload_unless (is_out_later (OfImageNamed name)) payload
  payload_less_twice above name NoImage placed root top own = refl
  payload_less_twice above name (ImageWith payload) placed root top own =
      let images : is_node_ignored more (images_name ∷ []) ≡ false =
      subst (λ above. is_node_ignored more above ≡ false) placed top in
      let image : is_node_ignored more (images_name ∷ name ∷ []) ≡ false =
      subst (λ above. is_node_ignored more (above ++ name ∷ []) ≡ false) placed own in
      let stays : is_payload_ignored more (OfImageNamed name) ≡ false = rw (root, images, image) refl in
      payload_twice (is_out (OfImageNamed name)) (is_out_later (OfImageNamed name)) (ImageWith payload)
      (λ is. covers (OfImageNamed name) is stays)

  nodes_twice : (above : List (List ℕ)) (nodes : Nodes ComparedNode) → OnlyImages above nodes → is_node_ignored more [] ≡ false →
      is_node_ignored more above ≡ false →
      nodes_unless_opened is_out_later (kept_nodes more above (nodes_unless_opened is_out nodes))
      ≡ nodes_unless_opened is_out_later (kept_nodes more above nodes)
  nodes_twice above none placed root top = refl
  nodes_twice above (node name own children later) placed root top =
      by (is_node_ignored more inner) refl (nodes_twice inner children placed.1 root) (nodes_twice above later placed.2 root top)
    where
      inner : List (List ℕ)
      inner = above ++ name ∷ []

      by : (b : Bool) → is_node_ignored more inner ≡ b →
          (is_node_ignored more inner ≡ false →
          nodes_unless_opened is_out_later (kept_nodes more inner (nodes_unless_opened is_out children))
          ≡ nodes_unless_opened is_out_later (kept_nodes more inner children)) →
          nodes_unless_opened is_out_later (kept_nodes more above (nodes_unless_opened is_out later))
          ≡ nodes_unless_opened is_out_later (kept_nodes more above later) →
          nodes_unless_opened is_out_later (kept_nodes more above (nodes_unless_opened is_out (node name own children later)))
          ≡ nodes_unless_opened is_out_later (kept_nodes more above (node name own children later))
      by true is below after = rw is after
      by false is below after =
          let there = below is in
          let payload = payload_less_twice above name own.payload placed.0 root top is in
          rw is (λ i.
          node name (record { properties = kept_properties more inner own.properties; payload = payload i }) (there i) (after i))

  root_twice : (root : Option (Root ComparedNode)) → OnlyImagesIn root →
      option_map (root_unless_opened is_out_later) (kept_again more (option_map (root_unless_opened is_out) root))
      ≡ option_map (root_unless_opened is_out_later) (kept_again more root)
  root_twice None placed = refl
  root_twice (Some root) placed = by (is_node_ignored more []) refl
    where
      payload : payload_unless (is_out_later (OfImageNamed [])) (payload_unless (is_out (OfImageNamed [])) root.own.payload)
          ≡ payload_unless (is_out_later (OfImageNamed [])) root.own.payload
      payload = rw (placed.0) refl

      by : (b : Bool) → is_node_ignored more [] ≡ b →
          option_map (root_unless_opened is_out_later) (kept_root more (root_unless_opened is_out root))
          ≡ option_map (root_unless_opened is_out_later) (kept_root more root)
      by true is = rw is refl
      by false is =
          let there = nodes_twice [] root.children placed.1 is is in
          rw is (λ i. Some (record {
            own = record { properties = kept_properties more [] root.own.properties; payload = payload i };
            children = there i;
          }))

  parts_twice : (parts : List (ℕ × List ℕ)) →
      map (part_unless_opened is_out_later) (flat_map (kept_part more) (map (part_unless_opened is_out) parts))
      ≡ map (part_unless_opened is_out_later) (flat_map (kept_part more) parts)
  parts_twice [] = refl
  parts_twice (part ∷ later) = by (is_out (OfPart part.0)) (is_part_ignored more part.0) refl refl (parts_twice later)
    where
      by : (first second : Bool) → is_out (OfPart part.0) ≡ first → is_part_ignored more part.0 ≡ second →
          map (part_unless_opened is_out_later) (flat_map (kept_part more) (map (part_unless_opened is_out) later))
          ≡ map (part_unless_opened is_out_later) (flat_map (kept_part more) later) →
          map (part_unless_opened is_out_later) (flat_map (kept_part more) (map (part_unless_opened is_out) (part ∷ later)))
          ≡ map (part_unless_opened is_out_later) (flat_map (kept_part more) (part ∷ later))
      by true true is also rest = rw (is, also) rest
      by true false is also rest =
          rw (is, also, covers (OfPart part.0) is also) (ap (λ (parts : List (ℕ × List ℕ)). (part.0, []) ∷ parts) rest)
      by false true is also rest = rw (is, also) rest
      by false false is also rest =
          rw (is, also) (ap (λ (parts : List (ℕ × List ℕ)). part_unless_opened is_out_later part ∷ parts) rest)

  meaning_twice : (meaning : ReducedMeaning) → OnlyImagesOf meaning →
      unless_opened is_out_later (reduced_again more (unless_opened is_out meaning))
      ≡ unless_opened is_out_later (reduced_again more meaning)
  meaning_twice (OfReducedLegacy image) placed = (λ i. OfReducedLegacy (record {
    fields = image.fields;
    time = kept_time_again more image.time;
    parts = parts_twice image.parts i;
  }))
  meaning_twice (OfReducedTree tree) placed = (λ i. OfReducedTree (record {
    cpu = tree.cpu;
    reservations = tree.reservations;
    root = root_twice tree.root placed i;
  }))

-- ---- payloads that are not opened are compared

-- The payloads of what is compared, each with its place.
abbrev own_payload : (name : List ℕ) → ComparedPayload → List (PayloadPlace × List ℕ)
own_payload name (ImageWith (Some payload)) = (OfImageNamed name, payload) ∷ []
own_payload name payload = []

abbrev node_payloads : Nodes ComparedNode → List (PayloadPlace × List ℕ)
node_payloads none = []
node_payloads (node name own children later) = own_payload name own.payload ++ node_payloads later

abbrev root_payloads : Option (Root ComparedNode) → List (PayloadPlace × List ℕ)
root_payloads None = []
root_payloads (Some root) = node_payloads (nodes_or_none (image_nodes root))

abbrev part_payload : ℕ × List ℕ → PayloadPlace × List ℕ
part_payload part = (OfPart part.0, part.1)

abbrev compared_payloads : ReducedMeaning → List (PayloadPlace × List ℕ)
compared_payloads (OfReducedLegacy image) = map part_payload image.parts
compared_payloads (OfReducedTree tree) = root_payloads tree.root

module _ (is_out : PayloadPlace → Bool) (words : List Ignored) (place : PayloadPlace) (payload : List ℕ)
    (is_shut : is_out place ≡ false) where
  -- The place of a pair.
  same_name : (other : PayloadPlace) (bytes : List ℕ) → ◌≡◌ {A = PayloadPlace × List ℕ} (other, bytes) (place, payload) → other ≡ place
  same_name other bytes is = ap (λ (pair : PayloadPlace × List ℕ). pair.0) is

  shut_too : (other : PayloadPlace) → other ≡ place → is_out other ≡ false
  shut_too other is = ap is_out is ∙ is_shut

  -- ---- parts

  abbrev parts_left : (parts : List (ℕ × List ℕ)) → List (PayloadPlace × List ℕ)
  parts_left parts = map part_payload (map (part_unless_opened is_out) (flat_map (kept_part words) parts))

  parts_in : is_payload_ignored words place ≡ false → (index : ℕ) (parts : List (List ℕ)) →
      In (payloads_of_parts index parts) (place, payload) → In (parts_left (numbered_parts index parts)) (place, payload)
  parts_in stays index [] has = absurd has
  parts_in stays index (part ∷ later) (inl is) = rw (kept, shut_too (OfPart index) here) (inl is)
    where
      here : OfPart index ≡ place
      here = same_name (OfPart index) part is

      kept : is_part_ignored words index ≡ false
      kept = ap (is_payload_ignored words) here ∙ stays
  parts_in stays index (part ∷ later) (inr has) =
      by (is_part_ignored words index) refl (parts_in stays (index + 1) later has)
    where
      by : (b : Bool) → is_part_ignored words index ≡ b → In (parts_left (numbered_parts (index + 1) later)) (place, payload) →
          In (parts_left (numbered_parts index (part ∷ later))) (place, payload)
      by true is rest = rw is rest
      by false is rest = rw is (inr rest)

  parts_from : (index : ℕ) (parts : List (List ℕ)) → In (parts_left (numbered_parts index parts)) (place, payload) →
      In (payloads_of_parts index parts) (place, payload)
  parts_from index [] has = absurd has
  parts_from index (part ∷ later) has =
      by (is_part_ignored words index) refl has (parts_from (index + 1) later)
    where
      first : (b : Bool) → is_out (OfPart index) ≡ b →
          part_payload (part_unless_opened is_out (index, part)) ≡ (place, payload) →
          ◌≡◌ {A = PayloadPlace × List ℕ} (OfPart index, part) (place, payload)
      first true is same =
          let there : ◌≡◌ {A = PayloadPlace × List ℕ} (OfPart index, []) (place, payload) = rw is at same in
          absurd (true≢false (sym is ∙ shut_too (OfPart index) (same_name (OfPart index) [] there)))
      first false is same = rw is at same

      by : (b : Bool) → is_part_ignored words index ≡ b → In (parts_left (numbered_parts index (part ∷ later))) (place, payload) →
          (In (parts_left (numbered_parts (index + 1) later)) (place, payload) →
          In (payloads_of_parts (index + 1) later) (place, payload)) →
          In (payloads_of_parts index (part ∷ later)) (place, payload)
      by true is has rest = inr (rest (rw is at has))
      by false is has rest = which (rw is at has)
        where
          which : (part_payload (part_unless_opened is_out (index, part)) ≡ (place, payload))
              ⊎ In (parts_left (numbered_parts (index + 1) later)) (place, payload) →
              In (payloads_of_parts index (part ∷ later)) (place, payload)
          which (inl same) = inl (first (is_out (OfPart index)) refl same)
          which (inr has) = inr (rest has)

  -- ---- images

  abbrev images_left : Nodes PropertyMap → List (Option (List ℕ)) → List (PayloadPlace × List ℕ)
  images_left nodes payloads =
      node_payloads (nodes_unless_opened is_out (kept_nodes words (images_name ∷ []) (compared_images nodes payloads)))

  images_in : is_payload_ignored words place ≡ false → (nodes : Nodes PropertyMap) (payloads : List (Option (List ℕ))) →
      In (image_payloads_at (names nodes) payloads) (place, payload) → In (images_left nodes payloads) (place, payload)
  images_in stays none payloads has = absurd has
  images_in stays (node name own children later) [] has = absurd has
  images_in stays (node name own children later) (None ∷ payloads) has =
      by (is_node_ignored words (images_name ∷ name ∷ [])) refl (images_in stays later payloads has)
    where
      by : (b : Bool) → is_node_ignored words (images_name ∷ name ∷ []) ≡ b → In (images_left later payloads) (place, payload) →
          In (images_left (node name own children later) (None ∷ payloads)) (place, payload)
      by true is rest = rw is rest
      by false is rest = rw is (none_first (is_out (OfImageNamed name)) rest)
        where
          none_first : (b : Bool) → In (images_left later payloads) (place, payload) →
              In (own_payload name (payload_unless b (ImageWith None)) ++ images_left later payloads) (place, payload)
          none_first true rest = rest
          none_first false rest = rest
  images_in stays (node name own children later) (Some bytes ∷ payloads) (inl is) = rw (kept, shut_too (OfImageNamed name) here) (inl is)
    where
      here : OfImageNamed name ≡ place
      here = same_name (OfImageNamed name) bytes is

      kept : is_node_ignored words (images_name ∷ name ∷ []) ≡ false
      kept =
          let (root, below) = both_false (is_node_ignored words []) _ (ap (is_payload_ignored words) here ∙ stays) in
          (both_false (is_node_ignored words (images_name ∷ [])) _ below).1
  images_in stays (node name own children later) (Some bytes ∷ payloads) (inr has) =
      by (is_node_ignored words (images_name ∷ name ∷ [])) refl (images_in stays later payloads has)
    where
      by : (b : Bool) → is_node_ignored words (images_name ∷ name ∷ []) ≡ b → In (images_left later payloads) (place, payload) →
          In (images_left (node name own children later) (Some bytes ∷ payloads)) (place, payload)
      by true is rest = rw is rest
      by false is rest = rw is (some_first (is_out (OfImageNamed name)) rest)
        where
          some_first : (b : Bool) → In (images_left later payloads) (place, payload) →
              In (own_payload name (payload_unless b (ImageWith (Some bytes))) ++ images_left later payloads) (place, payload)
          some_first true rest = rest
          some_first false rest = inr rest

  images_from : (nodes : Nodes PropertyMap) (payloads : List (Option (List ℕ))) → In (images_left nodes payloads) (place, payload) →
      In (image_payloads_at (names nodes) payloads) (place, payload)
  images_from none payloads has = absurd has
  images_from (node name own children later) [] has = absurd has
  images_from (node name own children later) (first ∷ payloads) has =
      by (is_node_ignored words (images_name ∷ name ∷ [])) refl has (images_from later payloads)
    where
      skipped : (found : Option (List ℕ)) → In (image_payloads_at (names later) payloads) (place, payload) →
          In (image_payloads_at (names (node name own children later)) (found ∷ payloads)) (place, payload)
      skipped None has = has
      skipped (Some bytes) has = inr has

      which : (found : Option (List ℕ)) (b : Bool) →
          In (own_payload name (payload_unless b (ImageWith found)) ++ images_left later payloads) (place, payload) →
          (In (images_left later payloads) (place, payload) → In (image_payloads_at (names later) payloads) (place, payload)) →
          In (image_payloads_at (names (node name own children later)) (found ∷ payloads)) (place, payload)
      which None true has rest = rest has
      which None false has rest = rest has
      which (Some bytes) true has rest = inr (rest has)
      which (Some bytes) false (inl is) rest = inl is
      which (Some bytes) false (inr has) rest = inr (rest has)

      by : (b : Bool) → is_node_ignored words (images_name ∷ name ∷ []) ≡ b →
          In (images_left (node name own children later) (first ∷ payloads)) (place, payload) →
          (In (images_left later payloads) (place, payload) → In (image_payloads_at (names later) payloads) (place, payload)) →
          In (image_payloads_at (names (node name own children later)) (first ∷ payloads)) (place, payload)
      by true is has rest = skipped first (rest (rw is at has))
      by false is has rest = which first (is_out (OfImageNamed name)) (rw is at has) rest

-- ---- the image nodes of what is compared

images_opened : (is_out : PayloadPlace → Bool) (nodes : Nodes ComparedNode) →
    children_of images_name (nodes_unless_opened is_out nodes) ≡ option_map (nodes_unless_opened is_out) (children_of images_name nodes)
images_opened is_out none = refl
images_opened is_out (node name own children later) = by (bytes_eq name images_name) refl (images_opened is_out later)
  where
    by : (b : Bool) → bytes_eq name images_name ≡ b →
        children_of images_name (nodes_unless_opened is_out later)
        ≡ option_map (nodes_unless_opened is_out) (children_of images_name later) →
        children_of images_name (nodes_unless_opened is_out (node name own children later))
        ≡ option_map (nodes_unless_opened is_out) (children_of images_name (node name own children later))
    by true is rest = rw is refl
    by false is rest = rw is rest

images_compared : (nodes : Nodes PropertyMap) (payloads : List (Option (List ℕ))) →
    children_of images_name (nodes_to_compare nodes payloads)
    ≡ option_map (λ images. compared_images images payloads) (children_of images_name nodes)
images_compared none payloads = refl
images_compared (node name own children later) payloads = by (bytes_eq name images_name) refl (images_compared later payloads)
  where
    by : (b : Bool) → bytes_eq name images_name ≡ b →
        children_of images_name (nodes_to_compare later payloads)
        ≡ option_map (λ images. compared_images images payloads) (children_of images_name later) →
        children_of images_name (nodes_to_compare (node name own children later) payloads)
        ≡ option_map (λ images. compared_images images payloads) (children_of images_name (node name own children later))
    by true is rest = rw is refl
    by false is rest = rw is rest

-- They stay with the node that they are below,
images_kept : (words : List Ignored) (nodes : Nodes ComparedNode) → is_node_ignored words (images_name ∷ []) ≡ false →
    children_of images_name (kept_nodes words [] nodes) ≡ option_map (kept_nodes words (images_name ∷ [])) (children_of images_name nodes)
images_kept words none stays = refl
images_kept words (node name own children later) stays =
    by (is_node_ignored words (name ∷ [])) (bytes_eq name images_name) refl refl (images_kept words later stays)
  where
    same : bytes_eq name images_name ≡ true → name ≡ images_name
    same is = same_bytes name images_name is

    by : (b d : Bool) → is_node_ignored words (name ∷ []) ≡ b → bytes_eq name images_name ≡ d →
        children_of images_name (kept_nodes words [] later)
        ≡ option_map (kept_nodes words (images_name ∷ [])) (children_of images_name later) →
        children_of images_name (kept_nodes words [] (node name own children later))
        ≡ option_map (kept_nodes words (images_name ∷ [])) (children_of images_name (node name own children later))
    by true true is also rest =
        absurd (true≢false (sym is ∙ ap (λ name. is_node_ignored words (name ∷ [])) (same also) ∙ stays))
    by true false is also rest = rw (is, also) rest
    by false true is also rest = rw (is, also) (ap (λ name. Some (kept_nodes words (name ∷ []) children)) (same also))
    by false false is also rest = rw (is, also) rest

-- or are left out with it.
no_images : (words : List Ignored) (nodes : Nodes ComparedNode) → is_node_ignored words (images_name ∷ []) ≡ true →
    children_of images_name (kept_nodes words [] nodes) ≡ None
no_images words none is_out = refl
no_images words (node name own children later) is_out =
    by (is_node_ignored words (name ∷ [])) (bytes_eq name images_name) refl refl (no_images words later is_out)
  where
    by : (b d : Bool) → is_node_ignored words (name ∷ []) ≡ b → bytes_eq name images_name ≡ d →
        children_of images_name (kept_nodes words [] later) ≡ None →
        children_of images_name (kept_nodes words [] (node name own children later)) ≡ None
    by true d is also rest = rw is rest
    by false true is also rest =
        absurd (true≢false (sym is_out ∙ ap (λ name. is_node_ignored words (name ∷ [])) (sym (same_bytes name images_name also)) ∙ is))
    by false false is also rest = rw (is, also) rest

-- The payloads of the image nodes that stay.
module _ (is_out : PayloadPlace → Bool) (words : List Ignored) (root : Root PropertyMap) (payloads : List (Option (List ℕ))) where
  abbrev left : Option (Root ComparedNode)
  left = option_map (root_unless_opened is_out) (kept_root words (compared_root root payloads))

  abbrev nodes_left : Option (Nodes PropertyMap) → Nodes ComparedNode
  nodes_left images =
      nodes_or_none
      (option_map (nodes_unless_opened is_out)
      (option_map (kept_nodes words (images_name ∷ [])) (option_map (λ images. compared_images images payloads) images)))

  found : (images : Option (Nodes PropertyMap)) → node_payloads (nodes_left images)
      ≡ node_payloads (nodes_unless_opened is_out (kept_nodes words (images_name ∷ []) (compared_images (nodes_or_none images) payloads)))
  found None = refl
  found (Some images) = refl

  payloads_left : is_node_ignored words [] ≡ false → is_node_ignored words (images_name ∷ []) ≡ false → root_payloads left
      ≡ node_payloads (nodes_unless_opened is_out
      (kept_nodes words (images_name ∷ []) (compared_images (nodes_or_none (image_nodes root)) payloads)))
  payloads_left is also =
      rw is (ap (λ images. node_payloads (nodes_or_none images))
      (images_opened is_out (kept_nodes words [] (nodes_to_compare root.children payloads))
      ∙ ap (option_map (nodes_unless_opened is_out)) (images_kept words (nodes_to_compare root.children payloads) also
      ∙ ap (option_map (kept_nodes words (images_name ∷ []))) (images_compared root.children payloads)))
      ∙ found (image_nodes root))

  none_without_root : is_node_ignored words [] ≡ true → root_payloads left ≡ []
  none_without_root is = rw is refl

  none_without_images : is_node_ignored words [] ≡ false → is_node_ignored words (images_name ∷ []) ≡ true → root_payloads left ≡ []
  none_without_images is also =
      rw is (ap (λ images. node_payloads (nodes_or_none images))
      (images_opened is_out (kept_nodes words [] (nodes_to_compare root.children payloads))
      ∙ ap (option_map (nodes_unless_opened is_out)) (no_images words (nodes_to_compare root.children payloads) also)))

-- ---- payloads of meanings

payload_in : (is_out : PayloadPlace → Bool) (words : List Ignored) (meaning : Meaning) (place : PayloadPlace) (payload : List ℕ) →
    is_out place ≡ false → is_payload_ignored words place ≡ false → In (payloads_at_places meaning) (place, payload) →
    In (compared_payloads (unless_opened is_out (meaning_without words meaning))) (place, payload)
payload_in is_out words (OfLegacy image) place payload shut stays has = parts_in is_out words place payload shut stays 0 image.parts has
payload_in is_out words (OfFit tree) place payload shut stays has = by place refl
  where
    images : Nodes PropertyMap
    images = nodes_or_none (image_nodes tree.root)

    no_part : (nodes : Nodes PropertyMap) (payloads : List (Option (List ℕ))) (index : ℕ) →
        In (image_payloads_at (names nodes) payloads) (OfPart index, payload) → ⊥
    no_part none payloads index has = has
    no_part (node name own children later) [] index has = has
    no_part (node name own children later) (None ∷ payloads) index has = no_part later payloads index has
    no_part (node name own children later) (Some bytes ∷ payloads) index (inl is) =
        let apart : OfImageNamed name ≡ OfPart index = ap (λ (pair : PayloadPlace × List ℕ). pair.0) is in
        absurd cc
    no_part (node name own children later) (Some bytes ∷ payloads) index (inr has) = no_part later payloads index has

    by : (other : PayloadPlace) → place ≡ other →
        In (root_payloads (left is_out words tree.root tree.payloads)) (place, payload)
    by (OfPart index) is =
        absurd (no_part images tree.payloads index (subst (λ p. In (image_payloads_at (names images) tree.payloads) (p, payload)) is has))
    by (OfImageNamed name) is =
        let stays_there : is_payload_ignored words (OfImageNamed name) ≡ false = subst (λ p. is_payload_ignored words p ≡ false) is stays in
        let (root, later) = both_false (is_node_ignored words []) _ stays_there in
        let (top, own) = both_false (is_node_ignored words (images_name ∷ [])) _ later in
        subst (λ all. In all (place, payload)) (sym (payloads_left is_out words tree.root tree.payloads root top))
        (images_in is_out words place payload shut stays images tree.payloads has)

payload_from : (is_out : PayloadPlace → Bool) (words : List Ignored) (meaning : Meaning) (place : PayloadPlace) (payload : List ℕ) →
    is_out place ≡ false → In (compared_payloads (unless_opened is_out (meaning_without words meaning))) (place, payload) →
    In (payloads_at_places meaning) (place, payload)
payload_from is_out words (OfLegacy image) place payload shut has = parts_from is_out words place payload shut 0 image.parts has
payload_from is_out words (OfFit tree) place payload shut has =
    by (is_node_ignored words []) (is_node_ignored words (images_name ∷ [])) refl refl
  where
    all : List (PayloadPlace × List ℕ)
    all = root_payloads (left is_out words tree.root tree.payloads)

    there : (others : List (PayloadPlace × List ℕ)) → all ≡ others → In others (place, payload)
    there others is = subst (λ all. In all (place, payload)) is has

    by : (b d : Bool) → is_node_ignored words [] ≡ b → is_node_ignored words (images_name ∷ []) ≡ d →
        In (payloads_at_places (OfFit tree)) (place, payload)
    by true d is also = absurd (there [] (none_without_root is_out words tree.root tree.payloads is))
    by false true is also = absurd (there [] (none_without_images is_out words tree.root tree.payloads is also))
    by false false is also =
        images_from is_out words place payload shut (nodes_or_none (image_nodes tree.root)) tree.payloads
        (there _ (payloads_left is_out words tree.root tree.payloads is also))

-- ---- the law

-- What more words leave out of a tree inside.
abbrev tree_again : List Ignored → ReducedTree → ReducedTree
tree_again words tree = record { cpu = tree.cpu; reservations = tree.reservations; root = kept_again words tree.root }

tree_more : (words more : List Ignored) (place : PayloadPlace) (found : Option Devicetree) →
    option_map (tree_without (words ++ more) place) found
    ≡ option_map (tree_again (words_inside place more)) (option_map (tree_without words place) found)
tree_more words more place None = refl
tree_more words more place (Some tree) =
    let root = with_each_node plain_compared tree.root in
    let is : kept_root (words_inside place (words ++ more)) root
    ≡ kept_again (words_inside place more) (kept_root (words_inside place words) root) =
    ap (λ words. kept_root words root) (flat_map-append (word_inside place) words more)
    ∙ sym (root_kept (words_inside place words) (words_inside place more) root) in
    (λ i. Some (record { cpu = tree.cpu; reservations = tree.reservations; root = is i }))

pub more_words_keep_the_same_deep : MoreWordsKeepTheSameDeep
more_words_keep_the_same_deep limits file other_file words more one other means other_means same =
    record { rest = rest; trees = trees }
  where
    is_out : PayloadPlace → Bool
    is_out place = is_opened words one.insides other.insides place

    is_out_later : PayloadPlace → Bool
    is_out_later place = is_opened (words ++ more) one.insides other.insides place

    covers : (place : PayloadPlace) → is_out place ≡ true → is_payload_ignored more place ≡ false → is_out_later place ≡ true
    covers place is stays =
        let before = opened words one.insides other.insides place is in
        opened_by (words ++ more) one.insides other.insides place (record {
          has_word = list_any-append (is_word_inside place) words more
              ∙ ap (λ b. b || list_any (is_word_inside place) more) before.has_word;
          stays = stays_with words more place before.stays stays;
          is_there = before.is_there;
          is_in_other = before.is_in_other;
        })

    further : (meaning : Meaning) → unless_opened is_out_later (meaning_without (words ++ more) meaning)
        ≡ unless_opened is_out_later (reduced_again more (unless_opened is_out (meaning_without words meaning)))
    further meaning =
        ap (unless_opened is_out_later) (sym (meaning_kept words more meaning))
        ∙ sym (meaning_twice is_out is_out_later more covers (meaning_without words meaning) (meaning_placed words meaning))

    rest : unless_opened is_out_later (meaning_without (words ++ more) one.meaning)
        ≡ unless_opened is_out_later (meaning_without (words ++ more) other.meaning)
    rest = further one.meaning ∙ ap (λ meaning. unless_opened is_out_later (reduced_again more meaning)) same.rest
        ∙ sym (further other.meaning)

    -- A payload that was compared byte by byte.
    same_inside : (place : PayloadPlace) → is_out place ≡ false → is_payload_ignored words place ≡ false →
        is_some (one.insides place) ≡ true → one.insides place ≡ other.insides place
    same_inside place shut stays is_there = by (found_payload (payloads_at_places one.meaning) place)
      where
        by : FoundAt (payloads_at_places one.meaning) place → one.insides place ≡ other.insides place
        by (inl (payload, has)) =
            let compared = payload_in is_out words one.meaning place payload shut stays (in_list _ _ has) in
            let also = payload_from is_out words other.meaning place payload shut
            (subst (λ meaning. In (compared_payloads meaning) (place, payload)) same.rest compared) in
            one_inside limits payload (one.insides place) (other.insides place) (means.are_inside.each place payload has)
            (other_means.are_inside.each place payload (from_list _ _ also))
        by (inr nothing) =
            absurd (true≢false (sym is_there ∙ ap is_some (means.are_inside.other place nothing)))

    trees : (place : PayloadPlace) → is_out_later place ≡ true →
        tree_at_without (words ++ more) one.insides place ≡ tree_at_without (words ++ more) other.insides place
    trees place is = by (is_out place) refl
      where
        now : IsOpened (words ++ more) one.insides other.insides place
        now = opened (words ++ more) one.insides other.insides place is

        by : (b : Bool) → is_out place ≡ b →
            tree_at_without (words ++ more) one.insides place ≡ tree_at_without (words ++ more) other.insides place
        by true before =
            tree_more words more place (one.insides place)
            ∙ ap (option_map (tree_again (words_inside place more))) (same.trees place before)
            ∙ sym (tree_more words more place (other.insides place))
        by false before =
            ap (option_map (tree_without (words ++ more) place))
            (same_inside place before (stays_without words more place now.stays).0 now.is_there)
