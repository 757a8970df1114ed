use Rattle.std.proofs.Common.{◌≡◌, ℕ, Bool, false, List, [], ◌∷◌, Option, Some, None, map, refl, sym, ap, ap₂, ◌∙◌, true≢false}
use Rattle.std.specs.Option.{option_map}
use Rattle.bi_blob.specs.Tree.{Nodes, none, node, Root, with_each_node}
use Rattle.bi_describe.specs.ComparedNodes.{ComparedNode, ComparedPayload, ImageWith, NoImage, plain_compared}
use Rattle.bi_describe.specs.Comparing.{comparison_by_lines}
use Rattle.bi_describe.specs.DeepDescriptions.{deep_lines, insides_shown, lines_with_inside, whole_devicetree}
use Rattle.bi_describe.specs.DeepLaws.{NothingLeftOutComparesDeep}
use Rattle.bi_describe.specs.Devicetrees.{DeepMeaning, Devicetree, Insides}
use Rattle.bi_describe.specs.Ignoring.{PayloadPlace}
use Rattle.bi_describe.specs.OpenedPayloads.{deep_lines_without, nodes_unless_opened, own_unless_opened, part_unless_opened, payload_unless}
use Rattle.bi_describe.specs.OpenedPayloads.{root_unless_opened, shown_without, tree_without, unless_opened}
use Rattle.bi_describe.specs.ReducedMeanings.{OfReducedLegacy, OfReducedTree, ReducedMeaning, meaning_without}
use Rattle.bi_describe.proofs.NothingLeftOut.{all_lines, nothing_left_out_compares, whole_root_stays}

-- Without words no payload is opened, and all of what is inside stays.

abbrev closed : PayloadPlace → Bool
closed payload = false

parts_closed : (parts : List (ℕ × List ℕ)) → map (part_unless_opened closed) parts ≡ parts
parts_closed [] = refl
parts_closed (part ∷ later) = ap (λ (parts : List (ℕ × List ℕ)). part ∷ parts) (parts_closed later)

payload_closed : (payload : ComparedPayload) → payload_unless false payload ≡ payload
payload_closed NoImage = refl
payload_closed (ImageWith payload) = refl

own_closed : (name : List ℕ) (own : ComparedNode) → own_unless_opened closed name own ≡ own
own_closed name own = (λ i. record { properties = own.properties; payload = payload_closed own.payload i })

nodes_closed : (nodes : Nodes ComparedNode) → nodes_unless_opened closed nodes ≡ nodes
nodes_closed none = refl
nodes_closed (node name own children later) =
    let below = nodes_closed children in
    let after = nodes_closed later in
    (λ i. node name (own_closed name own i) (below i) (after i))

root_closed : (root : Option (Root ComparedNode)) → option_map (root_unless_opened closed) root ≡ root
root_closed None = refl
root_closed (Some root) = (λ i. Some (record { own = own_closed [] root.own i; children = nodes_closed root.children i }))

meaning_closed : (meaning : ReducedMeaning) → unless_opened closed meaning ≡ meaning
meaning_closed (OfReducedLegacy image) = (λ i. OfReducedLegacy (record {
  fields = image.fields;
  time = image.time;
  parts = parts_closed image.parts i;
}))
meaning_closed (OfReducedTree tree) = (λ i. OfReducedTree (record {
  cpu = tree.cpu;
  reservations = tree.reservations;
  root = root_closed tree.root i;
}))

-- ---- lines

pub tree_stays : (payload : PayloadPlace) (found : Option Devicetree) →
    option_map (tree_without [] payload) found ≡ option_map whole_devicetree found
tree_stays payload None = refl
tree_stays payload (Some tree) = (λ i. Some (record {
  cpu = tree.cpu;
  reservations = tree.reservations;
  root = whole_root_stays (with_each_node plain_compared tree.root) i;
}))

all_shown : (insides : Insides) → shown_without [] closed insides ≡ insides_shown insides
all_shown insides = (λ i. record { tree_at = λ payload. tree_stays payload (insides payload) i; is_left_out = closed })

lines_stay : (deep : DeepMeaning) → deep_lines_without [] closed deep ≡ deep_lines deep
lines_stay deep = ap₂ lines_with_inside (all_shown deep.insides) (all_lines deep.meaning)

-- ---- the law

pub nothing_left_out_compares_deep : NothingLeftOutComparesDeep
nothing_left_out_compares_deep limits other_limits file other_file one other means other_means =
    let plain = nothing_left_out_compares limits other_limits file other_file one.meaning other.meaning means.means.means
    other_means.means.means in
    record {
      is_same = (
        (λ same. plain.is_same.0 (sym (meaning_closed (meaning_without [] one.meaning)) ∙ same.rest
            ∙ meaning_closed (meaning_without [] other.meaning))),
        (λ same. record {
          rest = ap (λ meaning. unless_opened closed (meaning_without [] meaning)) same;
          trees = λ payload opened. absurd (true≢false (sym opened));
        }),
      );
      differences = ap₂ (comparison_by_lines one.meaning other.meaning) (lines_stay one) (lines_stay other);
    }
