use Rattle.std.proofs.Common.{◌≡◌, ◌≢◌, ℕ, Bool, true, false, not, List, [], ◌∷◌, ◌++◌, map, bytes_eq, arith, rules}
use Rattle.std.specs.Prelude.{◌&&◌, ◌==◌, ltb}
use Rattle.std.specs.List.{AllByRecursion, list_all}
use Rattle.std.proofs.lemmas.Bool.{and_parts, not-true, eqb-false, false≢true}
use Rattle.bi_base.specs.Cells.{AreBytes}
use Rattle.bi_base.proofs.ByteLists.{AreBytes-none, bytes_by_test}
use Rattle.bi_base.proofs.EqualBytes.{other_bytes}
use Rattle.bi_base.proofs.ListMembers.{each-append}
use Rattle.bi_blob.specs.Tree.{Nodes, none, node, Root, Property, names, IsChildName, IsNew, AreProperties, AreNodes}
use Rattle.bi_blob.specs.Events.{NodeProperty, NodeEnd, events}
use Rattle.bi_blob.specs.Layout.{AreEventBytes, IsContent}

-- A tree that passes the test of trees can be laid out, with boot processor 0 and no memory reservations.

-- Whether these are bytes.
abbrev are_bytes : List ℕ → Bool
are_bytes bytes = list_all (λ byte. ltb byte 256) bytes

-- Whether none of the given bytes is this one.
abbrev has_no : ℕ → List ℕ → Bool
has_no byte bytes = list_all (λ other. not (other == byte)) bytes

no_byte_by_test : (byte : ℕ) (bytes : List ℕ) → has_no byte bytes ≡ true → AllByRecursion (λ other. other ≢ byte) bytes
no_byte_by_test byte [] passes = tt
no_byte_by_test byte (other ∷ later) passes =
    let both = and_parts (not (other == byte)) (has_no byte later) passes in
    (eqb-false other byte (not-true (other == byte) both.0), no_byte_by_test byte later both.1)

-- Whether there is a first byte.
abbrev has_some : List ℕ → Bool
has_some [] = false
has_some (byte ∷ later) = true

some_by_test : (bytes : List ℕ) → has_some bytes ≡ true → bytes ≢ []
some_by_test [] passes = absurd (false≢true passes)
some_by_test (byte ∷ later) passes = λ e. absurd cc

-- Whether this name is none of the others.
abbrev is_new : List ℕ → List (List ℕ) → Bool
is_new name others = list_all (λ other. not (bytes_eq other name)) others

new_by_test : (name : List ℕ) (others : List (List ℕ)) → is_new name others ≡ true → IsNew name others
new_by_test name [] passes = tt
new_by_test name (other ∷ later) passes =
    let both = and_parts (not (bytes_eq other name)) (is_new name later) passes in
    (other_bytes other name (not-true (bytes_eq other name) both.0), new_by_test name later both.1)

-- Whether these are properties, and bytes.
abbrev are_properties : List Property → Bool
are_properties [] = true
are_properties (property ∷ later) =
    (has_some property.0 && has_no 0 property.0)
    && ((are_bytes property.0 && are_bytes property.1)
    && (is_new property.0 (map (λ property. property.0) later) && are_properties later))

properties_by_test : (properties : List Property) → are_properties properties ≡ true →
    AreProperties properties × AllByRecursion AreEventBytes (map NodeProperty properties)
properties_by_test [] passes = (record { named = tt; distinct = tt }, tt)
properties_by_test (property ∷ later) passes =
    let first = and_parts (has_some property.0 && has_no 0 property.0)
    ((are_bytes property.0 && are_bytes property.1) &&
    (is_new property.0 (map (λ property. property.0) later) && are_properties later)) passes in
    let name = and_parts (has_some property.0) (has_no 0 property.0) first.0 in
    let second = and_parts (are_bytes property.0 && are_bytes property.1)
    (is_new property.0 (map (λ property. property.0) later) && are_properties later) first.1 in
    let bytes = and_parts (are_bytes property.0) (are_bytes property.1) second.0 in
    let third = and_parts (is_new property.0 (map (λ property. property.0) later)) (are_properties later) second.1 in
    let rest = properties_by_test later third.1 in (
      record {
        named = (record { some = some_by_test property.0 name.0; no_zero = no_byte_by_test 0 property.0 name.1 }, rest.0.named);
        distinct = (new_by_test property.0 (map (λ property. property.0) later) third.0, rest.0.distinct);
      },
      ((bytes_by_test property.0 bytes.0, bytes_by_test property.1 bytes.1), rest.1),
    )

-- Whether this is the name of a child, and bytes.
abbrev is_child_name_of_bytes : List ℕ → Bool
is_child_name_of_bytes name = has_some name && (has_no 0 name && (has_no 47 name && are_bytes name))

child_name_by_test : (name : List ℕ) → is_child_name_of_bytes name ≡ true → IsChildName name × AreBytes name
child_name_by_test name passes = search (rules, and_parts, some_by_test, no_byte_by_test, bytes_by_test)

-- Whether these are nodes, and bytes.
abbrev are_nodes : Nodes (List Property) → Bool
are_nodes none = true
are_nodes (node name own children later) =
    is_child_name_of_bytes name && (is_new name (names later) && (are_properties own && (are_nodes children && are_nodes later)))

nodes_by_test : (nodes : Nodes (List Property)) → are_nodes nodes ≡ true →
    AreNodes AreProperties nodes × AllByRecursion AreEventBytes (events nodes)
nodes_by_test none passes = (tt, tt)
nodes_by_test (node name own children later) passes =
    let first = and_parts (is_child_name_of_bytes name)
    (is_new name (names later) && (are_properties own && (are_nodes children && are_nodes later))) passes in
    let second = and_parts (is_new name (names later)) (are_properties own && (are_nodes children && are_nodes later)) first.1 in
    let third = and_parts (are_properties own) (are_nodes children && are_nodes later) second.1 in
    let fourth = and_parts (are_nodes children) (are_nodes later) third.1 in
    let named = child_name_by_test name first.0 in
    let properties = properties_by_test own third.0 in
    let inner = nodes_by_test children fourth.0 in
    let outer = nodes_by_test later fourth.1 in (
      (
        record { is_name = named.0; is_own = properties.0; is_new = new_by_test name (names later) second.0 },
        inner.0,
        outer.0,
      ),
      (
        named.1,
        each-append AreEventBytes (map NodeProperty own) (events children ++ (NodeEnd ∷ events later)) properties.1
            (each-append AreEventBytes (events children) (NodeEnd ∷ events later) inner.1 (tt, outer.1)),
      ),
    )

-- Whether this tree can be laid out.
abbrev pub is_tree : Root (List Property) → Bool
is_tree root = are_properties root.own && are_nodes root.children

-- It can, with boot processor 0 and no memory reservations.
pub content_by_test : (root : Root (List Property)) → is_tree root ≡ true → IsContent 0 [] root
content_by_test root passes =
    let parts = and_parts (are_properties root.own) (are_nodes root.children) passes in
    let own = properties_by_test root.own parts.0 in
    let children = nodes_by_test root.children parts.1 in
    record {
      cpu_fits = omega arith;
      are_reservations = tt;
      is_tree = record { is_own = own.0; children = children.0 };
      bytes = (
        AreBytes-none,
        each-append AreEventBytes (map NodeProperty root.own) (events root.children ++ (NodeEnd ∷ [])) own.1
            (each-append AreEventBytes (events root.children) (NodeEnd ∷ []) children.1 (tt, tt)),
      );
    }
