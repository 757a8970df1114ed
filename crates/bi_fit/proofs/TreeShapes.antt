use Rattle.std.proofs.Common.{◌≡◌, ℕ, ◌+◌, max, Bool, true, false, List, [], ◌∷◌, bytes_eq, Option, Some, refl, sym, ap, subst, rules}
use Rattle.bi_blob.specs.Tree.{Nodes, none, node, PropertyMap, names, with_each, depth, IsNew, AreNodes}
use Rattle.bi_blob.proofs.Blobs.Lookups.{names-with_each}
use Rattle.bi_fit.specs.ImageTree.{children_of, with_children_of, without_payloads, HaveByteNames}
use Rattle.bi_fit.specs.Text.{blob_alignment, with_payloads, end_after}
use Rattle.bi_fit.proofs.Meanings.{same_in_some}

-- Payloads change no name and no depth of nodes, and what holds of each node of a tree holds of the nodes that are found in it.

-- What a node has itself makes no difference to whether its name is bytes.
pub bytes-with_each : {A B : Type 0} (change : A → B) (nodes : Nodes A) → HaveByteNames nodes → HaveByteNames (with_each change nodes)
bytes-with_each change none are = tt
bytes-with_each change (node name own children later) are =
    (are.0, bytes-with_each change children are.1, bytes-with_each change later are.2)

-- What holds of what each node has itself before holds of it after.
pub AreNodes-with_each : {A B : Type 0} (P : A → Type 0) (Q : B → Type 0) (change : A → B) → ((own : A) → P own → Q (change own)) →
    (nodes : Nodes A) → AreNodes P nodes → AreNodes Q (with_each change nodes)
AreNodes-with_each P Q change each none are = tt
AreNodes-with_each P Q change each (node name own children later) are = (
  record {
    is_name = are.0.is_name;
    is_own = each own are.0.is_own;
    is_new = subst (IsNew name) (sym (names-with_each change later)) are.0.is_new;
  },
  AreNodes-with_each P Q change each children are.1,
  AreNodes-with_each P Q change each later are.2,
)

-- The nodes that are found by a name are as those around them.
pub AreNodes-children_of : {A : Type 0} (P : A → Type 0) (wanted : List ℕ) (nodes inner : Nodes A) → children_of wanted nodes ≡ Some inner →
    AreNodes P nodes → AreNodes P inner
AreNodes-children_of P wanted none inner has are = absurd cc
AreNodes-children_of P wanted (node name own children later) inner has are =
    where_first (bytes_eq name wanted) refl has (λ has. AreNodes-children_of P wanted later inner has are.2)
  where
    where_first : (b : Bool) → bytes_eq name wanted ≡ b → children_of wanted (node name own children later) ≡ Some inner →
        (children_of wanted later ≡ Some inner → AreNodes P inner) → AreNodes P inner
    where_first true is has rest =
        let found : children ≡ inner = same_in_some children inner (rw is at has) in
        subst (AreNodes P) found are.1
    where_first false is has rest = rest (rw is at has)

pub bytes-children_of : {A : Type 0} (wanted : List ℕ) (nodes inner : Nodes A) → children_of wanted nodes ≡ Some inner →
    HaveByteNames nodes → HaveByteNames inner
bytes-children_of wanted none inner has are = absurd cc
bytes-children_of wanted (node name own children later) inner has are =
    where_first (bytes_eq name wanted) refl has (λ has. bytes-children_of wanted later inner has are.2)
  where
    where_first : (b : Bool) → bytes_eq name wanted ≡ b → children_of wanted (node name own children later) ≡ Some inner →
        (children_of wanted later ≡ Some inner → HaveByteNames inner) → HaveByteNames inner
    where_first true is has rest =
        let found : children ≡ inner = same_in_some children inner (rw is at has) in
        subst HaveByteNames found are.1
    where_first false is has rest = rest (rw is at has)

module _ {Own : Type 0} (wanted : List ℕ) (change : Nodes Own → Nodes Own) where
  -- Other children change no name.
  pub names-with_children_of : (nodes : Nodes Own) → names (with_children_of wanted change nodes) ≡ names nodes
  names-with_children_of none = refl
  names-with_children_of (node name own children later) = search (rules, names-with_children_of later)

  -- Other children that are as deep make nodes no deeper.
  pub depth-with_children_of : ((inner : Nodes Own) → depth (change inner) ≡ depth inner) → (nodes : Nodes Own) →
      depth (with_children_of wanted change nodes) ≡ depth nodes
  depth-with_children_of as_deep none = refl
  depth-with_children_of as_deep (node name own children later) = search (rules, depth-with_children_of as_deep later)

  -- What holds of each node holds with other children, where it holds of these.
  pub AreNodes-with_children_of : (P : Own → Type 0) → (nodes inner : Nodes Own) → children_of wanted nodes ≡ Some inner →
      AreNodes P (change inner) → AreNodes P nodes → AreNodes P (with_children_of wanted change nodes)
  AreNodes-with_children_of P none inner has new are = tt
  AreNodes-with_children_of P (node name own children later) inner has new are =
      where_first (bytes_eq name wanted) refl has (λ has. AreNodes-with_children_of P later inner has new are.2)
    where
      where_first : (b : Bool) → bytes_eq name wanted ≡ b → children_of wanted (node name own children later) ≡ Some inner →
          (children_of wanted later ≡ Some inner → AreNodes P (with_children_of wanted change later)) →
          AreNodes P (with_children_of wanted change (node name own children later))
      where_first true is has rest =
          let found : inner ≡ children = same_in_some inner children (sym (rw is at has)) in
          rw is (are.0, subst (λ nodes. AreNodes P (change nodes)) found new, are.2)
      where_first false is has rest =
          rw is (
            record {
              is_name = are.0.is_name;
              is_own = are.0.is_own;
              is_new = subst (IsNew name) (sym (names-with_children_of later)) are.0.is_new;
            },
            are.1,
            rest (rw is at has),
          )

  pub bytes-with_children_of : ((inner : Nodes Own) → HaveByteNames inner → HaveByteNames (change inner)) → (nodes : Nodes Own) →
      HaveByteNames nodes → HaveByteNames (with_children_of wanted change nodes)
  bytes-with_children_of keeps none are = tt
  bytes-with_children_of keeps (node name own children later) are = search (rules, bytes-with_children_of keeps later are.2)

-- Payloads change no name and no depth.
pub names-with_payloads : (alignment : Option ℕ) (end : ℕ) (payloads : List (Option (List ℕ))) (nodes : Nodes PropertyMap) →
    names (with_payloads alignment end payloads nodes) ≡ names nodes
names-with_payloads alignment end [] nodes = refl
names-with_payloads alignment end (payload ∷ payloads) none = refl
names-with_payloads alignment end (payload ∷ payloads) (node name own children later) =
    ap (λ l. name ∷ l) (names-with_payloads alignment (end_after (blob_alignment alignment) end payload) payloads later)

pub depth-with_payloads : (alignment : Option ℕ) (end : ℕ) (payloads : List (Option (List ℕ))) (nodes : Nodes PropertyMap) →
    depth (with_payloads alignment end payloads nodes) ≡ depth nodes
depth-with_payloads alignment end [] nodes = refl
depth-with_payloads alignment end (payload ∷ payloads) none = refl
depth-with_payloads alignment end (payload ∷ payloads) (node name own children later) =
    ap (λ n. max (depth children + 1) n) (depth-with_payloads alignment (end_after (blob_alignment alignment) end payload) payloads later)

pub bytes-with_payloads : (alignment : Option ℕ) (end : ℕ) (payloads : List (Option (List ℕ))) (nodes : Nodes PropertyMap) →
    HaveByteNames nodes → HaveByteNames (with_payloads alignment end payloads nodes)
bytes-with_payloads alignment end [] nodes are = are
bytes-with_payloads alignment end (payload ∷ payloads) none are = tt
bytes-with_payloads alignment end (payload ∷ payloads) (node name own children later) are =
    (are.0, are.1, bytes-with_payloads alignment (end_after (blob_alignment alignment) end payload) payloads later are.2)

-- Nor does leaving them out.
pub names-without_payloads : (nodes : Nodes PropertyMap) → names (without_payloads nodes) ≡ names nodes
names-without_payloads none = refl
names-without_payloads (node name own children later) = ap (λ l. name ∷ l) (names-without_payloads later)

pub depth-without_payloads : (nodes : Nodes PropertyMap) → depth (without_payloads nodes) ≡ depth nodes
depth-without_payloads none = refl
depth-without_payloads (node name own children later) =
    ap (λ n. max (depth children + 1) n) (depth-without_payloads later)

pub bytes-without_payloads : (nodes : Nodes PropertyMap) → HaveByteNames nodes → HaveByteNames (without_payloads nodes)
bytes-without_payloads none are = tt
bytes-without_payloads (node name own children later) are = (are.0, are.1, bytes-without_payloads later are.2)
