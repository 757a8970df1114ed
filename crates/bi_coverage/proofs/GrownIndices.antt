use Rattle.std.proofs.Common.{◌≡◌, ℕ, ◌+◌, ◌<◌, ◌≤◌, List, [], ◌∷◌, ◌++◌, map, length, drop, get_or, Some, slice_get, refl, sym, ap}
use Rattle.std.proofs.Common.{subst, ◌∙◌, arith}
use Rattle.std.proofs.Common.{append_assoc, append-nil, length-append}
use Rattle.std.specs.List.{AllByRecursion, AllZip}
use Rattle.std.proofs.lemmas.List.{map-append, drop-map, drop_more, length-map}
use Rattle.std.proofs.lemmas.Slice.Zip.{all_zipped_more, AllZip-long}
use Rattle.bi_base.proofs.ListMembers.{each-append}
use Rattle.bi_blob.specs.Lookups.{Sibling, siblings, root_node}
use Rattle.bi_blob.specs.Tree.{Nodes, none, node, FileNode, Root, node_count}
use Rattle.bi_fdt.specs.declared.node.NodeRef.{NodeRef}
use Rattle.bi_fdt.specs.Views.{node_of}
use Rattle.bi_coverage.specs.ChildNumbers.{Children, HasNumbersFrom}
use Rattle.bi_coverage.specs.Coverage.{names_end}
use Rattle.bi_coverage.specs.NodeIndices.{HasChildren, IsNodeIndex, HasTokenIn, HaveTokensBelow, HaveTokens}
use Rattle.bi_coverage.specs.Numbers.{sum_of}
use Rattle.bi_coverage.proofs.ChildNumbers.{children_numbered, children_stay, get_front}
use Rattle.bi_coverage.proofs.NeededLengths.{sum_of-append}

-- An index of nodes grows node by node.

-- The tokens of the properties of a node and of all nodes below it are in a file.
abbrev pub HasTokens : List ℕ → Sibling FileNode → Type 0
HasTokens file sibling = AllByRecursion (HasTokenIn file) sibling.own.properties × HaveTokensBelow file sibling.children

-- The first of these nodes have children and ends, and the others are left.
pub record IsGrownIndex (file : List ℕ) (root : Root FileNode) (nodes : List (Sibling FileNode)) (children : List Children) (ends : List ℕ)
    : Type 0 where
  pub done : List (Sibling FileNode)
  pub left : List (Sibling FileNode)
  pub split : nodes ≡ done ++ left
  pub is_root : slice_get nodes 0 ≡ Some (root_node root)
  pub some : 0 < length nodes
  pub have_children : AllZip (HasChildren nodes) done children
  pub have_ends : ends ≡ map (λ sibling. names_end file sibling.own) done
  pub tokens : AllByRecursion (HasTokens file) left

-- How many nodes are left, with all below them.
abbrev pub size : Sibling FileNode → ℕ
size sibling = node_count sibling.children + 1

-- The sizes of siblings are those of the nodes.
sizes : (nodes : Nodes FileNode) → sum_of (map size (siblings nodes)) ≡ node_count nodes
sizes none = refl
sizes (node name own children later) = omega (arith, sizes later)

-- The tokens of siblings.
siblings_tokens : (file : List ℕ) (nodes : Nodes FileNode) → HaveTokensBelow file nodes → AllByRecursion (HasTokens file) (siblings nodes)
siblings_tokens file none have = tt
siblings_tokens file (node name own children later) have = ((have.0, have.1), siblings_tokens file later have.2)

-- At first only the root is there.
pub grown_first : (file : List ℕ) (root : Root FileNode) (nodes : List (Sibling FileNode)) (children : List Children) (ends : List ℕ) →
    nodes ≡ root_node root ∷ [] → children ≡ [] → ends ≡ [] → HaveTokens file root → IsGrownIndex file root nodes children ends
grown_first file root nodes children ends is no_children no_ends have = record {
  done = [];
  left = root_node root ∷ [];
  split = is;
  is_root = ap (λ l. slice_get l 0) is;
  some = omega (arith, ap length is);
  have_children = subst (AllZip (HasChildren nodes) []) (sym no_children) tt;
  have_ends = no_ends;
  tokens = ((have.0, have.1), tt);
}

-- Children stay where nodes are added.
all_stay : (nodes more done : List (Sibling FileNode)) (children : List Children) → AllZip (HasChildren nodes) done children →
    AllZip (HasChildren (nodes ++ more)) done children
all_stay nodes more [] [] have = have
all_stay nodes more [] (child ∷ children) have = absurd have
all_stay nodes more (parent ∷ done) [] have = absurd have
all_stay nodes more (parent ∷ done) (child ∷ children) have =
    (children_stay nodes more parent child have.0, all_stay nodes more done children have.1)

-- What is after the first part of a list.
drop_front : {X : Type 0} (front later : List X) (n : ℕ) → n ≡ length front → drop n (front ++ later) ≡ later
drop_front [] later n is = rw is refl
drop_front (x ∷ front) later n is = rw is (drop_front front later (length front) refl)

-- The nodes that are left.
pub left_is : (file : List ℕ) (root : Root FileNode) (nodes : List (Sibling FileNode)) (children : List Children) (ends : List ℕ) →
    (grown : IsGrownIndex file root nodes children ends) → drop (length children) nodes ≡ grown.left
left_is file root nodes children ends grown =
    ap (drop (length children)) grown.split
    ∙ drop_front grown.done grown.left (length children) (AllZip-long _ grown.done children grown.have_children)

module _ (file : List ℕ) (root : Root FileNode) (nodes : List (Sibling FileNode)) (children : List Children) (ends : List ℕ)
    (grown : IsGrownIndex file root nodes children ends) (next : Sibling FileNode) (rest : List (Sibling FileNode))
    (is_next : drop (length children) nodes ≡ next ∷ rest) where
  left_next : grown.left ≡ next ∷ rest
  left_next = sym (left_is file root nodes children ends grown) ∙ is_next

  -- The tokens of the next node.
  pub next_tokens : HasTokens file next
  next_tokens = (subst (AllByRecursion (HasTokens file)) left_next grown.tokens).0

  -- One more node has its children and its end.
  pub grown_more : (more : List (Sibling FileNode)) (numbers : Children) → more ≡ nodes ++ siblings next.children →
      HasNumbersFrom (length nodes) (siblings next.children) numbers →
      IsGrownIndex file root more (children ++ numbers ∷ []) (ends ++ names_end file next.own ∷ [])
  grown_more more numbers is has = record {
    done = grown.done ++ next ∷ [];
    left = rest ++ siblings next.children;
    split =
        is ∙ ap (λ l. l ++ siblings next.children)
        (grown.split ∙ ap (λ l. grown.done ++ l) left_next ∙ sym (append_assoc grown.done (next ∷ []) rest))
        ∙ append_assoc (grown.done ++ next ∷ []) rest (siblings next.children);
    is_root = ap (λ l. slice_get l 0) is ∙ get_front nodes (siblings next.children) 0 grown.some ∙ grown.is_root;
    some = omega (arith, grown.some, ap length is, length-append nodes (siblings next.children));
    have_children = subst (λ l. AllZip (HasChildren l) (grown.done ++ next ∷ []) (children ++ numbers ∷ [])) (sym is)
        (all_zipped_more (HasChildren (nodes ++ siblings next.children)) grown.done children next numbers
        (all_stay nodes (siblings next.children) grown.done children grown.have_children)
        (children_numbered nodes next numbers has));
    have_ends = ap (λ l. l ++ names_end file next.own ∷ []) grown.have_ends
        ∙ sym (map-append (λ (sibling : Sibling FileNode). names_end file sibling.own) grown.done (next ∷ []));
    tokens = each-append (HasTokens file) rest (siblings next.children)
        (subst (AllByRecursion (HasTokens file)) left_next grown.tokens).1
        (siblings_tokens file next.children next_tokens.1);
  }

  -- Fewer nodes are left.
  pub fewer_left : (more : List (Sibling FileNode)) (count : ℕ) → more ≡ nodes ++ siblings next.children → count ≡ length children + 1 →
      sum_of (map size (drop count more)) < sum_of (map size (drop (length children) nodes))
  fewer_left more count is is_count =
      let moved : drop count more ≡ rest ++ siblings next.children =
      ap (λ n. drop n more) is_count
      ∙ ap (drop (length children + 1))
      (is ∙ ap (λ l. l ++ siblings next.children)
      (grown.split ∙ ap (λ l. grown.done ++ l) left_next ∙ sym (append_assoc grown.done (next ∷ []) rest))
      ∙ append_assoc (grown.done ++ next ∷ []) rest (siblings next.children))
      ∙ drop_front (grown.done ++ next ∷ []) (rest ++ siblings next.children) (length children + 1)
      (omega (arith, length-append grown.done (next ∷ []), AllZip-long _ grown.done children grown.have_children)) in
      let after : sum_of (map size (drop count more)) ≡ sum_of (map size rest) + node_count next.children =
      ap (λ l. sum_of (map size l)) moved ∙ ap sum_of (map-append size rest (siblings next.children))
      ∙ sum_of-append (map size rest) (map size (siblings next.children))
      ∙ ap (λ n. sum_of (map size rest) + n) (sizes next.children) in
      let before : sum_of (map size (drop (length children) nodes)) ≡ size next + sum_of (map size rest) =
      ap (λ l. sum_of (map size l)) is_next in
      omega (arith, after, before)

-- In the end all nodes have them.
pub grown_whole : (file : List ℕ) (root : Root FileNode) (nodes : List (Sibling FileNode)) (children : List Children) (ends : List ℕ) →
    length nodes ≤ length children → IsGrownIndex file root nodes children ends → IsNodeIndex file root children ends
grown_whole file root nodes children ends whole grown =
    by grown.left refl
  where
    by : (left : List (Sibling FileNode)) → grown.left ≡ left → IsNodeIndex file root children ends
    by [] is =
        let same : nodes ≡ grown.done = grown.split ∙ ap (λ l. grown.done ++ l) is ∙ append-nil grown.done in
        record {
          nodes = nodes;
          is_root = grown.is_root;
          have_children = subst (λ l. AllZip (HasChildren nodes) l children) (sym same) grown.have_children;
          have_ends = grown.have_ends ∙ ap (map (λ sibling. names_end file sibling.own)) (sym same);
        }
    by (next ∷ rest) is =
        let long = AllZip-long _ grown.done children grown.have_children in
        absurd (omega (arith, whole, long, ap length grown.split, length-append grown.done grown.left, ap length is))

-- The node at an index, and those after it.
pub drop_node : (items : List NodeRef) (index : ℕ) (default : NodeRef) → index < length items →
    drop index (map node_of items) ≡ node_of (get_or items index default) ∷ drop (index + 1) (map node_of items)
drop_node items index default within =
    drop-map node_of index items ∙ ap (map node_of) (drop_more items index default within)
    ∙ ap (λ l. node_of (get_or items index default) ∷ l) (sym (drop-map node_of (index + 1) items))

module _ (file : List ℕ) (root : Root FileNode) (items : List NodeRef) (children : List Children) (ends : List ℕ)
    (grown : IsGrownIndex file root (map node_of items) children ends) (within : length children < length items) (next : NodeRef)
    (is_next : next ≡ get_or items (length children) next) where
  -- The next node, and those after it.
  from_next : drop (length children) (map node_of items) ≡ node_of next ∷ drop (length children + 1) (map node_of items)
  from_next =
      drop_node items (length children) next within
      ∙ ap (λ (node : NodeRef). node_of node ∷ drop (length children + 1) (map node_of items)) (sym is_next)

  -- Its tokens are in the file.
  pub tokens_next : HasTokens file (node_of next)
  tokens_next =
      next_tokens file root (map node_of items) children ends grown (node_of next)
      (drop (length children + 1) (map node_of items)) from_next

  -- It has its children and its end.
  pub grown_next : (more : List NodeRef) (numbers : Children) (later : List Children) (end : ℕ) (later_ends : List ℕ) →
      map node_of more ≡ map node_of items ++ siblings (node_of next).children →
      HasNumbersFrom (length items) (drop (length items) (map node_of more)) numbers →
      later ≡ children ++ numbers ∷ [] → end ≡ names_end file (node_of next).own → later_ends ≡ ends ++ end ∷ [] →
      IsGrownIndex file root (map node_of more) later later_ends
  grown_next more numbers later end later_ends is has is_later is_end is_ends =
      let long : length items ≡ length (map node_of items) = sym (simp length-map) in
      let after : drop (length items) (map node_of more) ≡ siblings (node_of next).children =
      ap (drop (length items)) is ∙ drop_front (map node_of items) (siblings (node_of next).children) (length items) long in
      let whole = grown_more file root (map node_of items) children ends grown (node_of next)
      (drop (length children + 1) (map node_of items))
      from_next (map node_of more) numbers is
      (subst (λ n. HasNumbersFrom n (siblings (node_of next).children) numbers) long
      (subst (λ l. HasNumbersFrom (length items) l numbers) after has)) in
      subst (λ l. IsGrownIndex file root (map node_of more) l later_ends) (sym is_later)
      (subst (IsGrownIndex file root (map node_of more) (children ++ numbers ∷ []))
      (sym (is_ends ∙ ap (λ n. ends ++ n ∷ []) is_end)) whole)

  -- Fewer nodes are left after it.
  pub fewer_next : (more : List NodeRef) (later : List Children) (numbers : Children) →
      map node_of more ≡ map node_of items ++ siblings (node_of next).children → later ≡ children ++ numbers ∷ [] →
      sum_of (map size (drop (length later) (map node_of more))) < sum_of (map size (drop (length children) (map node_of items)))
  fewer_next more later numbers is is_later =
      fewer_left file root (map node_of items) children ends grown (node_of next) (drop (length children + 1) (map node_of items))
      from_next (map node_of more) (length later) is
      (ap length is_later ∙ length-append children (numbers ∷ []))
