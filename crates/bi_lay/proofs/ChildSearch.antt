use Rattle.std.proofs.Common.{◌≡◌, ◌≢◌, ℕ, ◌+◌, ◌<◌, ◌≤◌, Bool, true, List, [], ◌∷◌, ◌++◌, length, IsTrue, ◌↔◌, refl, sym, subst, arith}
use Rattle.std.proofs.Common.{inl, inr, ◌⊎◌, rules}
use Rattle.std.proofs.lemmas.Bool.{cases_lt}
use Rattle.bi_base.proofs.ListMembers.{each-append, each-front, each-back}
use Rattle.bi_blob.specs.Tree.{IsNew}
use Rattle.bi_blob.specs.Events.{NodeStart}
use Rattle.bi_blob.specs.Stages.{OpenNode, Stage, BeforeRoot, Inside, AfterRoot, next_stage, open_nodes}
use Rattle.bi_lay.specs.Siblings.{KnowsChildren}

-- A search for a child knows whether a name is new among the children of a node, and still knows it after another node begins.

-- Nothing is known of a node that is not open.
knows-none : (name : List ℕ) (depth : ℕ) (is_new : Bool) (nodes : List OpenNode) → length nodes < depth →
    KnowsChildren name depth is_new nodes
knows-none name depth is_new [] less = tt
knows-none name depth is_new (node ∷ outer) less = (λ is. absurd (omega arith), knows-none name depth is_new outer (omega arith))

-- A name is new among children with one more if and only if it is new among these and differs from that one.
new-push : (name child : List ℕ) (children : List (List ℕ)) (old new : Bool) → IsTrue old ↔ IsNew name children →
    IsTrue new ↔ ((old ≡ true) × (child ≢ name)) → IsTrue new ↔ IsNew name (children ++ child ∷ [])
new-push name child children old new before after = search (rules, each-append, each-front, each-back)

-- What is known where a node begins.
pub knows-begun : (name child : List ℕ) (depth scan_depth : ℕ) (old new : Bool) (stage : Stage)
    → scan_depth ≡ length (open_nodes stage) → KnowsChildren name depth old (open_nodes stage)
    → (scan_depth ≡ depth → IsTrue new ↔ ((old ≡ true) × (child ≢ name))) → (scan_depth + 1 ≡ depth → IsTrue new) →
    (scan_depth ≢ depth → scan_depth + 1 ≢ depth → new ≡ old)
    → KnowsChildren name depth new (open_nodes (next_stage stage (NodeStart child)))
knows-begun name child depth scan_depth old new BeforeRoot is_depth knows as_child as_node as_other =
    (λ is. (λ _. tt, λ _. as_node (omega arith)), tt)
knows-begun name child depth scan_depth old new AfterRoot is_depth knows as_child as_node as_other =
    (λ is. (λ _. tt, λ _. as_node (omega arith)), tt)
knows-begun name child depth scan_depth old new (Inside innermost outer) is_depth knows as_child as_node as_other = (
  λ is. (λ _. tt, λ _. as_node (omega arith)),
  (
    λ is. new-push name child innermost.children old new (knows.0 is) (as_child (omega arith)),
    by (cases_lt (length outer) depth),
  ),
)
  where
    by : (length outer < depth) ⊎ (depth ≤ length outer) → KnowsChildren name depth new outer
    by (inl less) = knows-none name depth new outer less
    by (inr more) = subst (λ b. KnowsChildren name depth b outer) (sym (as_other (λ is. omega arith) (λ is. omega arith))) knows.1

-- How many nodes are open where one begins.
pub depth-begun : (stage : Stage) (name : List ℕ) → length (open_nodes (next_stage stage (NodeStart name))) ≡ length (open_nodes stage) + 1
depth-begun BeforeRoot name = refl
depth-begun (Inside innermost outer) name = omega arith
depth-begun AfterRoot name = refl
