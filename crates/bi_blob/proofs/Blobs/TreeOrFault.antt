use Rattle.std.proofs.Common.{◌≡◌, ◌⊎◌, ℕ, zero, suc, ◌+◌, ◌≤◌, true, List, [], ◌∷◌, inl, inr, arith, rules}
use Rattle.std.specs.Prelude.{◌==◌}
use Rattle.std.proofs.lemmas.Bool.{eqb-true, or_cases}
use Rattle.bi_base.specs.declared.fault.Fault.{Fault}
use Rattle.bi_base.specs.Cells.{u32_at}
use Rattle.bi_base.specs.Checks.{IsFirstFault, HasNoFault}
use Rattle.bi_blob.specs.Tokens.{Token, BeginNode, EndNode, Nop, width, name_from, begin_node_number, end_node_number, prop_number}
use Rattle.bi_blob.specs.Tokens.{nop_number, end_number}
use Rattle.bi_blob.specs.Tree.{Root, FileNode, depth_of}
use Rattle.bi_blob.specs.Stages.{Stage, BeforeRoot, AfterRoot}
use Rattle.bi_blob.specs.Blob.{TreeBlocks, HoldsTree, IsReadable}
use Rattle.bi_blob.specs.BlobFaults.{HasTokenNumber, TokenPasses, token_checks, token_fault, IsStructureFault}
use Rattle.bi_base.proofs.FirstFault.{fault_or_none}
use Rattle.bi_blob.specs.OpenNodes.{OpenFileNode, TreeSoFar, NoTree, OpenTree, WholeTree, new_node, with_one_property, with_one_child}
use Rattle.bi_blob.specs.OpenNodes.{stage_of, IsOpenAt}
use Rattle.bi_blob.proofs.Blobs.OpenNodes.{ended_root}
use Rattle.bi_blob.proofs.Blobs.Tokens.{width-at_least}
use Rattle.bi_blob.proofs.Blobs.ReaderSteps.{IsNext, next_nop, next_root, next_child, property_at, property_token, next_property}
use Rattle.bi_blob.proofs.Blobs.ReaderSteps.{next_end_of_child, next_last}
use Rattle.bi_blob.proofs.Blobs.EndToken.{last_token}
use Rattle.bi_blob.proofs.Blobs.TestedChecks.{token_decided}

-- A structure block holds a tree within the depth limit, or it has a fault.

-- The tree that a structure block holds.
pub record HasTree (blocks : TreeBlocks) (depth_limit : ℕ) : Type 0 where
  pub root : Root FileNode
  pub holds : HoldsTree blocks root
  pub shallow : depth_of root ≤ depth_limit

-- A reader has gone on by a token.
pub record Continues (blocks : TreeBlocks) (depth_limit place : ℕ) : Type 0 where
  pub next : ℕ
  pub so_far : TreeSoFar
  pub further : place + 4 ≤ next
  pub position : IsOpenAt blocks depth_limit next so_far

-- The state of a reader at the beginning of the block.
pub at_begin : (blocks : TreeBlocks) (depth_limit : ℕ) → IsReadable blocks → IsOpenAt blocks depth_limit blocks.begin NoTree
at_begin blocks depth_limit readable = search rules

-- The first check of the next token that fails gives the fault of the block.
pub fault_there : (blocks : TreeBlocks) (depth_limit place : ℕ) (so_far : TreeSoFar) (fault : Fault) →
    IsOpenAt blocks depth_limit place so_far →
    IsFirstFault (TokenPasses blocks depth_limit place (stage_of so_far)) (token_fault place) (token_checks (u32_at blocks.file place))
    fault → IsStructureFault blocks depth_limit fault
fault_there blocks depth_limit place so_far fault position first = search rules

module _ (blocks : TreeBlocks) (depth_limit place : ℕ) where
  -- A token that passes its checks is next, where its number is read.
  next_is : (stage : Stage) (number : ℕ) →
      HasNoFault (TokenPasses blocks depth_limit place stage) (token_checks (u32_at blocks.file place)) →
      (u32_at blocks.file place == number) ≡ true → IsNext blocks depth_limit place stage number
  next_is stage number passes same = search (rules, eqb-true)

  continues : (so_far : TreeSoFar) (token : Token) → IsOpenAt blocks depth_limit (place + width token) so_far →
      Continues blocks depth_limit place
  continues so_far token position = search (rules, width-at_least)

  -- FDT_END_NODE in a node.
  past_end : (o : OpenFileNode) (outer : List OpenFileNode) → IsOpenAt blocks depth_limit place (OpenTree o outer) →
      IsNext blocks depth_limit place (stage_of (OpenTree o outer)) end_node_number → Continues blocks depth_limit place
  past_end o [] position next = continues (WholeTree (ended_root o)) EndNode (next_last blocks depth_limit place o position next)
  past_end o (parent ∷ outer) position next =
      continues (OpenTree (with_one_child parent o) outer) EndNode (next_end_of_child blocks depth_limit place o parent outer position next)

  -- A token that passes its checks takes a reader on, or it ends the block.
  past_token : (so_far : TreeSoFar) → IsOpenAt blocks depth_limit place so_far →
      HasNoFault (TokenPasses blocks depth_limit place (stage_of so_far)) (token_checks (u32_at blocks.file place)) →
      Continues blocks depth_limit place ⊎ HasTree blocks depth_limit
  past_token NoTree position passes =
      elim (or_cases _ _ passes.1.0) [
        | inl nop ↦ inl (continues NoTree Nop
            (next_nop blocks depth_limit place NoTree position (next_is BeforeRoot nop_number passes nop)))
        | inr begin ↦ inl (continues (OpenTree (new_node (name_from blocks.file (place + 4)) place) [])
            (BeginNode (name_from blocks.file (place + 4)))
            (next_root blocks depth_limit place position (next_is BeforeRoot begin_node_number passes begin)))
      ]
  past_token (OpenTree o outer) position passes =
      let stage : Stage = stage_of (OpenTree o outer) in
      elim (or_cases _ _ passes.1.0) [
        | inl other ↦ elim (or_cases _ _ other) [
          | inl another ↦ elim (or_cases _ _ another) [
            | inl nop ↦ inl (continues (OpenTree o outer) Nop
                (next_nop blocks depth_limit place (OpenTree o outer) position (next_is stage nop_number passes nop)))
            | inr begin ↦ inl (continues (OpenTree (new_node (name_from blocks.file (place + 4)) place) (o ∷ outer))
                (BeginNode (name_from blocks.file (place + 4)))
                (next_child blocks depth_limit place o outer position (next_is stage begin_node_number passes begin)))
          ]
          | inr end ↦ inl (past_end o outer position (next_is stage end_node_number passes end))
        ]
        | inr prop ↦ inl (continues (OpenTree (with_one_property o (property_at blocks place)) outer) (property_token blocks place)
            (next_property blocks depth_limit place o outer position (next_is stage prop_number passes prop)))
      ]
  past_token (WholeTree root) position passes =
      elim (or_cases _ _ passes.1.0) [
        | inl nop ↦ inl (continues (WholeTree root) Nop
            (next_nop blocks depth_limit place (WholeTree root) position (next_is AfterRoot nop_number passes nop)))
        | inr end ↦ inr (ended (last_token blocks depth_limit place root position (next_is AfterRoot end_number passes end)))
      ] where
        ended : HoldsTree blocks root × (depth_of root ≤ depth_limit) → HasTree blocks depth_limit
        ended whole = record { root = root; holds = whole.0; shallow = whole.1 }

-- From the state of a reader on, the block holds a tree or has a fault.
tree_or_fault_from : (steps : ℕ) (blocks : TreeBlocks) (depth_limit place : ℕ) (so_far : TreeSoFar) → blocks.end ≤ place + steps →
    IsOpenAt blocks depth_limit place so_far → HasTree blocks depth_limit ⊎ ((fault : Fault) × IsStructureFault blocks depth_limit fault)
tree_or_fault_from zero blocks depth_limit place so_far left position =
    inr (
      token_fault place HasTokenNumber,
      search (rules, fault_there),
    )
tree_or_fault_from (suc steps) blocks depth_limit place so_far left position =
    by_checks (fault_or_none (TokenPasses blocks depth_limit place (stage_of so_far)) (token_fault place)
    (token_decided blocks depth_limit place (stage_of so_far)) (token_checks (u32_at blocks.file place)))
    (λ next further later there. tree_or_fault_from steps blocks depth_limit next later (omega arith) there) where
      Outcome : Type 0
      Outcome = HasTree blocks depth_limit ⊎ ((fault : Fault) × IsStructureFault blocks depth_limit fault)

      by_token : Continues blocks depth_limit place ⊎ HasTree blocks depth_limit
          → ((next : ℕ) → place + 4 ≤ next → (later : TreeSoFar) → IsOpenAt blocks depth_limit next later → Outcome) → Outcome
      by_token (inl on) continue = continue on.next on.further on.so_far on.position
      by_token (inr tree) continue = inl tree

      by_checks : HasNoFault (TokenPasses blocks depth_limit place (stage_of so_far)) (token_checks (u32_at blocks.file place))
          ⊎ ((fault : Fault) × IsFirstFault (TokenPasses blocks depth_limit place (stage_of so_far)) (token_fault place)
          (token_checks (u32_at blocks.file place)) fault)
          → ((next : ℕ) → place + 4 ≤ next → (later : TreeSoFar) → IsOpenAt blocks depth_limit next later → Outcome) → Outcome
      by_checks (inl passes) continue = by_token (past_token blocks depth_limit place so_far position passes) continue
      by_checks (inr first) continue = inr (first.0, fault_there blocks depth_limit place so_far first.0 position first.1)

-- A structure block in a file of bytes holds a tree within the depth limit, or it has a fault.
pub tree_or_fault : (blocks : TreeBlocks) (depth_limit : ℕ) → IsReadable blocks →
    HasTree blocks depth_limit ⊎ ((fault : Fault) × IsStructureFault blocks depth_limit fault)
tree_or_fault blocks depth_limit readable =
    tree_or_fault_from blocks.end blocks depth_limit blocks.begin NoTree (omega arith) (at_begin blocks depth_limit readable)
