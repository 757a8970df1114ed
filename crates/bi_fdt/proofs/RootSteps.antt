use Rattle.std.proofs.Common.{◌≡◌, ◌≢◌, false, ℕ, ◌+◌, ◌≤◌, List, [], length, refl, sym, subst, rules}
use Rattle.std.specs.Prelude.{IsTrue}
use Rattle.std.proofs.lemmas.Bool.{ne_eqb, false≢true}
use Rattle.bi_base.specs.declared.fault.Fault.{Fault}
use Rattle.bi_base.specs.Cells.{up4}
use Rattle.bi_base.specs.Checks.{HasNoFault}
use Rattle.bi_blob.specs.Tokens.{BeginNode, width, name_from, begin_node_number, nop_number, end_number}
use Rattle.bi_blob.specs.Tree.{Root, FileNode, depth_of}
use Rattle.bi_blob.specs.Stages.{BeforeRoot, AfterRoot, is_expected}
use Rattle.bi_blob.specs.Blob.{TreeBlocks, HoldsTree}
use Rattle.bi_blob.specs.BlobFaults.{TokenPasses, HasTokenNumber, IsExpected, token_fault, begin_checks, IsStructureFault}
use Rattle.bi_blob.specs.OpenNodes.{TreeSoFar, IsOpenAt, NoTree, OpenTree, WholeTree, new_node, stage_of}
use Rattle.bi_blob.proofs.Blobs.ReaderSteps.{next_nop, next_root}
use Rattle.bi_blob.proofs.Blobs.EndToken.{last_token}
use Rattle.bi_blob.proofs.Blobs.TreeOrFault.{fault_there}
use Rattle.bi_fdt.specs.Blocks.{IsNumberAt}
use Rattle.bi_fdt.proofs.TokenSteps.{width-nop, width-begin}

-- FDT_BEGIN_NODE before the root begins the root, FDT_END after the root ends the structure block, and a token that is not expected there
-- is a fault.

module _ (blocks : TreeBlocks) (depth_limit place : ℕ) (so_far : TreeSoFar) (position : IsOpenAt blocks depth_limit place so_far) where
  -- FDT_NOP.
  pub past_nop : IsNumberAt blocks place nop_number → IsTrue (is_expected (stage_of so_far) nop_number) →
      IsOpenAt blocks depth_limit (place + 4) so_far
  past_nop number may = search (rules, width-nop, next_nop)

  -- The block ends before the number of a token.
  pub no_number : (fault : Fault) → blocks.end + 1 ≤ place + 4 → fault ≡ token_fault place HasTokenNumber →
      IsStructureFault blocks depth_limit fault
  no_number fault past is = search (rules, fault_there)

-- FDT_BEGIN_NODE of the root.
pub past_root : (blocks : TreeBlocks) (depth_limit place : ℕ) (name : List ℕ) → IsOpenAt blocks depth_limit place NoTree →
    IsNumberAt blocks place begin_node_number → name ≡ name_from blocks.file (place + 4) →
    HasNoFault (TokenPasses blocks depth_limit place BeforeRoot) begin_checks →
    IsOpenAt blocks depth_limit (place + up4 (length name + 5)) (OpenTree (new_node name place) [])
past_root blocks depth_limit place name position number is passes =
    subst (λ w. IsOpenAt blocks depth_limit (place + w) (OpenTree (new_node name place) [])) (width-begin name)
    (subst (λ n. IsOpenAt blocks depth_limit (place + width (BeginNode n)) (OpenTree (new_node n place) [])) (sym is)
    (next_root blocks depth_limit place position (record {
      is_number = number.is_number;
      passes = (number.within, (subst (λ n. IsTrue (is_expected BeforeRoot n)) (sym number.is_number) refl, passes));
    })))

-- FDT_END after the root.
pub past_end : (blocks : TreeBlocks) (depth_limit place : ℕ) (root : Root FileNode) → IsOpenAt blocks depth_limit place (WholeTree root) →
    IsNumberAt blocks place end_number → HoldsTree blocks root × (depth_of root ≤ depth_limit)
past_end blocks depth_limit place root position number =
    last_token blocks depth_limit place root position (record {
      is_number = number.is_number;
      passes = (number.within, (subst (λ n. IsTrue (is_expected AfterRoot n)) (sym number.is_number) refl, tt));
    })

-- A token that is not expected.
pub bad_token : (blocks : TreeBlocks) (depth_limit place : ℕ) (so_far : TreeSoFar) (number : ℕ) →
    IsOpenAt blocks depth_limit place so_far →
    IsNumberAt blocks place number → is_expected (stage_of so_far) number ≡ false →
    IsStructureFault blocks depth_limit (token_fault place IsExpected)
bad_token blocks depth_limit place so_far number position is_number unexpected = search (rules, fault_there, false≢true)

pub unexpected_before : (number : ℕ) → number ≢ nop_number → number ≢ begin_node_number → is_expected BeforeRoot number ≡ false
unexpected_before number nop begin = search (rules, ne_eqb)

pub unexpected_after : (number : ℕ) → number ≢ nop_number → number ≢ end_number → is_expected AfterRoot number ≡ false
unexpected_after number nop end = search (rules, ne_eqb)
