use Rattle.std.proofs.Common.{◌⊎◌, ℕ, ◌≤◌, Bool, List, rules}
use Rattle.std.specs.Bool.{Decides}
use Rattle.std.specs.Prelude.{nat_le}
use Rattle.std.proofs.lemmas.Bool.Decides.{not_from_Decides}
use Rattle.bi_base.specs.Limits.{Limits}
use Rattle.bi_blob.specs.Stages.{Stage}
use Rattle.bi_blob.specs.Blob.{TreeBlocks}
use Rattle.bi_blob.specs.BlobFaults.{HeaderCheck, HeaderPasses, TokenCheck, TokenPasses, IsEndPair}
use Rattle.bi_blob.proofs.CheckDecisions.{le_decides, eq_decides, both_decide}
use Rattle.bi_blob.proofs.HeaderDecisions.{test, header_decides}
use Rattle.bi_blob.proofs.TokenDecisions.{token_test, token_decides}

-- Each check passes or fails, as its test finds.

-- A fact holds or fails.
abbrev pub IsDecided : Type 0 → Type 0
IsDecided P = P ⊎ ¬ P

-- A fact that a test decides holds or fails.
decided_by : {P : Type 0} (b : Bool) → Decides b P → IsDecided P
decided_by {P = P} b decides = search (rules, not_from_Decides)

pub le_decided : (m n : ℕ) → IsDecided (m ≤ n)
le_decided m n = decided_by (nat_le m n) (le_decides m n)

-- Each check of a token passes or fails.
pub token_decided : (blocks : TreeBlocks) (depth_limit place : ℕ) (stage : Stage) (check : TokenCheck) →
    IsDecided (TokenPasses blocks depth_limit place stage check)
token_decided blocks depth_limit place stage check =
    decided_by (token_test blocks depth_limit place stage check) (token_decides blocks depth_limit place stage check)

-- Each check of a header passes or fails.
pub header_decided : (bounds : Limits) (file : List ℕ) (check : HeaderCheck) → IsDecided (HeaderPasses bounds file check)
header_decided bounds file check = decided_by (test bounds file check) (header_decides bounds file check)

-- An end pair is at an offset, or not.
pub IsEndPair_decided : (file : List ℕ) (at : ℕ) → IsDecided (IsEndPair file at)
IsEndPair_decided file at = search (rules, decided_by, both_decide, eq_decides)
