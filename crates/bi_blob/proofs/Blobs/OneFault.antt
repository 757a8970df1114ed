use Rattle.std.proofs.Common.{◌≡◌, ℕ, ◌<◌, List, [], ◌∷◌, length, refl, sym, subst, inl, inr, arith, rules}
use Rattle.std.proofs.lemmas.Bool.{cases_order}
use Rattle.bi_base.specs.declared.fault.Fault.{Fault}
use Rattle.bi_base.specs.Cells.{u32_at}
use Rattle.bi_base.specs.Checks.{IsFirstFault, HasNoFault}
use Rattle.bi_blob.specs.Tokens.{Token, End, IsTokenAt}
use Rattle.bi_blob.specs.Blob.{TreeBlocks}
use Rattle.bi_blob.specs.BlobFaults.{TokenPasses, token_checks, token_fault, stage_after, place_after, IsPassed, ArePassed}
use Rattle.bi_blob.specs.BlobFaults.{IsStructureFault}
use Rattle.bi_base.proofs.FirstFault.{one_fault, not_both}
use Rattle.bi_blob.proofs.Blobs.Tokens.{one_token}

-- Of two lists of tokens that a structure block begins with, one is a beginning of the other; so a block has one fault at most.

module _ (blocks : TreeBlocks) (depth_limit : ℕ) where
  -- The token after these passes its checks.
  abbrev pub TokenHasNoFault : List Token → Type 0
  TokenHasNoFault before =
      HasNoFault (TokenPasses blocks depth_limit (place_after blocks before) (stage_after blocks.strings before))
      (token_checks (u32_at blocks.file (place_after blocks before)))

  -- The first check that fails of the token after these gives this fault.
  abbrev pub TokenFault : List Token → Fault → Type 0
  TokenFault before fault =
      IsFirstFault (TokenPasses blocks depth_limit (place_after blocks before) (stage_after blocks.strings before))
      (token_fault (place_after blocks before))
      (token_checks (u32_at blocks.file (place_after blocks before)))
      fault

  -- Two equally long lists of tokens that pass are one.
  pub one_beginning : (ts us : List Token) → ArePassed blocks depth_limit ts → ArePassed blocks depth_limit us → length ts ≡ length us →
      ts ≡ us
  one_beginning [] [] one other e = refl
  one_beginning [] (u ∷ us) one other e = absurd (omega arith)
  one_beginning (t ∷ ts) [] one other e = absurd (omega arith)
  one_beginning (t ∷ ts) (u ∷ us) one other e = search (rules, one_token, one_beginning ts us one.1 other.1 (omega arith))

  -- Where a longer list of tokens passes, the token after a shorter one passes.
  pub passed_after : (ts us : List Token) → ArePassed blocks depth_limit ts → ArePassed blocks depth_limit us → length ts < length us →
      (u : Token) × IsPassed blocks depth_limit ts u
  passed_after ts [] one other less = absurd (omega arith)
  passed_after ts (u ∷ us) one other less =
      elim (cases_order (length ts) (length us)) [
        | inl same ↦ (u, subst (λ vs. IsPassed blocks depth_limit vs u) (sym (one_beginning ts us one other.1 same)) other.0)
        | inr unequal ↦ elim unequal [
          | inl shorter ↦ passed_after ts us one other.1 shorter
          | inr longer ↦ absurd (omega arith)
        ]
      ]

  -- There is no fault before the end of tokens that pass.
  pub no_fault_before : (ts us : List Token) (fault : Fault) → ArePassed blocks depth_limit ts → ArePassed blocks depth_limit us →
      length ts < length us → TokenFault ts fault → ⊥
  no_fault_before ts us fault one other less first = search (rules, passed_after, not_both)

  -- A structure block has one fault at most.
  pub one_structure_fault : (f g : Fault) → IsStructureFault blocks depth_limit f → IsStructureFault blocks depth_limit g → f ≡ g
  one_structure_fault f g one other =
      elim (cases_order (length one.before) (length other.before)) [
        | inl same ↦
            let before : one.before ≡ other.before = one_beginning one.before other.before one.passed other.passed same in
            one_fault _ _ (token_checks (u32_at blocks.file (place_after blocks other.before))) f g
            (subst (λ ts. TokenFault ts f) before one.first) other.first
        | inr unequal ↦ elim unequal [
          | inl shorter ↦ absurd (no_fault_before one.before other.before f one.passed other.passed shorter one.first)
          | inr longer ↦ absurd (no_fault_before other.before one.before g other.passed one.passed longer other.first)
        ]
      ]

  -- The block ends with FDT_END after these tokens: all pass, and so does it.
  pub record IsEnded (tokens : List Token) : Type 0 where
    pub passed : ArePassed blocks depth_limit tokens
    pub end : IsTokenAt blocks.file (place_after blocks tokens) End
    pub passes : TokenHasNoFault tokens

  -- A block that ends has no fault.
  pub no_fault_in_ended : (tokens : List Token) (fault : Fault) → IsEnded tokens → IsStructureFault blocks depth_limit fault → ⊥
  no_fault_in_ended tokens fault ended other =
      elim (cases_order (length other.before) (length tokens)) [
        | inl same ↦
            let before : other.before ≡ tokens = one_beginning other.before tokens other.passed ended.passed same in
            not_both _ _ (token_checks (u32_at blocks.file (place_after blocks tokens))) fault ended.passes
            (subst (λ ts. TokenFault ts fault) before other.first)
        | inr unequal ↦ elim unequal [
          | inl shorter ↦ no_fault_before other.before tokens fault other.passed ended.passed shorter other.first
          | inr longer ↦ past_end (passed_after tokens other.before ended.passed other.passed longer)
        ]
      ] where
        past_end : (u : Token) × IsPassed blocks depth_limit tokens u → ⊥
        past_end next = next.1.no_end (one_token blocks.file (place_after blocks tokens) next.0 End next.1.is_at ended.end)
