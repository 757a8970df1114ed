use Rattle.std.proofs.Common.{◌≡◌, ◌≢◌, ℕ, ◌+◌, ◌*◌, ◌^◌, Bool, true, false, List, [], ◌∷◌, length, Some, refl, arith, rules}
use Rattle.std.specs.Prelude.{◌==◌, ◌&&◌, nat_le, nat_lt, bytes_eq}
use Rattle.std.specs.Bool.{Decides}
use Rattle.std.specs.List.{list_all}
use Rattle.std.proofs.lemmas.Bool.{and_parts, false≢true}
use Rattle.std.proofs.lemmas.Slice.Eq.{bytes_eq-Decides}
use Rattle.bi_base.specs.Cells.{slice, u32_at, u64_at}
use Rattle.bi_base.specs.Limits.{Limits}
use Rattle.bi_blob.specs.Tokens.{Token, BeginNode, EndNode, Prop, Nop, End, token_bytes, IsToken, IsTokenAt, name_from}
use Rattle.bi_blob.specs.Stages.{Stage, BeforeRoot, Inside, AfterRoot, open_nodes, child_names, property_names, is_expected}
use Rattle.bi_blob.specs.Blob.{TreeBlocks, tree_blocks, off_mem_rsvmap, totalsize}
use Rattle.bi_blob.specs.BlobFaults.{header_checks, TokenCheck, HasTokenNumber, IsExpected, IsWithinDepth, HasNodeName, MayNameNode}
use Rattle.bi_blob.specs.BlobFaults.{IsNewNode, IsBeforeChildren, HasValue, HasPropertyName, MayNameProperty, IsNewProperty, token_checks}
use Rattle.bi_blob.specs.BlobFaults.{token_fault, MayBeNamed, TokenPasses, ArePassed, place_after, stage_after, IsBlobFault, InStructure}
use Rattle.bi_blob.proofs.CheckDecisions.{le_decides, lt_decides, eq_decides, both_decide, lacks_byte, lacks_byte_decides, is_new}
use Rattle.bi_blob.proofs.CheckDecisions.{is_new_decides, is_property_name, is_property_name_decides, is_child_name, is_child_name_decides}
use Rattle.bi_blob.proofs.CheckDecisions.{first_failing, pass_by_test, fault_by_test}
use Rattle.bi_blob.proofs.HeaderDecisions.{test, fine_by_test}

-- Tests decide the checks of a token, and after tokens that pass, the first check that is tested to fail gives the fault of the file.

-- Whether a node may have a name.
unfoldable pub may_be_named : Stage → List ℕ → Bool
may_be_named BeforeRoot name = bytes_eq name []
may_be_named (Inside innermost outer) name = is_child_name name
may_be_named AfterRoot name = false

may_be_named_decides : (stage : Stage) (name : List ℕ) → Decides (may_be_named stage name) (MayBeNamed stage name)
unfolding may_be_named
may_be_named_decides BeforeRoot name = bytes_eq-Decides name []
may_be_named_decides (Inside innermost outer) name = is_child_name_decides name
may_be_named_decides AfterRoot name = ((λ e. false≢true e), (λ may. absurd may))

-- Whether there are no names.
unfoldable pub are_none : List (List ℕ) → Bool
are_none [] = true
are_none (name ∷ later) = false

are_none_decides : (names : List (List ℕ)) → Decides (are_none names) (names ≡ [])
unfolding are_none
are_none_decides [] = ((λ e. refl), (λ e. refl))
are_none_decides (name ∷ later) = ((λ e. absurd (false≢true e)), (λ e. absurd cc))

-- Whether a check of a token passes.
unfoldable pub token_test : TreeBlocks → (depth_limit place : ℕ) → Stage → TokenCheck → Bool
token_test blocks depth_limit place stage HasTokenNumber = nat_le (place + 4) blocks.end
token_test blocks depth_limit place stage IsExpected = is_expected stage (u32_at blocks.file place)
token_test blocks depth_limit place stage IsWithinDepth = nat_lt (length (open_nodes stage)) depth_limit
token_test blocks depth_limit place stage HasNodeName =
    nat_lt (place + 4 + length (name_from blocks.file (place + 4))) blocks.end
token_test blocks depth_limit place stage MayNameNode = may_be_named stage (name_from blocks.file (place + 4))
token_test blocks depth_limit place stage IsNewNode = is_new (name_from blocks.file (place + 4)) (child_names stage)
token_test blocks depth_limit place stage IsBeforeChildren = are_none (child_names stage)
token_test blocks depth_limit place stage HasValue = nat_le (place + 12 + u32_at blocks.file (place + 4)) blocks.end
token_test blocks depth_limit place stage HasPropertyName =
    nat_lt (u32_at blocks.file (place + 8) + length (name_from blocks.strings (u32_at blocks.file (place + 8)))) (length blocks.strings)
token_test blocks depth_limit place stage MayNameProperty = is_property_name (name_from blocks.strings (u32_at blocks.file (place + 8)))
token_test blocks depth_limit place stage IsNewProperty =
    is_new (name_from blocks.strings (u32_at blocks.file (place + 8))) (property_names stage)

pub token_decides : (blocks : TreeBlocks) (depth_limit place : ℕ) (stage : Stage) (check : TokenCheck) →
    Decides (token_test blocks depth_limit place stage check) (TokenPasses blocks depth_limit place stage check)
unfolding token_test
token_decides blocks depth_limit place stage HasTokenNumber = le_decides (place + 4) blocks.end
token_decides blocks depth_limit place stage IsExpected = ((λ e. e), (λ e. e))
token_decides blocks depth_limit place stage IsWithinDepth = lt_decides (length (open_nodes stage)) depth_limit
token_decides blocks depth_limit place stage HasNodeName = lt_decides (place + 4 + length (name_from blocks.file (place + 4))) blocks.end
token_decides blocks depth_limit place stage MayNameNode = may_be_named_decides stage (name_from blocks.file (place + 4))
token_decides blocks depth_limit place stage IsNewNode = is_new_decides (name_from blocks.file (place + 4)) (child_names stage)
token_decides blocks depth_limit place stage IsBeforeChildren = are_none_decides (child_names stage)
token_decides blocks depth_limit place stage HasValue = le_decides (place + 12 + u32_at blocks.file (place + 4)) blocks.end
token_decides blocks depth_limit place stage HasPropertyName = search (rules, lt_decides)
token_decides blocks depth_limit place stage MayNameProperty = search (rules, is_property_name_decides)
token_decides blocks depth_limit place stage IsNewProperty = search (rules, is_new_decides)

-- Whether the numbers of a token are cells, and a zero byte ends its name.
unfoldable pub is_token : Token → Bool
is_token (BeginNode name) = lacks_byte 0 name
is_token (Prop name_offset value) = nat_lt name_offset (2 ^ 32) && nat_lt (length value) (2 ^ 32)
is_token EndNode = true
is_token Nop = true
is_token End = true

pub is_token_decides : (token : Token) → Decides (is_token token) (IsToken token)
unfolding is_token
is_token_decides (BeginNode name) = lacks_byte_decides 0 name
is_token_decides (Prop name_offset value) = search (rules, both_decide, lt_decides)
is_token_decides EndNode = ((λ e. tt), (λ is. refl))
is_token_decides Nop = ((λ e. tt), (λ is. refl))
is_token_decides End = ((λ e. tt), (λ is. refl))

-- Whether a token is at an offset.
unfoldable pub is_token_at : List ℕ → ℕ → Token → Bool
is_token_at file at token = is_token token && bytes_eq (slice file at (length (token_bytes token))) (token_bytes token)

is_token_at_sound : (file : List ℕ) (at : ℕ) (token : Token) → is_token_at file at token ≡ true → IsTokenAt file at token
unfolding is_token_at
is_token_at_sound file at token e = search (rules, and_parts, is_token_decides, bytes_eq-Decides)

-- Whether a token is not FDT_END.
unfoldable pub is_before_end : Token → Bool
is_before_end (BeginNode name) = true
is_before_end EndNode = true
is_before_end (Prop name_offset value) = true
is_before_end Nop = true
is_before_end End = false

is_before_end_sound : (token : Token) → is_before_end token ≡ true → token ≢ End
unfolding is_before_end
is_before_end_sound (BeginNode name) e = λ is. absurd cc
is_before_end_sound EndNode e = λ is. absurd cc
is_before_end_sound (Prop name_offset value) e = λ is. absurd cc
is_before_end_sound Nop e = λ is. absurd cc
is_before_end_sound End e = absurd (false≢true e)

module _ (blocks : TreeBlocks) (depth_limit : ℕ) where
  -- Whether tokens, the newest first, pass their checks at the beginning of a structure block.
  unfoldable pub are_passed : List Token → Bool
  are_passed [] = true
  are_passed (token ∷ before) =
      (is_before_end token && is_token_at blocks.file (place_after blocks before) token)
      && (list_all (token_test blocks depth_limit (place_after blocks before) (stage_after blocks.strings before))
      (token_checks (u32_at blocks.file (place_after blocks before)))
      && are_passed before)

  pub are_passed_sound : (tokens : List Token) → are_passed tokens ≡ true → ArePassed blocks depth_limit tokens
  unfolding are_passed
  are_passed_sound [] e = tt
  are_passed_sound (token ∷ before) e =
      let place : ℕ = place_after blocks before in
      let stage : Stage = stage_after blocks.strings before in
      let all = and_parts _ _ e in
      let here = and_parts (is_before_end token) (is_token_at blocks.file place token) all.0 in
      let rest = and_parts (list_all (token_test blocks depth_limit place stage) (token_checks (u32_at blocks.file place)))
      (are_passed before) all.1 in (
        record {
          no_end = is_before_end_sound token here.0;
          is_at = is_token_at_sound blocks.file place token here.1;
          passes = pass_by_test (TokenPasses blocks depth_limit place stage) (token_fault place) (token_test blocks depth_limit place stage)
              (token_decides blocks depth_limit place stage) (token_checks (u32_at blocks.file place)) rest.0;
        },
        are_passed_sound before rest.1,
      )

-- Whether the header of a file has no fault, and the file has no memory reservations.
unfoldable pub has_no_reservations : Limits → List ℕ → Bool
has_no_reservations bounds file =
    list_all (test bounds file) header_checks
    && ((u64_at file (off_mem_rsvmap file + 16 * 0) == 0 && u64_at file (off_mem_rsvmap file + 16 * 0 + 8) == 0)
    && nat_le (off_mem_rsvmap file + 16 * 0 + 16) (totalsize file))

-- A file whose header has no fault, which has no memory reservations, and whose structure block begins with tokens that pass. Of the
-- checks of the token after them this is the first that fails.
pub in_structure : (bounds : Limits) (file : List ℕ) (before : List Token) (check : TokenCheck) → has_no_reservations bounds file ≡ true →
    are_passed (tree_blocks file) bounds.depth before ≡ true →
    first_failing (token_test (tree_blocks file) bounds.depth (place_after (tree_blocks file) before)
    (stage_after (tree_blocks file).strings before)) (token_checks (u32_at file (place_after (tree_blocks file) before))) ≡ Some check →
    IsBlobFault bounds file (token_fault (place_after (tree_blocks file) before) check)
unfolding has_no_reservations
in_structure bounds file before check fine passed failing =
    let blocks : TreeBlocks = tree_blocks file in
    let place : ℕ = place_after blocks before in
    let stage : Stage = stage_after blocks.strings before in
    let all = and_parts _ _ fine in
    let block = and_parts _ _ all.1 in
    let pair = and_parts _ _ block.0 in
    InStructure (fine_by_test bounds file all.0) 0
    (record {
      before = λ index below. absurd (omega arith);
      end = record {
        address = (eq_decides (u64_at file (off_mem_rsvmap file + 16 * 0)) 0).0 pair.0;
        size = (eq_decides (u64_at file (off_mem_rsvmap file + 16 * 0 + 8)) 0).0 pair.1;
      };
      within = (le_decides (off_mem_rsvmap file + 16 * 0 + 16) (totalsize file)).0 block.1;
    })
    (record {
      before = before;
      passed = are_passed_sound blocks bounds.depth before passed;
      first = fault_by_test (TokenPasses blocks bounds.depth place stage) (token_fault place) (token_test blocks bounds.depth place stage)
          (token_decides blocks bounds.depth place stage) (token_checks (u32_at file place)) check failing;
    })
