use Rattle.std.proofs.Common.{◌≡◌, ℕ, ◌+◌, ◌<◌, ◌≤◌, List, [], ◌∷◌, ◌++◌, length, refl, sym, ap, subst, ◌∙◌, arith, rules}
use Rattle.std.specs.Prelude.{IsTrue}
use Rattle.std.proofs.lemmas.List.{length-append}
use Rattle.bi_base.specs.Cells.{u32_at}
use Rattle.bi_base.specs.Checks.{HasNoFault}
use Rattle.bi_blob.specs.Tokens.{Token, BeginNode, EndNode, Prop, Nop, End, token_bytes, width, IsTokenAt, name_from, IsNameAt, nop_number}
use Rattle.bi_blob.specs.Tokens.{begin_node_number, prop_number, end_number}
use Rattle.bi_blob.specs.Tree.{Property, property_of, IsNew, IsPropertyName}
use Rattle.bi_blob.specs.Events.{Event, NodeStart, NodeProperty, NodeEnd, FileEvent, FileNodeStart, FileNodeProperty, FileNodeEnd}
use Rattle.bi_blob.specs.Stages.{Stage, BeforeRoot, Inside, AfterRoot, open_nodes, child_names, property_names, is_expected}
use Rattle.bi_blob.specs.Following.{MayFollow}
use Rattle.bi_blob.specs.Blob.{TreeBlocks}
use Rattle.bi_blob.specs.BlobFaults.{TokenPasses, token_checks, MayBeNamed, HasName}
use Rattle.bi_base.proofs.CellLaws.{length-cell}
use Rattle.bi_blob.proofs.Blobs.BytesBeforeZero.{name_from-IsNameAt, IsNameAt-HasName}
use Rattle.bi_blob.proofs.Blobs.Tokens.{number, length-token_bytes, IsTokenAt-number, BeginNode-name, IsPropAt, Prop-parts, width-at_least}
use Rattle.bi_blob.proofs.Blobs.EventOrder.{start_passes, property_passes}
use Rattle.bi_blob.proofs.Blobs.EventOrder.{end_node_is_expected as end_node_expected}

-- The tokens of a block that holds a tree within the depth limit pass their checks.

-- FDT_NOP may come at each stage.
nop_is_expected : (stage : Stage) → IsTrue (is_expected stage nop_number)
nop_is_expected BeforeRoot = refl
nop_is_expected (Inside innermost outer) = refl
nop_is_expected AfterRoot = refl

-- How long a property is without its padding.
pub length-Prop : (offset : ℕ) (value : List ℕ) → length (token_bytes (Prop offset value)) ≡ 12 + length value
length-Prop offset value = simp (length-append, length-cell) (omega arith)

module _ (blocks : TreeBlocks) (depth_limit place : ℕ) (stage : Stage) where
  -- The number of a token is in the block, and may come there.
  number_passes : (token : Token) → IsTokenAt blocks.file place token → place + width token ≤ blocks.end →
      IsTrue (is_expected stage (number token)) → (place + 4 ≤ blocks.end) × IsTrue (is_expected stage (u32_at blocks.file place))
  number_passes token is_at within may = search (rules, width-at_least, IsTokenAt-number)

  -- A token that passes the checks of its number passes those of the number that is read.
  by_number : (token : Token) → IsTokenAt blocks.file place token →
      HasNoFault (TokenPasses blocks depth_limit place stage) (token_checks (number token)) →
      HasNoFault (TokenPasses blocks depth_limit place stage) (token_checks (u32_at blocks.file place))
  by_number token is_at passes = search (rules, IsTokenAt-number)

  pub nop_passes : IsTokenAt blocks.file place Nop → place + width Nop ≤ blocks.end →
      HasNoFault (TokenPasses blocks depth_limit place stage) (token_checks (u32_at blocks.file place))
  nop_passes is_at within =
      let word : (place + 4 ≤ blocks.end)
      × IsTrue (is_expected stage (u32_at blocks.file place)) = number_passes Nop is_at within (nop_is_expected stage) in
      by_number Nop is_at (word.0, (word.1, tt))

  pub end_node_passes : IsTokenAt blocks.file place EndNode → place + width EndNode ≤ blocks.end → MayFollow depth_limit stage NodeEnd →
      HasNoFault (TokenPasses blocks depth_limit place stage) (token_checks (u32_at blocks.file place))
  end_node_passes is_at within may =
      let word : (place + 4 ≤ blocks.end)
      × IsTrue (is_expected stage (u32_at blocks.file place)) = number_passes EndNode is_at within (end_node_expected stage may) in
      by_number EndNode is_at (word.0, (word.1, tt))

  pub end_passes : IsTokenAt blocks.file place End → place + width End ≤ blocks.end → stage ≡ AfterRoot →
      HasNoFault (TokenPasses blocks depth_limit place stage) (token_checks (u32_at blocks.file place))
  end_passes is_at within ended =
      let word : (place + 4 ≤ blocks.end) × IsTrue (is_expected stage (u32_at blocks.file place)) =
      number_passes End is_at within (subst (λ s. IsTrue (is_expected s end_number)) (sym ended) refl) in
      by_number End is_at (word.0, (word.1, tt))

  pub begin_passes : (name : List ℕ) → IsTokenAt blocks.file place (BeginNode name) → place + width (BeginNode name) ≤ blocks.end →
      MayFollow depth_limit stage (NodeStart name) →
      HasNoFault (TokenPasses blocks depth_limit place stage) (token_checks (u32_at blocks.file place))
  begin_passes name is_at within may_begin =
      let may : IsTrue (is_expected stage begin_node_number) × (length (open_nodes stage) < depth_limit) × MayBeNamed stage name
      × IsNew name (child_names stage) =
      start_passes depth_limit stage name may_begin in
      let word : (place + 4 ≤ blocks.end)
      × IsTrue (is_expected stage (u32_at blocks.file place)) = number_passes (BeginNode name) is_at within may.0 in
      let read : name_from blocks.file (place + 4) ≡ name =
      name_from-IsNameAt blocks.file (place + 4) name (BeginNode-name blocks.file place name is_at) in
      let long : length (token_bytes (BeginNode name)) ≡ 4 + length (name ++ 0 ∷ []) = length-token_bytes (BeginNode name) in
      let longer : length (name ++ 0 ∷ []) ≡ length name + 1 = length-append name (0 ∷ []) in
      let wide : length (token_bytes (BeginNode name)) ≤ width (BeginNode name) = (width-at_least (BeginNode name)).1 in
      let ends : place + 4 + length name < blocks.end = omega arith in
      by_number (BeginNode name) is_at (
        word.0,
        (
          word.1,
          (
            may.1,
            (
              subst (λ n. place + 4 + length n < blocks.end) (sym read) ends,
              (
                subst (MayBeNamed stage) (sym read) may.2,
                (subst (λ n. IsNew n (child_names stage)) (sym read) may.3, tt),
              ),
            ),
          ),
        ),
      )

  pub prop_passes : (offset : ℕ) (value : List ℕ) (property : Property) → IsTokenAt blocks.file place (Prop offset value) →
      place + width (Prop offset value) ≤ blocks.end → IsNameAt blocks.strings offset property.0 →
      MayFollow depth_limit stage (NodeProperty property) →
      HasNoFault (TokenPasses blocks depth_limit place stage) (token_checks (u32_at blocks.file place))
  prop_passes offset value property is_at within named may_have =
      let may : IsTrue (is_expected stage prop_number) × (child_names stage ≡ []) × IsPropertyName property.0
      × IsNew property.0 (property_names stage) =
      property_passes stage property.0 may_have in
      let word : (place + 4 ≤ blocks.end)
      × IsTrue (is_expected stage (u32_at blocks.file place)) = number_passes (Prop offset value) is_at within may.0 in
      let parts : IsPropAt blocks.file place offset value = Prop-parts blocks.file place offset value is_at in
      let is_length : u32_at blocks.file (place + 4) ≡ length value = parts.is_length in
      let read : name_from blocks.strings (u32_at blocks.file (place + 8)) ≡ property.0 =
      ap (name_from blocks.strings) parts.is_offset ∙ name_from-IsNameAt blocks.strings offset property.0 named in
      let wide : length (token_bytes (Prop offset value)) ≤ width (Prop offset value) = (width-at_least (Prop offset value)).1 in
      let long : length (token_bytes (Prop offset value)) ≡ 12 + length value = length-Prop offset value in
      by_number (Prop offset value) is_at (
        word.0,
        (
          word.1,
          (
            may.1,
            (
              omega arith,
              (
                subst (λ o. HasName blocks.strings o (length blocks.strings)) (sym parts.is_offset)
                    (IsNameAt-HasName blocks.strings offset property.0 named),
                (
                  subst IsPropertyName (sym read) may.2,
                  (subst (λ n. IsNew n (property_names stage)) (sym read) may.3, tt),
                ),
              ),
            ),
          ),
        ),
      )

-- An event without its place.
abbrev pub event_without_place : FileEvent → Event
event_without_place (FileNodeStart place name) = NodeStart name
event_without_place (FileNodeProperty property) = NodeProperty (property_of property)
event_without_place FileNodeEnd = NodeEnd
