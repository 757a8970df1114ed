use Rattle.std.proofs.Common.{rules}
use Rattle.std.proofs.Common.{◌≡◌, ℕ, ◌+◌, ◌≤◌, List, [], ◌∷◌, length, map, refl, sym, ap, subst, ◌∙◌, Bool, true, false, arith}
use Rattle.std.specs.Prelude.{IsTrue}
use Rattle.std.proofs.lemmas.List.{append-nil, length-append}
use Rattle.bi_base.specs.declared.fault.Fault.{Fault}
use Rattle.bi_base.specs.Cells.{u32_at, up4, slice}
use Rattle.bi_base.specs.Checks.{IsFirstFault, HasNoFault}
use Rattle.bi_base.proofs.CellLaws.{length-cell, length-slice}
use Rattle.bi_blob.specs.Tokens.{BeginNode, EndNode, Prop, Nop, width, name_from, begin_node_number, end_node_number, prop_number}
use Rattle.bi_blob.specs.Tokens.{nop_number}
use Rattle.bi_blob.specs.Tree.{FileProperty, IsNew, names}
use Rattle.bi_blob.specs.Stages.{is_expected}
use Rattle.bi_blob.specs.Blob.{TreeBlocks}
use Rattle.bi_blob.specs.BlobFaults.{TokenPasses, IsNewNode, IsNewProperty, token_fault, begin_checks, property_checks}
use Rattle.bi_blob.specs.BlobFaults.{IsStructureFault}
use Rattle.bi_blob.specs.OpenNodes.{OpenFileNode, IsOpenAt, OpenTree, WholeTree, new_node, with_one_property, with_one_child, stage_of}
use Rattle.bi_blob.proofs.Blobs.OpenNodes.{ended_root, events_of_open_nodes-root}
use Rattle.bi_blob.proofs.Blobs.Tokens.{length-token_bytes}
use Rattle.bi_blob.proofs.Blobs.TreeTokens.{length-Prop}
use Rattle.bi_blob.proofs.Blobs.ReaderSteps.{IsNext, next_nop, next_child, next_property, next_end_of_child, next_last}
use Rattle.bi_blob.proofs.Blobs.ReaderSteps.{property_at, property_token}
use Rattle.bi_blob.proofs.Blobs.TreeOrFault.{fault_there}
use Rattle.bi_fdt.specs.declared.growing.Growing.{Growing}
use Rattle.bi_fdt.specs.declared.table.PropertyEntry.{PropertyEntry}
use Rattle.bi_fdt.specs.Table.{property_in}
use Rattle.bi_fdt.specs.declared.tokens.Reading.{Reading}
use Rattle.bi_fdt.specs.Blocks.{IsNumberAt, IsPropertyAt, node_name_checks}
use Rattle.bi_fdt.specs.Growth.{IsFinished, EndsInside, EndsChild, EndsRoot, IsEnding}
use Rattle.bi_fdt.specs.Reading.{IsReading, IsTable, IsAfter, IsAhead}
use Rattle.bi_fdt.proofs.Items.{items_of-append}

-- Inside the root, FDT_BEGIN_NODE begins a child, FDT_PROP adds a property, FDT_END_NODE ends the innermost node, FDT_NOP changes nothing,
-- and the first check of a token that fails gives the fault.

-- How wide tokens are.
pub width-begin : (name : List ℕ) → width (BeginNode name) ≡ up4 (length name + 5)
width-begin name = ap up4 (length-token_bytes (BeginNode name) ∙ ap (λ n. 4 + n) (length-append name (0 ∷ [])) ∙ omega arith)

pub width-property : (offset : ℕ) (value : List ℕ) → width (Prop offset value) ≡ up4 (length value + 12)
width-property offset value = ap up4 (length-Prop offset value ∙ omega arith)

pub width-end_node : width EndNode ≡ 4
width-end_node = ap up4 (length-cell end_node_number)

pub width-nop : width Nop ≡ 4
width-nop = ap up4 (length-cell nop_number)

-- The next token is at most three bytes past the end of a token within the block.
pub up4-within : (n : ℕ) → (n ≤ up4 n) × (up4 n ≤ n + 3)
up4-within n = (omega arith, omega arith)

module _ (blocks : TreeBlocks) (depth_limit place : ℕ) (o : OpenFileNode) (outer : List OpenFileNode)
    (position : IsOpenAt blocks depth_limit place (OpenTree o outer)) where
  -- The token with this number is expected inside the root.
  expected : (number : ℕ) → u32_at blocks.file place ≡ number → IsTrue (is_expected (stage_of (OpenTree o outer)) number) →
      IsTrue (is_expected (stage_of (OpenTree o outer)) (u32_at blocks.file place))
  expected number is may = subst (λ n. IsTrue (is_expected (stage_of (OpenTree o outer)) n)) (sym is) may

  -- A fault of FDT_BEGIN_NODE.
  pub begin_fault : (fault : Fault) → IsNumberAt blocks place begin_node_number →
      IsFirstFault (TokenPasses blocks depth_limit place (stage_of (OpenTree o outer))) (token_fault place) begin_checks fault →
      IsStructureFault blocks depth_limit fault
  begin_fault fault number first = search (rules, fault_there, expected)

  -- A fault of FDT_PROP.
  pub property_fault : (fault : Fault) → IsNumberAt blocks place prop_number →
      IsFirstFault (TokenPasses blocks depth_limit place (stage_of (OpenTree o outer))) (token_fault place) property_checks fault →
      IsStructureFault blocks depth_limit fault
  property_fault fault number first = search (rules, fault_there, expected)

  -- A child of a name that another child has.
  pub duplicate_node : (name : List ℕ) (fault : Fault) → IsNumberAt blocks place begin_node_number →
      name ≡ name_from blocks.file (place + 4) →
      HasNoFault (TokenPasses blocks depth_limit place (stage_of (OpenTree o outer))) node_name_checks →
      fault ≡ token_fault place IsNewNode → ¬ (IsNew name (names o.children)) → IsStructureFault blocks depth_limit fault
  duplicate_node name fault number is passes is_fault old = search (rules, begin_fault)

  -- A property of a name that another property has.
  pub duplicate_property : (p : PropertyEntry) (fault : Fault) → IsNumberAt blocks place prop_number → IsPropertyAt blocks place p →
      names o.children ≡ [] → fault ≡ token_fault place IsNewProperty →
      ¬ (IsNew (property_in blocks.file p).name (map (λ q. q.name) o.properties)) → IsStructureFault blocks depth_limit fault
  duplicate_property p fault number is childless is_fault old = search (rules, property_fault)

  -- FDT_NOP.
  pub after_nop : IsNumberAt blocks place nop_number → IsOpenAt blocks depth_limit (place + 4) (OpenTree o outer)
  after_nop number = search (rules, width-nop, next_nop, expected)

  -- FDT_BEGIN_NODE of a child.
  pub after_begin : (name : List ℕ) → IsNumberAt blocks place begin_node_number → name ≡ name_from blocks.file (place + 4) →
      HasNoFault (TokenPasses blocks depth_limit place (stage_of (OpenTree o outer))) node_name_checks → IsNew name (names o.children) →
      IsOpenAt blocks depth_limit (place + up4 (length name + 5)) (OpenTree (new_node name place) (o ∷ outer))
  after_begin name number is passes new =
      subst (λ w. IsOpenAt blocks depth_limit (place + w) (OpenTree (new_node name place) (o ∷ outer))) (width-begin name)
      (subst (λ n. IsOpenAt blocks depth_limit (place + width (BeginNode n)) (OpenTree (new_node n place) (o ∷ outer))) (sym is)
      (next_child blocks depth_limit place o outer position (record {
        is_number = number.is_number;
        passes = (
          number.within,
          (
            expected begin_node_number number.is_number refl,
            (passes.0, (passes.1.0, (passes.1.1.0, (subst (λ n. IsNew n (names o.children)) is new, tt)))),
          ),
        );
      })))

  -- FDT_PROP.
  pub after_property : (p : PropertyEntry) → IsNumberAt blocks place prop_number → IsPropertyAt blocks place p → names o.children ≡ [] →
      IsNew (property_in blocks.file p).name (map (λ q. q.name) o.properties) →
      IsOpenAt blocks depth_limit (place + up4 (p.value_length + 12)) (OpenTree (with_one_property o (property_in blocks.file p)) outer)
  after_property p number is childless new =
      let same : property_in blocks.file p ≡ property_at blocks place = λ i. record {
        name = is.name i;
        value = slice blocks.file (is.place i + 12) (is.value_length i);
        place = is.place i;
      } in
      let size : ℕ = u32_at blocks.file (place + 4) in
      let inside : blocks.end ≤ length blocks.file = position.readable.within in
      let wide : width (property_token blocks place) ≡ up4 (p.value_length + 12) =
      width-property (u32_at blocks.file (place + 8)) (property_at blocks place).value
      ∙ ap (λ n. up4 (n + 12)) (length-slice blocks.file (place + 12) size (omega (arith, is.has_value)) ∙ sym is.value_length) in
      subst (λ q. IsOpenAt blocks depth_limit (place + up4 (p.value_length + 12)) (OpenTree (with_one_property o q) outer)) (sym same)
      (subst (λ w. IsOpenAt blocks depth_limit (place + w) (OpenTree (with_one_property o (property_at blocks place)) outer)) wide
      (next_property blocks depth_limit place o outer position (record {
        is_number = number.is_number;
        passes = (
          number.within,
          (
            expected prop_number number.is_number refl,
            (
              childless,
              (
                is.has_value,
                (
                  is.has_name,
                  (is.may_have_name, (subst (λ name. IsNew name (map (λ (q : FileProperty). q.name) o.properties)) is.name new, tt)),
                ),
              ),
            ),
          ),
        );
      })))

  end_is_next : IsNumberAt blocks place end_node_number → IsNext blocks depth_limit place (stage_of (OpenTree o outer)) end_node_number
  end_is_next number = search (rules, expected)

-- FDT_END_NODE of a child.
pub after_child : (blocks : TreeBlocks) (depth_limit place : ℕ) (o parent : OpenFileNode) (outer : List OpenFileNode) →
    IsOpenAt blocks depth_limit place (OpenTree o (parent ∷ outer)) → IsNumberAt blocks place end_node_number →
    IsOpenAt blocks depth_limit (place + 4) (OpenTree (with_one_child parent o) outer)
after_child blocks depth_limit place o parent outer position number = search (rules, width-end_node, next_end_of_child, end_is_next)

-- FDT_END_NODE of the root.
pub after_root : (blocks : TreeBlocks) (depth_limit place : ℕ) (o : OpenFileNode) → IsOpenAt blocks depth_limit place (OpenTree o []) →
    IsNumberAt blocks place end_node_number → IsOpenAt blocks depth_limit (place + 4) (WholeTree (ended_root o))
after_root blocks depth_limit place o position number = search (rules, ended_root, width-end_node, next_last, end_is_next)

-- The table of a root that has ended is that of its tree.
pub finished_table : (file : List ℕ) (finished : Growing) (o : OpenFileNode) → o.name ≡ [] → IsFinished file finished o →
    IsTable file finished.entries.items (ended_root o)
finished_table file growing o unnamed finished = search (rules, append-nil, items_of-append, events_of_open_nodes-root)

-- A reader after FDT_END_NODE of a child.
after_end_inside : (blocks : TreeBlocks) (depth_limit : ℕ) (old new : Reading) →
    IsReading blocks depth_limit old → IsNumberAt blocks old.place end_node_number →
    EndsChild old.growing new.growing → new.place ≡ old.place + 4 → IsReading blocks depth_limit new
after_end_inside blocks depth_limit old new r number ended moved = by_outer r.innermost r.outer r.position
    (ended.grown blocks.file r.innermost r.outer r.growing) where
      by_outer : (o : OpenFileNode) (outer : List OpenFileNode) → IsOpenAt blocks depth_limit old.place (OpenTree o outer) →
          EndsInside blocks.file new.growing o outer → IsReading blocks depth_limit new
      by_outer o [] position more = absurd more
      by_outer o (parent ∷ outer) position more = record {
        innermost = with_one_child parent o;
        outer = outer;
        position = subst (λ place. IsOpenAt blocks depth_limit place (OpenTree (with_one_child parent o) outer)) (sym moved)
            (after_child blocks depth_limit old.place o parent outer position number);
        growing = more;
        strings = ended.strings ∙ r.strings;
        few = omega (arith, r.few, ended.count, moved);
        within = omega (arith, number.within, moved);
      }

-- A reader after FDT_END_NODE of the root.
after_end_root : (blocks : TreeBlocks) (depth_limit : ℕ) (old new : Reading) →
    IsReading blocks depth_limit old → IsNumberAt blocks old.place end_node_number →
    EndsRoot old.growing new.growing → new.place ≡ old.place + 4 → IsAfter blocks depth_limit new
after_end_root blocks depth_limit old new r number ended moved =
    by_outer r.outer r.position (ended.finished blocks.file r.innermost r.outer r.growing) where
      by_outer : (outer : List OpenFileNode) → IsOpenAt blocks depth_limit old.place (OpenTree r.innermost outer) →
          (outer ≡ []) × IsFinished blocks.file new.growing r.innermost → IsAfter blocks depth_limit new
      by_outer (parent ∷ outer) position whole = absurd (one_more whole.0) where
        one_more : parent ∷ outer ≡ [] → ⊥
        one_more e = cc
      by_outer [] position whole = record {
        root = ended_root r.innermost;
        position = subst (λ place. IsOpenAt blocks depth_limit place (WholeTree (ended_root r.innermost))) (sym moved)
            (after_root blocks depth_limit old.place r.innermost position number);
        is_table = finished_table blocks.file new.growing r.innermost position.is_tree_so_far.1 whole.1;
        named = whole.1.named;
        within = omega (arith, number.within, moved);
      }

-- A reader after FDT_END_NODE.
pub after_end : (blocks : TreeBlocks) (depth_limit : ℕ) (old new : Reading) (has_ended : Bool) → IsReading blocks depth_limit old →
    IsNumberAt blocks old.place end_node_number → IsEnding old.growing has_ended new.growing → new.place ≡ old.place + 4 →
    IsAhead blocks depth_limit old.place has_ended new
after_end blocks depth_limit old new false r number ended moved =
    (after_end_inside blocks depth_limit old new r number ended moved, omega (arith, moved))
after_end blocks depth_limit old new true r number ended moved = after_end_root blocks depth_limit old new r number ended moved
