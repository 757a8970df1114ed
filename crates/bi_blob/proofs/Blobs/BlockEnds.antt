use Rattle.std.proofs.Common.{rules}
use Rattle.std.proofs.Common.{◌≡◌, ℕ, ◌+◌, ◌-◌, ◌≤◌, List, [], ◌∷◌, ◌++◌, length, map, refl, sym, ap, subst, ◌∙◌, arith}
use Rattle.std.proofs.lemmas.List.{length-append, length-take, map-append}
use Rattle.bi_base.specs.Cells.{slice}
use Rattle.bi_blob.specs.Tokens.{Token, BeginNode, EndNode, Prop, Nop, End, width, name_from}
use Rattle.bi_blob.specs.Tree.{Nodes, none, node, Root, Property, FileProperty, FileNode, property_of, properties_of, tree_without_places}
use Rattle.bi_blob.specs.Tree.{with_each, depth, depth_of}
use Rattle.bi_blob.specs.Events.{NodeStart, NodeProperty, NodeEnd, events, events_of, FileEvent, FileNodeStart, FileNodeProperty}
use Rattle.bi_blob.specs.Events.{FileNodeEnd, file_events, file_events_of, EncodeEvents}
use Rattle.bi_blob.specs.Stages.{BeforeRoot, next_stage}
use Rattle.bi_blob.specs.Following.{MayFollow}
use Rattle.bi_blob.specs.Blob.{TreeBlocks, HoldsTree}
use Rattle.bi_blob.specs.BlobFaults.{stage_after, place_after, ArePassed}
use Rattle.bi_blob.proofs.Blobs.BytesBeforeZero.{name_from-IsNameAt}
use Rattle.bi_blob.proofs.Blobs.TokenEncoding.{place_after_all, AllStand, AreEncodings-length}
use Rattle.bi_blob.proofs.Blobs.OneBlob.{HoldsTree-stand}
use Rattle.bi_blob.proofs.Blobs.OneFault.{IsEnded}
use Rattle.bi_blob.proofs.Blobs.EventOrder.{FollowToEnd, tree_follows}
use Rattle.bi_blob.proofs.Blobs.PassedTokens.{place_after_all-past}
use Rattle.bi_blob.proofs.Blobs.TreeTokens.{event_without_place, nop_passes, begin_passes, prop_passes, end_node_passes, end_passes}

-- A block that holds a tree within the depth limit ends: its tokens pass up to FDT_END.

-- The events of nodes of a file, without places, are those of the nodes without places.
pub events_without_places : (nodes : Nodes FileNode) → map event_without_place (file_events nodes) ≡ events (with_each properties_of nodes)
events_without_places none = refl
events_without_places (node name with_places children later) =
    ap (λ l. NodeStart name ∷ l)
    (map-append event_without_place (map FileNodeProperty with_places.properties)
    (file_events children ++ (FileNodeEnd ∷ file_events later))
    ∙ ap (λ l. l ++ map event_without_place (file_events children ++ (FileNodeEnd ∷ file_events later)))
    (properties_without_places with_places.properties)
    ∙ ap (λ l. map NodeProperty (properties_of with_places) ++ l)
    (map-append event_without_place (file_events children) (FileNodeEnd ∷ file_events later)
    ∙ ap (λ l. l ++ (NodeEnd ∷ map event_without_place (file_events later))) (events_without_places children)
    ∙ ap (λ l. events (with_each properties_of children) ++ (NodeEnd ∷ l)) (events_without_places later))) where
      properties_without_places : (ps : List FileProperty) →
          map event_without_place (map FileNodeProperty ps) ≡ map NodeProperty (map property_of ps)
      properties_without_places [] = refl
      properties_without_places (p ∷ ps) = ap (λ l. NodeProperty (property_of p) ∷ l) (properties_without_places ps)

pub tree_events_without_places : (root : Root FileNode) →
    map event_without_place (file_events_of root) ≡ events_of (tree_without_places root)
tree_events_without_places root = events_without_places (node [] root.own root.children none)

-- The places make a tree no deeper.
pub depth-with_each : {A B : Type 0} (change : A → B) (nodes : Nodes A) → depth nodes ≡ depth (with_each change nodes)
depth-with_each change none = refl
depth-with_each change (node name own children later) = search (rules, depth-with_each change children, depth-with_each change later)

pub depth-properties_of : (root : Root FileNode) → depth_of root ≡ depth_of (tree_without_places root)
depth-properties_of root = depth-with_each properties_of (node [] root.own root.children none)

module _ (blocks : TreeBlocks) (depth_limit : ℕ) where
  -- The block ends after tokens that pass, where the tokens after them encode events that may follow.
  pub ends_from : (ts : List Token) (before : List Token) (token_events : List FileEvent) → ArePassed blocks depth_limit before →
      AllStand blocks.file (place_after blocks before) (ts ++ End ∷ []) →
      place_after_all (place_after blocks before) (ts ++ End ∷ []) ≤ blocks.end →
      EncodeEvents blocks.strings (place_after blocks before) ts token_events →
      FollowToEnd (MayFollow depth_limit) (stage_after blocks.strings before) (map event_without_place token_events) →
      (tokens : List Token) × IsEnded blocks depth_limit tokens
  ends_from [] before [] passed stand within encodes follow = (
    before,
    record {
      passed = passed;
      end = stand.0;
      passes = end_passes blocks depth_limit (place_after blocks before) (stage_after blocks.strings before) stand.0 within follow;
    },
  )
  ends_from (Nop ∷ ts) before token_events passed stand within encodes follow =
      let place : ℕ = place_after blocks before in
      let here : place + width Nop ≤ place_after_all (place + width Nop) (ts ++ End ∷ []) = place_after_all-past
      (place + width Nop) (ts ++ End ∷ []) in
      let fits : place + width Nop ≤ blocks.end = omega arith in
      ends_from ts (Nop ∷ before) token_events (
        record {
          no_end = λ (e : Nop ≡ End). absurd cc;
          is_at = stand.0;
          passes = nop_passes blocks depth_limit place (stage_after blocks.strings before) stand.0 fits;
        },
        passed,
      )
      stand.1 within encodes follow
  ends_from (BeginNode name ∷ ts) before (FileNodeStart there named ∷ token_events) passed stand within encodes follow =
      let place : ℕ = place_after blocks before in
      let here : place + width (BeginNode name) ≤ place_after_all (place + width (BeginNode name)) (ts ++ End ∷ []) =
      place_after_all-past (place + width (BeginNode name)) (ts ++ End ∷ []) in
      let fits : place + width (BeginNode name) ≤ blocks.end = omega arith in
      let both : FollowToEnd (MayFollow depth_limit) (stage_after blocks.strings before)
      (NodeStart name ∷ map event_without_place token_events) =
      subst (λ n. FollowToEnd (MayFollow depth_limit) (stage_after blocks.strings before)
      (NodeStart n ∷ map event_without_place token_events)) (sym encodes.0.same_name) follow in
      ends_from ts (BeginNode name ∷ before) token_events (
        record {
          no_end = λ (e : BeginNode name ≡ End). absurd cc;
          is_at = stand.0;
          passes = begin_passes blocks depth_limit place (stage_after blocks.strings before) name stand.0 fits both.0;
        },
        passed,
      )
      stand.1 within encodes.1 both.1
  ends_from (Prop offset value ∷ ts) before (FileNodeProperty property ∷ token_events) passed stand within encodes follow =
      let place : ℕ = place_after blocks before in
      let here : place + width (Prop offset value) ≤ place_after_all (place + width (Prop offset value)) (ts ++ End ∷ []) =
      place_after_all-past (place + width (Prop offset value)) (ts ++ End ∷ []) in
      let fits : place + width (Prop offset value) ≤ blocks.end = omega arith in
      let same_name : property.name ≡ name_from blocks.strings offset =
      sym (name_from-IsNameAt blocks.strings offset property.name encodes.0.name) in
      let same : property_of property ≡ (name_from blocks.strings offset, value) = λ i. (same_name i, sym encodes.0.value i) in
      ends_from ts (Prop offset value ∷ before) token_events (
        record {
          no_end = λ (e : Prop offset value ≡ End). absurd cc;
          is_at = stand.0;
          passes = prop_passes blocks depth_limit place (stage_after blocks.strings before) offset value
              (property_of property) stand.0 fits encodes.0.name follow.0;
        },
        passed,
      )
      stand.1 within encodes.1
      (subst (λ (p : Property). FollowToEnd (MayFollow depth_limit) (next_stage (stage_after blocks.strings before) (NodeProperty p))
      (map event_without_place token_events)) same follow.1)
  ends_from (EndNode ∷ ts) before (FileNodeEnd ∷ token_events) passed stand within encodes follow =
      let place : ℕ = place_after blocks before in
      let here : place + width EndNode ≤ place_after_all (place + width EndNode) (ts ++ End ∷ []) = place_after_all-past
      (place + width EndNode) (ts ++ End ∷ []) in
      let fits : place + width EndNode ≤ blocks.end = omega arith in
      ends_from ts (EndNode ∷ before) token_events (
        record {
          no_end = λ (e : EndNode ≡ End). absurd cc;
          is_at = stand.0;
          passes = end_node_passes blocks depth_limit place (stage_after blocks.strings before) stand.0 fits follow.0;
        },
        passed,
      )
      stand.1 within encodes follow.1
  ends_from ts before token_events passed stand within encodes follow = absurd encodes

  -- The tokens of a block that holds a tree end in the block.
  holds_within : (root : Root FileNode) (holds : HoldsTree blocks root) → blocks.begin ≤ blocks.end →
      place_after_all blocks.begin (holds.tokens ++ End ∷ []) ≤ blocks.end
  holds_within root holds ordered =
      let size : ℕ = blocks.end - blocks.begin in
      let whole : blocks.begin + length holds.structure ≡ place_after_all blocks.begin (holds.tokens ++ End ∷ []) =
      AreEncodings-length blocks.begin (holds.tokens ++ End ∷ []) holds.structure holds.is_encoded in
      let long : length (slice blocks.file blocks.begin size) ≡ length holds.structure + length holds.trailing =
      ap length holds.is_at ∙ length-append holds.structure holds.trailing in
      search (rules, length-take)

  -- A block that holds a tree within the depth limit ends.
  pub tree_ends : (root : Root FileNode) → HoldsTree blocks root → blocks.begin ≤ blocks.end → depth_of root ≤ depth_limit →
      (tokens : List Token) × IsEnded blocks depth_limit tokens
  tree_ends root holds ordered shallow =
      ends_from holds.tokens [] (file_events_of root) tt (HoldsTree-stand blocks root holds) (holds_within root holds ordered) holds.encodes
      (subst (FollowToEnd (MayFollow depth_limit) BeforeRoot) (sym (tree_events_without_places root))
      (tree_follows depth_limit (tree_without_places root) holds.is_tree (subst (λ n. n ≤ depth_limit) (depth-properties_of root) shallow)))
