use Rattle.std.proofs.Common.{◌≡◌, [], ◌∷◌, ◌++◌, ap, arith, length, length-append, subst, sym}
use Rattle.std.proofs.Common.{take, take_all, ◌∙◌}
use Rattle.std.proofs.lemmas.Iterator.Adapters.{YieldsList-from_vec}
use Rattle.std.proofs.lemmas.Iterator.Consumers.{YieldsList-end, YieldsList-turn}
use Rattle.std.proofs.lemmas.List.{take_more}
use Rattle.std.proofs.lemmas.Result.{err_from_is_err_and}
use Rattle.bi_describe.specs.IgnoredWords.{payload_path}
use Rattle.bi_describe.specs.MadeInsides.{HoldBlobs, HoldsBlob, IsBlobOrNone, long_names_in, place_at}
use Rattle.bi_describe.proofs.BlobLists.{each_at, held_more, long_more, names_error_more}
use Rattle.bi_describe.proofs.describe.insides.trees_of_blobs.Goals as goal

pub tree_of-requires : goal.tree_of-requires
tree_of-requires c =
    let gives = c.into_iter-blob-iterator.ensures.into_iter_gives in
    let road = YieldsList-from_vec c.args.blobs.items gives.0 (gives.1 ∙ c.args.blobs.ok.0) in
    let turn = YieldsList-turn road c.loop-blob.yielded _ c.loop-blob.yielded_by _ c.next.new.self c.in-Some.blob c.in-Some.is c.next.ensures.steps in
    subst (IsBlobOrNone c.args.limits) (sym turn.1)
    (each_at (IsBlobOrNone c.args.limits) c.args.blobs.items (length c.loop-blob.yielded) c.in-Some.blob c.requires turn.0)

pub returns-in_err-tree_of-clause-failed : goal.returns-in_err-tree_of-clause-failed
returns-in_err-tree_of-clause-failed c =
    let gives = c.into_iter-blob-iterator.ensures.into_iter_gives in
    let road = YieldsList-from_vec c.args.blobs.items gives.0 (gives.1 ∙ c.args.blobs.ok.0) in
    let turn = YieldsList-turn road c.loop-blob.yielded _ c.loop-blob.yielded_by _ c.next.new.self c.in-Some.blob c.in-Some.is c.next.ensures.steps in
    let p = err_from_is_err_and c.from_residual-in_err-tree_of.result c.from_residual-in_err-tree_of.ensures.1 in
    rw (p.1, p.2) (names_error_more c.args.limits.file c.loop-blob.room c.args.blobs.items (length c.loop-blob.yielded) c.in-Some.blob
    c.in_err-tree_of.field-0.0 turn.0 turn.1 c.loop-blob.invariant.room c.in_err-tree_of.ensures.failed)

pub loop-blob-preserved : goal.loop-blob-preserved
loop-blob-preserved c =
    let gives = c.into_iter-blob-iterator.ensures.into_iter_gives in
    let road = YieldsList-from_vec c.args.blobs.items gives.0 (gives.1 ∙ c.args.blobs.ok.0) in
    let turn = YieldsList-turn road c.loop-blob.yielded _ c.loop-blob.yielded_by _ c.next.new.self c.in-Some.blob c.in-Some.is c.next.ensures.steps in
    let index = c.args.index.now in
    let blobs = c.args.blobs.items in
    let blob = c.in-Some.blob in
    let tree = c.in_ok-tree_of.field-0 in
    let first = take (length c.loop-blob.yielded) blobs in
    let next : take (length (c.loop-blob.yielded ++ blob ∷ [])) blobs ≡ first ++ blob ∷ [] =
    ap (λ count. take count blobs) (length-append c.loop-blob.yielded (blob ∷ []))
    ∙ take_more blobs (length c.loop-blob.yielded) blob turn.0 ∙ ap (λ item. first ++ item ∷ []) (sym turn.1) in
    record {
      held = subst (λ list. HoldBlobs index 0 list c.push.new.self.items) (sym next)
          (subst (HoldBlobs index 0 (first ++ blob ∷ [])) (sym c.in_ok-push.ensures.items)
          (held_more index 0 first c.loop-blob.trees.items blob tree c.loop-blob.invariant.held
          (subst (λ n. HoldsBlob (payload_path (place_at index n)) blob tree)
          (c.len-in-loop-blob.ensures ∙ c.loop-blob.trees.ok.0 ∙ omega arith)
          (subst (λ path. HoldsBlob path blob tree) c.in_ok-path.ensures.path c.in_ok-tree_of.ensures.held))));
      room = omega (arith, c.loop-blob.invariant.room, c.in_ok-tree_of.ensures.room, ap long_names_in next, long_more first blob);
    }

pub returns-clause-held : goal.returns-clause-held
returns-clause-held c =
    let gives = c.into_iter-blob-iterator.ensures.into_iter_gives in
    let road = YieldsList-from_vec c.args.blobs.items gives.0 (gives.1 ∙ c.args.blobs.ok.0) in
    let end = YieldsList-end road c.loop-blob.yielded _ c.loop-blob.yielded_by _ c.next.new.self c.in-None.is c.next.ensures.steps in
    subst (λ blobs. HoldBlobs c.args.index.now 0 blobs c.loop-blob.trees.items)
    (take_all (length c.loop-blob.yielded) c.args.blobs.items (omega (arith, end.1))) c.loop-blob.invariant.held
