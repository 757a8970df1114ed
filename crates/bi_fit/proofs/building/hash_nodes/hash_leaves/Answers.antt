use Rattle.std.proofs.Common.{◌≡◌, ◌+◌, ◌≤◌, [], ◌∷◌, drop, get_or, length, string_bytes, sym, ap, subst, ◌∙◌}
use Rattle.std.specs.FinMap.{from_entries}
use Rattle.std.specs.List.{AllByRecursion}
use Rattle.bi_base.proofs.ListMembers.{each-append}
use Rattle.bi_hash.specs.declared.algo.Algo.TheVariants.{Crc32}
use Rattle.bi_fit.specs.declared.document.nodes.Leaf.{Leaf}
use Rattle.bi_fit.specs.Building.{built_hash_properties}
use Rattle.bi_fit.specs.BuiltNames.{built_names}
use Rattle.bi_fit.specs.BuiltNodes.{built_digests}
use Rattle.bi_fit.proofs.BuiltLeaves.{hash_names_within, hash_name_at, digests_from, has_next_digest, next_digest, digests_after}
use Rattle.bi_fit.proofs.BuiltLeaves.{hash_leaves_more}
use Rattle.bi_fit.proofs.building.hash_nodes.hash_leaves.Goals as goal

pub split_at-requires : goal.split_at-requires
split_at-requires c =
    let algorithms = c.args.algorithms.now in
    let index = c.loop-index.index in
    let payload = c.requires.digests.0 in
    let left = c.loop-index.invariant.left payload c.requires.digests.1 ∙ digests_from algorithms index Crc32 payload c.loop-index-test.true
    in
    subst (λ size. size ≤ length c.loop-index.left.now) (sym c.digest_size.ensures)
    (has_next_digest (get_or algorithms index Crc32) payload
    (built_digests (drop (index + 1) algorithms) payload) c.loop-index.left.now left)

pub bounds-hash_names-index : goal.bounds-hash_names-index
bounds-hash_names-index c =
    hash_names_within string_bytes c.args.hash_names.now c.args.algorithms.now c.loop-index.index c.requires.hash_names
    c.loop-index-test.true

pub loop-index-preserved : goal.loop-index-preserved
loop-index-preserved c =
    let algorithms = c.args.algorithms.now in
    let index = c.loop-index.index in
    let algo = get_or algorithms index Crc32 in
    let next : Leaf = record { name = c.as_bytes.result; properties = c.in_ok-hash_properties.field-0 } in
    record {
      leaves = λ payload same.
          let left = c.loop-index.invariant.left payload same ∙ digests_from algorithms index Crc32 payload c.loop-index-test.true in
          let rest = built_digests (drop (index + 1) algorithms) payload in
          let digest = c.split_at.ensures.front
          ∙ next_digest algo payload rest c.loop-index.left.now c.digest_size.result left c.digest_size.ensures in
          hash_leaves_more algorithms index Crc32 payload c.loop-index-test.true c.loop-index.leaves.items c.push.new.self.items next
          c.in_ok-push.ensures.items
          (c.as_bytes.ensures.value
          ∙ hash_name_at string_bytes c.args.hash_names.now algorithms index c.index-hash_names-index.result c.requires.hash_names
          c.loop-index-test.true c.index-hash_names-index.is)
          (ap (λ m. m.by_name) c.in_ok-hash_properties.ensures
          ∙ ap (λ digest. from_entries (built_hash_properties algo digest)) digest)
          (c.loop-index.invariant.leaves payload same);
      left = λ payload same.
          let left = c.loop-index.invariant.left payload same ∙ digests_from algorithms index Crc32 payload c.loop-index-test.true in
          c.split_at.ensures.back
          ∙ digests_after algo payload (built_digests (drop (index + 1) algorithms) payload) c.loop-index.left.now c.digest_size.result left
          c.digest_size.ensures;
      same_names = subst (AllByRecursion (λ (leaf : Leaf). leaf.properties.names ≡ built_names)) (sym c.in_ok-push.ensures.items)
          (each-append (λ (leaf : Leaf). leaf.properties.names ≡ built_names) c.loop-index.leaves.items (next ∷ [])
          c.loop-index.invariant.same_names (ap (λ m. m.names) c.in_ok-hash_properties.ensures, tt));
    }
