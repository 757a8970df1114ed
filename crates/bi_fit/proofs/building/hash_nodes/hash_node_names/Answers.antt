use Rattle.std.proofs.Common.{◌++◌, [], ◌∷◌, map, string_bytes, ap, ap₂, sym, ◌∙◌}
use Rattle.std.proofs.lemmas.List.{map-append}
use Rattle.bi_hash.specs.declared.algo.Algo.TheVariants.{Crc32}
use Rattle.bi_fit.proofs.BuiltLeaves.{hash_node_names_more}
use Rattle.bi_fit.proofs.building.hash_nodes.hash_node_names.Goals as goal

pub loop-index-preserved : goal.loop-index-preserved
loop-index-preserved c =
    ap (map string_bytes) c.in_ok-push.ensures.items
    ∙ map-append string_bytes c.loop-index.names.items (c.in_ok-name_of_number.field-0 ∷ [])
    ∙ ap₂ (λ l name. l ++ name ∷ []) c.loop-index.invariant c.in_ok-name_of_number.ensures
    ∙ sym (hash_node_names_more c.args.algorithms.now c.loop-index.index Crc32 c.loop-index-test.true)
