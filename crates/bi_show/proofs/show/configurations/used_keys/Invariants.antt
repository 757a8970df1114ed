use Rattle.std.proofs.Common.{◌≡◌, ◌++◌, drop, filter}
use Rattle.std.specs.List.{list_any}
use Rattle.bi_blob.specs.Lookups.{siblings}
use Rattle.bi_fit.specs.HashNodes.{file_configurations}
use Rattle.bi_fit.specs.Names.{all_keys}
use Rattle.bi_show.specs.FitPages.{has_key, used_keys}
use Rattle.bi_show.proofs.show.configurations.used_keys.Given as goal

-- The keys before this one that are used are in the list, and those of the others that are used follow.
abbrev pub invariant-loop-key : goal.invariant-loop-key
invariant-loop-key l =
    let entries = siblings (file_configurations l.fit.blob) in
    l.keys.items ++ filter (λ key. list_any (has_key key) entries) (drop l.key-index all_keys) ≡ used_keys entries
