use Rattle.std.proofs.Common.{List, drop, flat_map}
use Rattle.bi_fdt.specs.Views.{node_of}
use Rattle.bi_fit.specs.declared.key.Key.{Key}
use Rattle.bi_fit.specs.HashNodes.{file_listed}
use Rattle.bi_fit.specs.Names.{all_keys}
use Rattle.bi_common.specs.Json.{Json}
use Rattle.bi_common.specs.JsonTokens.{value_tokens}
use Rattle.bi_report.specs.FitListing.{key_objects}
use Rattle.bi_report.proofs.PutInTurn.{IsPutBefore}
use Rattle.bi_report.proofs.list.configurations.put_key_objects.Given as goal

-- The objects of the keys that are left follow those that were put.
abbrev pub invariant-loop-key : goal.invariant-loop-key
invariant-loop-key g l =
    let entry = node_of l.fn.node in
    let objects : Key → List Json = λ key. key_objects key (file_listed l.fn.fit.images entry key) in
    IsPutBefore g.J.JsonPen.puts l.initial.json l.json (value_tokens (flat_map objects (drop l.key-index all_keys)))
    (value_tokens (flat_map objects all_keys))
