use Rattle.std.proofs.Common.{List, drop, flat_map}
use Rattle.bi_fdt.specs.Views.{node_of}
use Rattle.bi_fit.specs.declared.key.Key.{Key}
use Rattle.bi_fit.specs.HashNodes.{file_listed}
use Rattle.bi_fit.specs.Names.{all_keys}
use Rattle.bi_common.specs.Lines.{Line}
use Rattle.bi_common.specs.LineTokens.{tokens_of_lines}
use Rattle.bi_report.specs.FitListing.{key_lines}
use Rattle.bi_report.proofs.PutInTurn.{IsPutBefore}
use Rattle.bi_report.proofs.list.configurations.put_keys_lines.Given as goal

-- The lines of the keys that are left follow those that were put.
abbrev pub invariant-loop-key : goal.invariant-loop-key
invariant-loop-key g l =
    let entry = node_of l.fn.node in
    let lines : Key → List Line = λ key. key_lines entry.name key (file_listed l.fn.fit.images entry key) in
    IsPutBefore g.L.LinePen.puts l.initial.pen l.pen (tokens_of_lines (flat_map lines (drop l.key-index all_keys)))
    (tokens_of_lines (flat_map lines all_keys))
