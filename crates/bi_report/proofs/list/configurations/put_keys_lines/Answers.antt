use Rattle.std.proofs.Common.{◌+◌, List, ap, drop, flat_map, get_or, refl, ◌∙◌}
use Rattle.std.proofs.lemmas.Grind.{flat_map-append}
use Rattle.std.proofs.lemmas.List.{drop_all, drop_more}
use Rattle.bi_fdt.specs.Views.{node_of}
use Rattle.bi_fit.specs.declared.key.Key.{Key}
use Rattle.bi_fit.specs.declared.key.Key.TheVariants.{Kernel}
use Rattle.bi_fit.specs.HashNodes.{file_listed}
use Rattle.bi_fit.specs.Names.{all_keys}
use Rattle.bi_common.specs.Lines.{Line}
use Rattle.bi_common.specs.LineTokens.{line_tokens, tokens_of_lines}
use Rattle.bi_report.specs.FitListing.{key_lines}
use Rattle.bi_report.proofs.PutInTurn.{put_begins, put_ends, put_goes_on}
use Rattle.bi_report.proofs.list.configurations.put_keys_lines.Goals as goal

pub loop-key-init : goal.loop-key-init
loop-key-init g c = put_begins g.L.LinePen.puts g.met.L.LinePen.puts_nothing c.args.pen.now _ _ refl

pub loop-key-preserved : goal.loop-key-preserved
loop-key-preserved g c =
    let entry = node_of c.args.node in
    let index = c.loop-key.key-index in
    let lines : Key → List Line = λ key. key_lines entry.name key (file_listed c.args.fit.now.images entry key) in
    put_goes_on g.L.LinePen.puts g.met.L.LinePen.puts_in_turn c.args.pen.now c.loop-key.pen c.put_key_line.new.pen
    (tokens_of_lines (lines (get_or all_keys index Kernel))) (tokens_of_lines (flat_map lines (drop (index + 1) all_keys))) _ _
    c.loop-key.invariant
    (ap (λ keys. tokens_of_lines (flat_map lines keys)) (drop_more all_keys index Kernel c.loop-key-test.true)
    ∙ flat_map-append line_tokens (lines (get_or all_keys index Kernel)) _)
    (rw c.name.ensures at (c.put_key_line.ensures (file_listed c.args.fit.now.images entry (get_or all_keys index Kernel))
    c.listed_under.ensures))

pub returns : goal.returns
returns g c =
    let entry = node_of c.args.node in
    put_ends g.L.LinePen.puts c.args.pen.now c.loop-key.pen _ _ c.loop-key.invariant
    (ap (λ keys. tokens_of_lines (flat_map (λ key. key_lines entry.name key (file_listed c.args.fit.now.images entry key)) keys))
    (drop_all c.loop-key.key-index all_keys c.loop-key-test.false))
