use Rattle.std.proofs.Common.{◌+◌, ◌++◌, drop, map, sym, subst}
use Rattle.std.proofs.lemmas.List.{drop_all}
use Rattle.bi_describe.specs.DeepEntries.{deep_entry_tokens, entry_tokens_with}
use Rattle.bi_describe.specs.TreeEntries.{as_entry}
use Rattle.bi_describe.proofs.EntryLines.{entries_from}
use Rattle.bi_describe.proofs.describe.deep.put_entries.Goals as goal

pub loop-entry-preserved : goal.loop-entry-preserved
loop-entry-preserved g c = λ trees held new rest.
    let puts = g.J.JsonPen.puts in
    let entries = c.args.entries.now in
    let i = c.loop-entry.entry-index in
    let entry = as_entry c.entry-item.result in
    let left = map as_entry (drop (i + 1) entries) in
    c.loop-entry.invariant trees held new
    (subst (λ entries. puts c.loop-entry.json (deep_entry_tokens trees c.loop-entry.last.now entries) new)
    (sym (entries_from entries i c.entry-item.result c.entry-item.is c.loop-entry-test.true))
    (subst (λ last. puts c.loop-entry.json
    (entry_tokens_with trees c.loop-entry.last.now entry ++ deep_entry_tokens trees last left) new) c.put_entry_object-last.ensures.last
    (g.met.J.JsonPen.puts_in_turn _ _ _ _ _ (c.put_entry_object-last.ensures.put trees held) rest)))

pub returns : goal.returns
returns g c = λ trees held.
    c.loop-entry.invariant trees held _
    (subst (λ left. g.J.JsonPen.puts c.loop-entry.json (deep_entry_tokens trees c.loop-entry.last.now (map as_entry left))
    c.loop-entry.json)
    (sym (drop_all c.loop-entry.entry-index c.args.entries.now c.loop-entry-test.false))
    (g.met.J.JsonPen.puts_nothing _))
