use Rattle.std.proofs.Common.{◌≤◌, ◌+◌, ◌++◌, drop, take, length, map, sym, subst, ◌∙◌, arith}
use Rattle.std.proofs.lemmas.List.{drop_all}
use Rattle.bi_common.specs.LineTokens.{tokens_of_lines}
use Rattle.bi_common.specs.MadeFields.{bytes_of_names}
use Rattle.bi_describe.specs.DeepDescriptions.{lines_with_inside}
use Rattle.bi_describe.specs.MadeInsides.{shown_by}
use Rattle.bi_describe.specs.TreeEntries.{as_entry, count_after, most_open, entry_lines, lines_of_entry, open_after}
use Rattle.bi_describe.proofs.DeepFacts.{deep_tokens-append}
use Rattle.bi_describe.proofs.EntryLines.{entries_from, open_at_first}
use Rattle.bi_describe.proofs.describe.deep.put_entries_with_inside.Goals as goal

pub open_after-open-requires-clause-fits : goal.open_after-open-requires-clause-fits
open_after-open-requires-clause-fits g c =
    omega (
      arith,
      c.loop-entry.invariant.room,
      open_at_first c.loop-entry.open (map as_entry (drop c.loop-entry.entry-index c.args.entries.now)),
    )

pub open_after-open-requires-clause-room : goal.open_after-open-requires-clause-room
open_after-open-requires-clause-room g c =
    let entries = c.args.entries.now in
    let i = c.loop-entry.entry-index in
    let entry = as_entry c.entry-item.result in
    let left = map as_entry (drop (i + 1) entries) in
    let room = subst (λ left. most_open c.loop-entry.open left ≤ length c.loop-entry.names)
    (entries_from entries i c.entry-item.result c.entry-item.is c.loop-entry-test.true) c.loop-entry.invariant.room in
    omega (arith, room, open_at_first (count_after c.loop-entry.open entry) left)

pub loop-entry-preserved : goal.loop-entry-preserved
loop-entry-preserved g c =
    let entries = c.args.entries.now in
    let i = c.loop-entry.entry-index in
    let entry = as_entry c.entry-item.result in
    let left = map as_entry (drop (i + 1) entries) in
    let names = bytes_of_names (take c.loop-entry.open c.loop-entry.names) in
    let room = subst (λ left. most_open c.loop-entry.open left ≤ length c.loop-entry.names)
    (entries_from entries i c.entry-item.result c.entry-item.is c.loop-entry-test.true) c.loop-entry.invariant.room in
    let puts = g.L.LinePen.puts in
    record {
      same_length = c.open_after-open.ensures.room ∙ c.loop-entry.invariant.same_length;
      room = rw (c.open_after-open.ensures.counted, c.open_after-open.ensures.room) (omega (arith, room));
      held = λ trees held. c.put_entry_with_inside.ensures.same trees (c.loop-entry.invariant.held trees held);
      written = λ trees held new rest.
          let shown = shown_by trees c.args.opened.now in
          c.loop-entry.invariant.written trees held new
          (subst (λ entries. puts c.loop-entry.pen (tokens_of_lines (lines_with_inside shown (entry_lines names entries))) new)
          (sym (entries_from entries i c.entry-item.result c.entry-item.is c.loop-entry-test.true))
          (subst (λ tokens. puts c.loop-entry.pen tokens new)
          (sym (deep_tokens-append shown (lines_of_entry (open_after names entry) entry) (entry_lines (open_after names entry) left)))
          (subst (λ those. puts c.loop-entry.pen
          (tokens_of_lines (lines_with_inside shown (lines_of_entry those entry))
          ++ tokens_of_lines (lines_with_inside shown (entry_lines those left))) new) c.open_after-open.ensures.names
          (g.met.L.LinePen.puts_in_turn _ _ _ _ _
          (c.put_entry_with_inside.ensures.put trees (c.loop-entry.invariant.held trees held)) rest))));
    }

pub returns-clause-put : goal.returns-clause-put
returns-clause-put g c trees held =
    c.loop-entry.invariant.written trees held _
    (subst (λ left. g.L.LinePen.puts c.loop-entry.pen
    (tokens_of_lines (lines_with_inside (shown_by trees c.args.opened.now)
    (entry_lines (bytes_of_names (take c.loop-entry.open c.loop-entry.names)) (map as_entry left)))) c.loop-entry.pen)
    (sym (drop_all c.loop-entry.entry-index c.args.entries.now c.loop-entry-test.false))
    (g.met.L.LinePen.puts_nothing _))
