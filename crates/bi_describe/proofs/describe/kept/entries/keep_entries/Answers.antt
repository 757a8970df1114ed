use Rattle.std.proofs.Common.{◌≡◌, ◌≤◌, ◌+◌, ◌++◌, [], drop, take, length, map, sym, ap, subst, ◌∙◌, arith, append_assoc, append-nil}
use Rattle.std.proofs.lemmas.List.{drop_all}
use Rattle.bi_common.specs.MadeFields.{bytes_of_names}
use Rattle.bi_describe.specs.KeptEntries.{kept_entries, kept_entry, skipped_after}
use Rattle.bi_describe.specs.MadeWords.{ignored_words}
use Rattle.bi_describe.specs.TreeEntries.{EntryModel, as_entry, count_after, most_open, open_after}
use Rattle.bi_describe.proofs.EntryLines.{entries_from, open_at_first}
use Rattle.bi_describe.proofs.KeptNodes.{entry_next, skipped_few}
use Rattle.bi_describe.proofs.describe.kept.entries.keep_entries.Goals as goal

pub open_after-open-requires-clause-fits : goal.open_after-open-requires-clause-fits
open_after-open-requires-clause-fits c =
    omega (
      arith,
      c.loop-entry.invariant.room,
      open_at_first c.loop-entry.open (map as_entry (drop c.loop-entry.entry-index c.args.entries.now)),
    )

pub open_after-open-requires-clause-room : goal.open_after-open-requires-clause-room
open_after-open-requires-clause-room c =
    let entries = c.args.entries.now in
    let i = c.loop-entry.entry-index in
    let entry = as_entry c.entry-item.result in
    let left = map as_entry (drop (i + 1) entries) in
    let room = subst (λ left. most_open c.loop-entry.open left ≤ length c.loop-entry.names)
    (entries_from entries i c.entry-item.result c.entry-item.is c.loop-entry-test.true) c.loop-entry.invariant.room in
    omega (arith, room, open_at_first (count_after c.loop-entry.open entry) left)

pub loop-entry-preserved : goal.loop-entry-preserved
loop-entry-preserved c =
    let entries = c.args.entries.now in
    let i = c.loop-entry.entry-index in
    let entry = as_entry c.entry-item.result in
    let later = map as_entry (drop (i + 1) entries) in
    let words = ignored_words c.args.words.now in
    let names = bytes_of_names (take c.loop-entry.open c.loop-entry.names) in
    let from = entries_from entries i c.entry-item.result c.entry-item.is c.loop-entry-test.true in
    let room = subst (λ left. most_open c.loop-entry.open left ≤ length c.loop-entry.names) from c.loop-entry.invariant.room in
    let all = map as_entry c.args.kept.now.items ++ kept_entries words [] 0 (map as_entry entries) in
    record {
      room = rw (c.open_after-open.ensures.counted, c.open_after-open.ensures.room) (omega (arith, room));
      small = omega (
        arith,
        c.skipped_after-skipped.ensures,
        skipped_few words (bytes_of_names (take c.open_after-open.result c.open_after-open.new.names)) c.loop-entry.skipped entry,
      );
      left = entry_next words names _ c.loop-entry.skipped c.skipped_after-skipped.result entry later
          (map as_entry c.loop-entry.kept.items) (map as_entry c.push_if_kept.new.kept.items) all
          c.open_after-open.ensures.names c.in_ok-push_if_kept.ensures c.skipped_after-skipped.ensures
          (subst (λ left. map as_entry c.loop-entry.kept.items ++ kept_entries words names c.loop-entry.skipped left ≡ all) from
          c.loop-entry.invariant.left);
    }

pub returns : goal.returns
returns c =
    let kept = map as_entry c.loop-entry.kept.items in
    let words = ignored_words c.args.words.now in
    let names = bytes_of_names (take c.loop-entry.open c.loop-entry.names) in
    sym (append-nil kept)
    ∙ ap (λ left. kept ++ kept_entries words names c.loop-entry.skipped (map as_entry left))
    (sym (drop_all c.loop-entry.entry-index c.args.entries.now c.loop-entry-test.false))
    ∙ c.loop-entry.invariant.left
