use Rattle.std.proofs.Common.{[], map, subst}
use Rattle.bi_describe.specs.DeepEntries.{deep_entry_tokens}
use Rattle.bi_describe.specs.TreeEntries.{as_entry}
use Rattle.bi_describe.proofs.DeepTokens.{tokens_of_fit}
use Rattle.bi_describe.proofs.describe.deep.put_fit_object.Goals as goal

pub returns : goal.returns
returns g c = λ tree trees holds held.
    let puts = g.J.JsonPen.puts in
    let then = g.met.J.JsonPen.puts_in_turn in
    let fit = c.args.fit.now in
    subst (λ tokens. puts c.args.json.now tokens c.put-4.new.self)
    (tokens_of_fit trees tree fit.blob.now.cpu fit.blob.now.reservations (map as_entry fit.entries.items) holds.cpu holds.reservations
    holds.entries)
    (then _ _ _ _ _ c.put.ensures (then _ _ _ _ _ c.put_processor_members.ensures
    (then _ _ _ _ _ c.put_reservations_member.ensures (then _ _ _ _ _ c.put-2.ensures (then _ _ _ _ _ c.put-3.ensures
    (then _ _ _ _ _ (subst (λ entries. puts c.put-3.new.self (deep_entry_tokens trees [] (map as_entry entries)) c.put_entries.new.json)
    c.deref.ensures.value (c.put_entries.ensures trees held))
    (then _ _ _ _ _ c.put_end.ensures c.put-4.ensures)))))))
