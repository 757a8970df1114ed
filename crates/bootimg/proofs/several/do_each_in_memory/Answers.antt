use Rattle.std.proofs.Common.{Some, ◌∙◌, ap, rules, sym}
use Rattle.bootimg.proofs.SameStreams.{done_in_turn_keeps}
use Rattle.bootimg.proofs.several.do_each_in_memory.Goals as goal

pub returns-clause-held : goal.returns-clause-held
returns-clause-held g c =
    let done = c.do_each-status.ensures.done in
    let keeps = done_in_turn_keeps _ c.args.hints c.args.request.now _ _ done.outcomes _ _ done.in_turn in
    let writer = sym c.new-memory.ensures.same_writer ∙ sym keeps.writer in
    record {
      memory = _;
      new_memory = _;
      empty = c.new-memory.ensures.contents ∙ ap (λ items. Some items) c.new-bytes.ensures.items;
      writes_well = c.new-memory.ensures.well;
      holds = search rules;
      done = done;
    }
