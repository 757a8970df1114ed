use Rattle.std.proofs.Common.{[], sym}
use Rattle.bi_fit.specs.NormalNodes.{begin_events}
use Rattle.bi_fit.proofs.AddedEvents.{with_events-none, may_begin, may_end}
use Rattle.bi_fit.proofs.document.nodes.add_leaf.Goals as goal

pub begin_with-requires-clause-may : goal.begin_with-requires-clause-may
begin_with-requires-clause-may c = may_begin c.args.doc.now (begin_events c.args.name.now c.args.properties.now.by_name) [] c.requires.may

pub end-requires : goal.end-requires
end-requires c =
    may_end c.args.doc.now (begin_events c.args.name.now c.args.properties.now.by_name) [] c.begin_with.new.doc c.begin_with.new.doc
    c.in_ok-begin_with.ensures.added (sym (with_events-none c.begin_with.new.doc)) c.requires.may
