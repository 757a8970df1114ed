use Rattle.std.proofs.Common.{ap, flat_map, map, refl}
use Rattle.bi_fit.specs.Judgement.{listed_names}
use Rattle.bi_common.specs.Lines.{Name}
use Rattle.bi_common.specs.LineTokens.{one_field}
use Rattle.bi_report.proofs.PutInTurn.{put_begins, put_ends, put_goes_on}
use Rattle.bi_report.proofs.list.configurations.put_names.Goals as goal

pub loop-name-init : goal.loop-name-init
loop-name-init g c = put_begins g.L.LinePen.puts g.met.L.LinePen.puts_nothing c.args.pen.now _ _ refl

pub loop-name-preserved : goal.loop-name-preserved
loop-name-preserved g c =
    put_goes_on g.L.LinePen.puts g.met.L.LinePen.puts_in_turn c.args.pen.now c.loop-name.pen c.put_word.new.self
    (one_field (Name c.in-Some.name.now)) (flat_map one_field (map Name (listed_names c.in-Some.later.now))) _ _ c.loop-name.invariant
    (ap (λ names. flat_map one_field (map Name names)) c.in-Some.ensures.listed) c.put_word.ensures

pub returns : goal.returns
returns g c =
    put_ends g.L.LinePen.puts c.args.pen.now c.loop-name.pen _ _ c.loop-name.invariant
    (ap (λ names. flat_map one_field (map Name names)) c.in_default.ensures)
