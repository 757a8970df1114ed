use Rattle.std.proofs.Common.{rules}
use Rattle.bi_fit.specs.Content.{tree_of}
use Rattle.bi_norm.specs.Meaning.{OfFit}
use Rattle.bi_fit.proofs.AppendedTexts.{wrote_none_of_kind, wrote_of_kind}
use Rattle.bi_report.specs.ReadChecking.{IsReadCheckError}
use Rattle.bi_report.specs.SignedTrees.{IsOverCheckBound}
use Rattle.bi_show.specs.ShownObjects.{IsShownFit}
use Rattle.bi_show.proofs.ShownObjects.{fit_shown}
use Rattle.bi_show.proofs.show.json.fit.append_fit.Goals as goal

pub returns-clause-appended : goal.returns-clause-appended
returns-clause-appended g c =
    let limits = c.args.limits in
    let file = c.args.file.now in
    let within : ¬ (IsOverCheckBound limits (OfFit (tree_of c.args.fit.now))) = search rules in
    wrote_of_kind g.S.Sink.appends g.S.Sink.fails (IsShownFit limits file) c.args.sink.now _ c.append_judged.result c.append_judged.new.sink
    (fit_shown limits file c.args.fit.now c.requires.read within) c.append_judged.ensures

pub returns-clause-failed : goal.returns-clause-failed
returns-clause-failed g c =
    let limits = c.args.limits in
    let file = c.args.file.now in
    let within : ¬ (IsOverCheckBound limits (OfFit (tree_of c.args.fit.now))) = search rules in
    wrote_none_of_kind g.S.Sink.appends g.S.Sink.fails (IsShownFit limits file) (IsReadCheckError limits c.args.fit.now) c.args.sink.now _
    c.append_judged.result c.append_judged.new.sink (fit_shown limits file c.args.fit.now c.requires.read within) c.append_judged.ensures
