use Rattle.std.proofs.Common.{◌≡◌, take}
use Rattle.bootimg.proofs.DoneImages.{HaveBeenDone}
use Rattle.bootimg.proofs.several.do_each.Given as goal

-- The images so far were done, and the status is the greatest.
abbrev pub invariant-loop-source : goal.invariant-loop-source
invariant-loop-source g l =
    HaveBeenDone (g.F.FileSystem.known l.initial.files) l.plan.hints l.plan.request.now l.plan.is_held (take l.source-index l.sources)
    (record {
      input = g.S.TracedRead.trace l.initial.input;
      output = g.T.TracedWrite.trace l.initial.output;
      errors = g.E.TracedWrite.trace l.initial.errors;
      steps = g.F.FileSystem.steps l.initial.files;
    })
    (record {
      input = g.S.TracedRead.trace l.input;
      output = g.T.TracedWrite.trace l.output;
      errors = g.E.TracedWrite.trace l.errors;
      steps = g.F.FileSystem.steps l.files;
    })
    l.status
    × (g.F.FileSystem.known l.files ≡ g.F.FileSystem.known l.initial.files)
