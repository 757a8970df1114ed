use Rattle.std.proofs.Common.{flat_map, take}
use Rattle.bootimg.specs.CommandLine.{texts_of}
use Rattle.bootimg.specs.ErrorLines.{Extends, line_of}
use Rattle.bootimg.specs.Hints.{after_comma}
use Rattle.bootimg.proofs.hints.put_later_names.Given as goal

-- The names before this one were appended.
abbrev pub invariant-loop-name : goal.invariant-loop-name
invariant-loop-name g l =
    let trace = g.T.TracedWrite.trace in
    Extends (line_of trace l.initial.line) (flat_map after_comma (texts_of (take l.name-index l.names))) (line_of trace l.line)
