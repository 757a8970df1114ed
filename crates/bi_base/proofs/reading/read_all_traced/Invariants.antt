use Rattle.std.proofs.Common.{◌≡◌, ◌≤◌, ◌-◌, ◌+◌, length, vec_len}
use Rattle.std.specs.Io.KnownBytes.{Consumes}
use Rattle.bi_base.specs.Traces.{ReadsWell}
use Rattle.bi_base.proofs.reading.read_all_traced.Given as goal

-- What was read is held, and it is within the limit.
abbrev pub invariant-loop-bytes : goal.invariant-loop-bytes
invariant-loop-bytes g l =
    let old = g.S.TracedRead.trace l.initial.source in
    let new = g.S.TracedRead.trace l.source in
    record {
      room : length l.chunk ≡ 65536;
      within : vec_len l.bytes ≤ l.fn.limits.file;
      consumed : Consumes old.remaining new.remaining l.bytes.items;
      counted : new.taken ≤ old.taken + vec_len l.bytes;
      no_failure_ignored : ReadsWell old → ReadsWell new;
      same_reader : new.reader ≡ old.reader;
    }

-- How many more bytes the limit allows.
abbrev pub decreases-loop-bytes : goal.decreases-loop-bytes
decreases-loop-bytes g l = l.most - vec_len l.bytes
