use Rattle.std.proofs.Common.{◌≡◌, ℕ, List, [], ◌++◌, append-nil, sym, ap, ◌∙◌, Result, Ok, Err}
use Rattle.bi_base.specs.declared.fault.Error.{Error}
use Rattle.bi_base.specs.BufferedSinks.{Buffer, Holds, Stops}
use Rattle.bi_base.specs.Sinks.{Wrote}
use Rattle.bi_base.specs.Writing.{WroteAll, WriteStopped}

-- A call that writes what a buffer held and more bytes to its writer, and leaves the buffer empty, writes these bytes to the buffer.

-- If what was in the buffer and these bytes were written, the buffer is empty.
pub wrote_through : (old new : Buffer) (bytes : List ℕ) (result : Result (Unit {0}) Error) →
    Wrote WroteAll WriteStopped old.trace (old.held ++ bytes) result new.trace → new.held ≡ [] → new.borrow ≡ old.borrow →
    Wrote Holds Stops old bytes result new
wrote_through old new bytes (Ok done) wrote none same = record {
  written = old.held ++ bytes;
  wrote = wrote;
  all = sym (append-nil (old.held ++ bytes)) ∙ ap (λ l. (old.held ++ bytes) ++ l) (sym none);
  same_borrow = same;
}
wrote_through old new bytes (Err error) stopped none same = record { stopped = stopped; same_borrow = same }
