use Rattle.std.proofs.Common.{◌≡◌, ◌++◌, ◌∙◌, ℕ, Bool, false, true, List, [], Result, Ok, Err, is_err, ap, append-nil, subst, sym}
use Rattle.std.proofs.lemmas.List.{append_assoc}
use Rattle.bi_base.specs.declared.fault.Error.{Error}
use Rattle.bi_base.specs.Sinks.{Wrote}
use Rattle.bi_base.specs.Traces.{WriteTrace}
use Rattle.bi_base.specs.Writing.{WroteAll, WriteStopped}
use Rattle.bi_base.specs.BufferedSinks.{wrote_nothing, wrote_in_turn, stopped_after}
use Rattle.bootimg.specs.ErrorLines.{LineState, IsSent, SendsMore, LineHas, Extends}
use Rattle.bootimg.specs.Runs.{Logs, IsLogged, HasStopped}

-- A line that was written is sent after all that was sent before it, or that fails.

-- If no write has failed, the bytes are written after all that were sent before, or that fails.
pub sends_by_writing : (old new : WriteTrace) (bytes : List ℕ) (result : Result (Unit {0}) Error)
    → Wrote WroteAll WriteStopped old bytes result new → SendsMore false old bytes (is_err result) new
sends_by_writing old new bytes (Ok done) wrote begin before is = wrote_in_turn begin old new before bytes is wrote
sends_by_writing old new bytes (Err error) stopped begin before is =
    (error, stopped_after begin old new before bytes error is stopped)

-- A line that is extended twice.
pub extends_twice : (one two three : LineState) (first second : List ℕ) → Extends one first two → Extends two second three
    → Extends one (first ++ second) three
extends_twice one two three first second before after = record {
  extends = λ begin bytes has. subst (λ l. LineHas begin l three) (append_assoc bytes first second)
      (after.extends begin (bytes ++ first) (before.extends begin bytes has));
  same_borrow = after.same_borrow ∙ before.same_borrow;
}

-- All bytes that a line has are logged once none are held back.
sent_is_logged : (has_failed : Bool) (old new : WriteTrace) (bytes : List ℕ) → IsSent has_failed old bytes new → Logs old bytes new
sent_is_logged false old new bytes is = IsLogged is
sent_is_logged true old new bytes is = HasStopped is.0 is.1

pub line_is_written : (begin new : WriteTrace) (first last end : LineState) (bytes : List ℕ) → first.trace ≡ begin → first.held ≡ []
    → first.has_failed ≡ false → Extends first bytes last → Extends last [] end → end.held ≡ [] → end.trace ≡ new
    → Logs begin bytes new
line_is_written begin new first last end bytes same_trace none not_failed extends ends none_left same_end =
    let is_empty : LineHas begin [] first = record {
      sent = [];
      is_sent = subst (λ trace. IsSent first.has_failed begin [] trace) (sym same_trace)
          (subst (λ flag. IsSent flag begin [] begin) (sym not_failed) (wrote_nothing begin));
      all = sym none;
    } in
    let has = ends.extends begin bytes (extends.extends begin [] is_empty) in
    let is_all : has.sent ≡ bytes = sym (sym (append-nil bytes) ∙ has.all ∙ ap (λ l. has.sent ++ l) none_left ∙ append-nil has.sent) in
    subst (λ trace. Logs begin bytes trace) same_end
    (subst (λ l. Logs begin l end.trace) is_all (sent_is_logged end.has_failed begin end.trace has.sent has.is_sent))
