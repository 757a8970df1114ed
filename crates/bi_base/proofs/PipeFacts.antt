use Rattle.std.proofs.Common.{◌≡◌, ℕ, zero, suc, ◌++◌, List, [], ◌∷◌, codes, length, take, refl, sym, ap, ◌∙◌}
use Rattle.std.proofs.Common.{lit≤, lit<, inl, inr, length-append, length-take, true≢false, arith}
use Rattle.bi_base.specs.Commands.{OfCommand, InputTooLong, NoMemory, NoRead, NoWrite, PipeError, WasRefused, SinkFailed}
use Rattle.bi_base.specs.KnownPipes.{AppendsAreKnown, NotAdded, RunsAreKnown, TracedRunsAreKnown, three_bytes, twice}
use Rattle.bi_base.specs.Reading.{too_large}
use Rattle.bi_base.specs.declared.fault.Error.{Error}
use Rattle.bi_base.specs.declared.fault.Error.TheVariants.{Refused, OutOfMemory, WriteFailed}

-- What runs of a small command may do, and what they may not.

-- These errors have no cause.
abbrev offset_of : Error → ℕ
offset_of (Refused fault) = fault.offset
offset_of error = 0

no_refusal : (input : List ℕ) → codes "ab" ≡ input → ¬ (PipeError twice three_bytes input (Refused (too_large 0)))
no_refusal input is (OfCommand both) = omega (arith, ap length is, ap length both.0)
no_refusal input is (InputTooLong long same) = omega (arith, ap offset_of same)
no_refusal input is (NoMemory same) = absurd cc
no_refusal input is (NoRead same) = absurd cc
no_refusal input is (NoWrite same) = absurd cc

not_longer : (input : List ℕ) → codes "abc" ≡ input → ¬ (PipeError twice three_bytes input (Refused (too_large 3)))
not_longer input is (OfCommand both) = omega (arith, ap length is, ap length both.0)
not_longer input is (InputTooLong long same) = omega (arith, ap length is, long)
not_longer input is (NoMemory same) = absurd cc
not_longer input is (NoRead same) = absurd cc
not_longer input is (NoWrite same) = absurd cc

-- The second of some bytes.
abbrev second : List ℕ → ℕ
second (one ∷ other ∷ later) = other
second bytes = 0

-- No first bytes of `abab` are these.
no_part : (count : ℕ) (output : List ℕ) → output ≡ codes "abab" → ¬ (codes "xb" ≡ codes "x" ++ take count output)
no_part count output is same = by count (same ∙ ap (λ bytes. codes "x" ++ take count bytes) is)
  where
    by : (count : ℕ) → ¬ (codes "xb" ≡ codes "x" ++ take count (codes "abab"))
    by zero e = omega (arith, ap second e)
    by (suc count) e = omega (arith, ap second e)

pub runs_are_known : RunsAreKnown
runs_are_known = record {
  done = record {
    done = record {
      input = codes "ab";
      output = codes "abab";
      read = record { is_input = refl; consumed = refl; ended = refl };
      written = refl;
      is_output = refl;
    };
    failed = tt;
    takes_at_most_one_byte_more = (codes "ab", lit≤ tt, refl);
  };
  not_read = λ r. let e = r.done.read.ended in absurd cc;
  not_written = λ r. omega (
    arith,
    ap length r.done.written,
    ap length r.done.is_output,
    ap length r.done.read.is_input,
    length-append r.done.input r.done.input,
  );
  other_output = λ r. omega (
    arith,
    ap length r.done.written,
    ap length r.done.is_output,
    ap length r.done.read.is_input,
    length-append r.done.input r.done.input,
  );
  replaced = λ r. let e = r.done.written in absurd cc;
  empty_done = λ r. omega (
    arith,
    ap length r.done.written,
    ap length r.done.is_output,
    ap length r.done.read.is_input,
    length-append r.done.input r.done.input,
  );
  refused = record {
    done = tt;
    failed = record {
      input = [];
      is_input = refl;
      has_error = OfCommand (refl, refl);
      prefix = λ e. absurd cc;
      else_nothing = λ _. refl;
    };
    takes_at_most_one_byte_more = ([], lit≤ tt, refl);
  };
  not_refused = λ r. no_refusal r.failed.input r.failed.is_input r.failed.has_error;
  too_long = record {
    done = tt;
    failed = record {
      input = codes "abcde";
      is_input = refl;
      has_error = InputTooLong (lit< tt) refl;
      prefix = λ e. absurd cc;
      else_nothing = λ _. refl;
    };
    takes_at_most_one_byte_more = (codes "abcd", lit≤ tt, refl);
  };
  not_too_long = λ r. not_longer r.failed.input r.failed.is_input r.failed.has_error;
  all_read = λ r.
      let taken = r.takes_at_most_one_byte_more in
      omega (arith, taken.1, ap length taken.2, length-append taken.0 []);
  after_refusal = λ r. let e = r.failed.else_nothing (λ e. absurd cc) in absurd cc;
  no_memory = record {
    done = tt;
    failed = record {
      input = codes "ab";
      is_input = refl;
      has_error = NoMemory refl;
      prefix = λ e. absurd cc;
      else_nothing = λ _. refl;
    };
    takes_at_most_one_byte_more = (codes "a", lit≤ tt, refl);
  };
  after_no_memory = λ r. let e = r.failed.else_nothing (λ e. absurd cc) in absurd cc;
  no_read = record {
    done = tt;
    failed = record {
      input = codes "ab";
      is_input = refl;
      has_error = NoRead refl;
      prefix = λ e. absurd cc;
      else_nothing = λ _. refl;
    };
    takes_at_most_one_byte_more = (codes "a", lit≤ tt, refl);
  };
  after_no_read = λ r. let e = r.failed.else_nothing (λ e. absurd cc) in absurd cc;
  no_write = record {
    done = tt;
    failed = record {
      input = codes "ab";
      is_input = refl;
      has_error = NoWrite refl;
      prefix = λ _. record {
        input = codes "ab";
        output = codes "abab";
        count = 3;
        read = record { is_input = refl; consumed = refl; ended = refl };
        within = lit≤ tt;
        written = refl;
        whole = λ no. absurd no;
        is_output = refl;
      };
      else_nothing = λ no. absurd (no refl);
    };
    takes_at_most_one_byte_more = (codes "ab", lit≤ tt, refl);
  };
  other_part = λ r.
      let part = r.failed.prefix refl in
      no_part part.count part.output (part.is_output ∙ ap (λ input. input ++ input) (sym part.read.is_input)) part.written;
  part_of_unread = λ r. let e = (r.failed.prefix refl).read.ended in absurd cc;
}

pub traced_runs_are_known : TracedRunsAreKnown
traced_runs_are_known = record {
  done = λ r w. record {
    done = record {
      moved = record {
        input = codes "ab";
        output = codes "abab";
        read = record { is_input = refl; consumed = refl; ended = refl };
        written = refl;
        is_output = refl;
      };
      flushed = record { flushing = refl; not_failed = refl; not_interrupted = refl };
    };
    failed = tt;
    takes_at_most_one_byte_more = record { known = (codes "ab", lit≤ tt, refl); counted = lit≤ tt };
    no_failed_read_ignored = λ well _. record { not_stopped = refl; not_interrupted = refl };
    no_failed_write_ignored = λ well _. record { not_stopped = refl; not_interrupted = refl };
    same_streams = record { same_reader = refl; same_writer = refl };
  };
  not_flushed = λ r w ran. true≢false (sym ran.done.flushed.flushing);
  failed_read_ignored = λ r w ran.
      let well = ran.no_failed_read_ignored (record { not_stopped = refl; not_interrupted = refl }) (λ is. absurd cc) in
      true≢false well.not_stopped;
  failed_write_ignored = λ r w ran.
      let well = ran.no_failed_write_ignored (record { not_stopped = refl; not_interrupted = refl }) (λ is. absurd cc) in
      true≢false well.not_stopped;
  all_counted = λ r w ran. omega (arith, ran.takes_at_most_one_byte_more.counted);
  no_read = λ r w. record {
    done = tt;
    failed = record {
      failed = record {
        input = codes "ab";
        is_input = refl;
        has_error = NoRead refl;
        prefix = λ e. absurd cc;
        else_nothing = λ _. refl;
      };
      why_read_failed = λ _. inl refl;
      why_write_failed = λ e. absurd cc;
    };
    takes_at_most_one_byte_more = record { known = (codes "a", lit≤ tt, refl); counted = lit≤ tt };
    no_failed_read_ignored = λ well no. absurd (no refl);
    no_failed_write_ignored = λ well _. record { not_stopped = refl; not_interrupted = refl };
    same_streams = record { same_reader = refl; same_writer = refl };
  };
  no_failed_read = λ r w ran.
      elim (ran.failed.why_read_failed refl) [ inl is ↦ true≢false (sym is) | inr many ↦ omega (arith, many) ];
  no_write = λ r w. record {
    done = tt;
    failed = record {
      failed = record {
        input = codes "ab";
        is_input = refl;
        has_error = NoWrite refl;
        prefix = λ _. record {
          input = codes "ab";
          output = codes "abab";
          count = 2;
          read = record { is_input = refl; consumed = refl; ended = refl };
          within = lit≤ tt;
          written = refl;
          whole = λ is. absurd (true≢false (sym is));
          is_output = refl;
        };
        else_nothing = λ no. absurd (no refl);
      };
      why_read_failed = λ e. absurd cc;
      why_write_failed = λ _. inl (inl refl);
    };
    takes_at_most_one_byte_more = record { known = (codes "ab", lit≤ tt, refl); counted = lit≤ tt };
    no_failed_read_ignored = λ well _. record { not_stopped = refl; not_interrupted = refl };
    no_failed_write_ignored = λ well no. absurd (no refl);
    same_streams = record { same_reader = refl; same_writer = refl };
  };
  no_failed_write = λ r w ran.
      elim (ran.failed.why_write_failed refl) [
        | inl must ↦ elim must [ inl is ↦ true≢false (sym is) | inr many ↦ omega (arith, many) ]
        | inr is ↦ true≢false (sym is)
      ];
  no_flush = λ r w. record {
    done = tt;
    failed = record {
      failed = record {
        input = codes "ab";
        is_input = refl;
        has_error = NoWrite refl;
        prefix = λ _. record {
          input = codes "ab";
          output = codes "abab";
          count = 4;
          read = record { is_input = refl; consumed = refl; ended = refl };
          within = lit≤ tt;
          written = refl;
          whole = λ _. refl;
          is_output = refl;
        };
        else_nothing = λ no. absurd (no refl);
      };
      why_read_failed = λ e. absurd cc;
      why_write_failed = λ _. inl (inl refl);
    };
    takes_at_most_one_byte_more = record { known = (codes "ab", lit≤ tt, refl); counted = lit≤ tt };
    no_failed_read_ignored = λ well _. record { not_stopped = refl; not_interrupted = refl };
    no_failed_write_ignored = λ well no. absurd (no refl);
    same_streams = record { same_reader = refl; same_writer = refl };
  };
  part_flushed = λ r w ran.
      let part = ran.failed.failed.prefix refl in
      omega (
        arith,
        part.whole refl,
        ap length part.written,
        length-take part.count part.output,
        ap length part.is_output,
        ap length part.read.is_input,
        length-append part.input part.input,
      );
}

pub appends_are_known : AppendsAreKnown
appends_are_known = record {
  added = record { text = codes "ab"; is_text = refl; appended = refl };
  not_added = λ is. omega (arith, ap length is.appended, ap length is.is_text);
  refused = WasRefused refl refl;
  after_refusal = by_refusal;
  no_memory = SinkFailed (codes "ab") OutOfMemory refl ((1, lit≤ tt, refl), refl) refl;
  other_error = by_error;
}
  where
    by_refusal : ¬ (NotAdded (codes "x") (codes "xa") (Refused (too_large 3)))
    by_refusal (WasRefused is kept) = absurd cc
    by_refusal (SinkFailed text cause is failed same) = let no_memory = failed.1 in absurd cc

    by_error : ¬ (NotAdded (codes "x") (codes "x") WriteFailed)
    by_error (WasRefused is kept) = absurd cc
    by_error (SinkFailed text cause is failed same) = let no_memory = failed.1 in absurd cc
