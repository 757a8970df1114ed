use Rattle.std.specs.Prelude.{◌≡◌, ◌≤◌, ◌<◌, ◌+◌, ◌-◌, ◌⊎◌, ℕ, List, [], ◌∷◌, ◌++◌, length}
use Rattle.std.specs.Prelude.{take, drop, refl}
use Rattle.std.specs.Borrow.{MutBor}
use Rattle.std.proofs.Common.{sym, ap, ◌∙◌, inl, inr, arith, length-append, append_assoc}
use Rattle.std.proofs.Math.Seq.{take-append_seam, drop-append-add}
use Rattle.std.proofs.lemmas.Bool.{cases_lt}
use Rattle.std.proofs.lemmas.List.{length-take, length-drop, drop-drop, take-append-drop}
use Rattle.bi_base.specs.declared.fault.Error.{Error}
use Rattle.bi_base.specs.declared.fault.Error.TheVariants.{WriteFailed}
use Rattle.bi_base.specs.declared.slice_sink.SliceSink.{SliceSink}
use Rattle.bi_base.specs.SinkLaws.{prefix_after, prefix_more}
use Rattle.bi_base.specs.Sinks.{AppendsNothing, AppendsInTurn, AppendsPrefix}
use Rattle.bi_base.specs.Sinks.{FailsAfter, FailsBefore}

-- A sink that writes to a slice, as contracts see it (profile of this project).

-- The slice that a sink writes to, as the sink borrows it.
abbrev pub slice_of : SliceSink → MutBor (List ℕ)
slice_of sink = sink.bytes

-- How many bytes at the beginning of the slice were written.
abbrev pub filled_of : SliceSink → ℕ
filled_of sink = sink.filled

-- The slice has room for the bytes, and they are written after those that were. The other bytes of
-- the slice stay, and it is the same slice.
pub record SliceGrows (old : SliceSink) (bytes : List ℕ) (new : SliceSink) : Type 0 where
  pub same_slice : (slice_of new).ghost_name ≡ (slice_of old).ghost_name
  pub room : length bytes ≤ length (slice_of old).now - filled_of old
  pub is : (slice_of new).now ≡ take (filled_of old) (slice_of old).now
      ++ (bytes ++ drop (filled_of old + length bytes) (slice_of old).now)
  pub filled : filled_of new ≡ filled_of old + length bytes

-- The slice does not have room for the bytes, and a prefix of them was written.
pub record SliceFails (old : SliceSink) (bytes : List ℕ) (new : SliceSink) (error : Error) : Type 0
  where
    pub no_room : ¬ (filled_of old + length bytes ≤ length (slice_of old).now)
    pub is_prefix : AppendsPrefix SliceGrows old bytes new
    pub is_error : error ≡ WriteFailed

-- Writing nothing changes nothing.
pub slice_grows_nothing : AppendsNothing SliceGrows
slice_grows_nothing a = record {
  same_slice = refl;
  room = omega arith;
  is = sym (ap (λ (n : ℕ). take (filled_of a) (slice_of a).now ++ drop n (slice_of a).now)
      (omega arith)
      ∙ take-append-drop (filled_of a) (slice_of a).now);
  filled = omega arith;
}

-- What follows the bytes that were written to a slice, and these, after two writes in turn.
in_turn_within : (filled : ℕ) (a xs ys : List ℕ) → filled ≤ length a →
    take (filled + length xs) (take filled a ++ (xs ++ drop (filled + length xs) a))
    ++ (ys ++ drop (filled + length xs + length ys)
    (take filled a ++ (xs ++ drop (filled + length xs) a)))
    ≡ take filled a ++ ((xs ++ ys) ++ drop (filled + length (xs ++ ys)) a)
in_turn_within filled a xs ys within =
    let before = take filled a ++ xs in
    let rest = drop (filled + length xs) a in
    let size : length before ≡ filled + length xs =
    length-append (take filled a) xs ∙ omega (arith, length-take filled a, within) in
    let whole : take filled a ++ (xs ++ rest) ≡ before ++ rest =
    sym (append_assoc (take filled a) xs rest) in
    let begins : take (filled + length xs) (take filled a ++ (xs ++ rest)) ≡ before =
    ap (λ (l : List ℕ). take (filled + length xs) l) whole
    ∙ ap (λ (n : ℕ). take n (before ++ rest)) (sym size) ∙ take-append_seam before rest in
    let ends : drop (filled + length xs + length ys) (take filled a ++ (xs ++ rest))
    ≡ drop (filled + length (xs ++ ys)) a =
    ap (λ (l : List ℕ). drop (filled + length xs + length ys) l) whole
    ∙ ap (λ (n : ℕ). drop (n + length ys) (before ++ rest)) (sym size)
    ∙ drop-append-add before rest (length ys)
    ∙ drop-drop (length ys) (filled + length xs) a
    ∙ ap (λ (n : ℕ). drop n a) (omega (arith, length-append xs ys)) in
    ap (λ (l : List ℕ). l ++ (ys ++ drop (filled + length xs + length ys)
    (take filled a ++ (xs ++ rest)))) begins
    ∙ ap (λ (l : List ℕ). before ++ (ys ++ l)) ends
    ∙ append_assoc (take filled a) xs (ys ++ drop (filled + length (xs ++ ys)) a)
    ∙ ap (λ (l : List ℕ). take filled a ++ l)
    (sym (append_assoc xs ys (drop (filled + length (xs ++ ys)) a)))

-- Without bytes the slice stays.
slice_stays : (filled : ℕ) (a : List ℕ) → take filled a ++ drop (filled + 0) a ≡ a
slice_stays filled a =
    ap (λ (n : ℕ). take filled a ++ drop n a) (omega arith) ∙ take-append-drop filled a

-- The same where no bytes can be written.
in_turn_beyond : (filled : ℕ) (a xs ys : List ℕ) → length a < filled
    → length xs ≤ length a - filled
    → length ys
    ≤ length (take filled a ++ (xs ++ drop (filled + length xs) a)) - (filled + length xs) →
    take (filled + length xs) (take filled a ++ (xs ++ drop (filled + length xs) a))
    ++ (ys ++ drop (filled + length xs + length ys)
    (take filled a ++ (xs ++ drop (filled + length xs) a)))
    ≡ take filled a ++ ((xs ++ ys) ++ drop (filled + length (xs ++ ys)) a)
in_turn_beyond filled a (x ∷ xs) ys beyond room more = absurd (omega (arith, beyond, room))
in_turn_beyond filled a [] (y ∷ ys) beyond room more =
    absurd (omega (arith, beyond, more, ap length (slice_stays filled a)))
in_turn_beyond filled a [] [] beyond room more =
    ap (λ (l : List ℕ). take (filled + 0) l ++ drop (filled + 0 + 0) l) (slice_stays filled a)
    ∙ slice_stays (filled + 0) a ∙ sym (slice_stays filled a)

-- Both together then have no bytes.
none_beyond : (filled : ℕ) (a xs ys : List ℕ) → length a < filled
    → length xs ≤ length a - filled
    → length ys
    ≤ length (take filled a ++ (xs ++ drop (filled + length xs) a)) - (filled + length xs)
    → length (xs ++ ys) ≤ length a - filled
none_beyond filled a (x ∷ xs) ys beyond room more = absurd (omega (arith, beyond, room))
none_beyond filled a [] (y ∷ ys) beyond room more =
    absurd (omega (arith, beyond, more, ap length (slice_stays filled a)))
none_beyond filled a [] [] beyond room more = omega arith

-- Writing two lists in turn is writing both together.
pub slice_grows_in_turn : AppendsInTurn SliceGrows
slice_grows_in_turn a b c xs ys first second = record {
  same_slice = second.same_slice ∙ first.same_slice;
  room = by_room (cases_lt (length (slice_of a).now) (filled_of a));
  is = second.is
      ∙ ap (λ (n : ℕ). take n (slice_of b).now ++ (ys ++ drop (n + length ys) (slice_of b).now))
      first.filled
      ∙ ap (λ (l : List ℕ). take (filled_of a + length xs) l
      ++ (ys ++ drop (filled_of a + length xs + length ys) l)) first.is
      ∙ by (cases_lt (length (slice_of a).now) (filled_of a));
  filled = omega (arith, first.filled, second.filled, length-append xs ys);
}
  where
    size : filled_of a ≤ length (slice_of a).now
        → length (slice_of b).now ≡ length (slice_of a).now
    size within = ap length first.is
        ∙ length-append (take (filled_of a) (slice_of a).now)
        (xs ++ drop (filled_of a + length xs) (slice_of a).now)
        ∙ omega (
          arith,
          within,
          first.room,
          length-take (filled_of a) (slice_of a).now,
          length-append xs (drop (filled_of a + length xs) (slice_of a).now),
          length-drop (filled_of a + length xs) (slice_of a).now,
        )

    more : length ys ≤ length (take (filled_of a) (slice_of a).now
        ++ (xs ++ drop (filled_of a + length xs) (slice_of a).now)) - (filled_of a + length xs)
    more = omega (arith, second.room, first.filled, ap length first.is)

    by_room : (length (slice_of a).now < filled_of a) ⊎ (filled_of a ≤ length (slice_of a).now)
        → length (xs ++ ys) ≤ length (slice_of a).now - filled_of a
    by_room (inr within) = omega (
      arith,
      within,
      size within,
      first.room,
      first.filled,
      second.room,
      length-append xs ys,
    )
    by_room (inl beyond) =
        none_beyond (filled_of a) (slice_of a).now xs ys beyond first.room more

    by : (length (slice_of a).now < filled_of a) ⊎ (filled_of a ≤ length (slice_of a).now) →
        take (filled_of a + length xs) (take (filled_of a) (slice_of a).now
        ++ (xs ++ drop (filled_of a + length xs) (slice_of a).now))
        ++ (ys ++ drop (filled_of a + length xs + length ys) (take (filled_of a) (slice_of a).now
        ++ (xs ++ drop (filled_of a + length xs) (slice_of a).now)))
        ≡ take (filled_of a) (slice_of a).now
        ++ ((xs ++ ys) ++ drop (filled_of a + length (xs ++ ys)) (slice_of a).now)
    by (inl beyond) = in_turn_beyond (filled_of a) (slice_of a).now xs ys beyond first.room more
    by (inr within) = in_turn_within (filled_of a) (slice_of a).now xs ys within

-- If the slice does not have room after some bytes were written, it did not have room for these and
-- the others.
pub slice_fails_after : FailsAfter SliceGrows SliceFails
slice_fails_after a b c xs ys error first failed = record {
  no_room = λ room.
      failed.no_room (omega (
        arith,
        room,
        first.filled,
        ap length first.is,
        length-append (take (filled_of a) (slice_of a).now)
            (xs ++ drop (filled_of a + length xs) (slice_of a).now),
        length-append xs (drop (filled_of a + length xs) (slice_of a).now),
        length-take (filled_of a) (slice_of a).now,
        length-drop (filled_of a + length xs) (slice_of a).now,
        length-append xs ys,
      ));
  is_prefix = prefix_after SliceGrows slice_grows_in_turn a b c xs ys first failed.is_prefix;
  is_error = failed.is_error;
}

-- If the slice does not have room for some bytes, it does not have room for these and more.
pub slice_fails_before : FailsBefore SliceFails
slice_fails_before a b xs ys error failed = record {
  no_room = λ room. failed.no_room (omega (arith, room, length-append xs ys));
  is_prefix = prefix_more SliceGrows a xs ys b failed.is_prefix;
  is_error = failed.is_error;
}
