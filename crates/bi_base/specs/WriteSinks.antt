use Rattle.std.specs.Prelude.{◌≡◌, ℕ, List, Option, refl}
use Rattle.std.specs.Borrow.{MutBor}
use Rattle.std.specs.Io.KnownBytes.{Appends}
use Rattle.std.proofs.Common.{◌∙◌}
use Rattle.std.proofs.KnownBytes.{Appends-nil, Appends-trans}
use Rattle.bi_base.specs.declared.fault.Error.{Error}
use Rattle.bi_base.specs.declared.fault.Error.TheVariants.{WriteFailed}
use Rattle.bi_base.specs.declared.write_sink.WriteSink.{WriteSink}
use Rattle.bi_base.specs.Sinks.{AppendsNothing, AppendsInTurn}

-- A sink that writes to a writer. A contract can name the bytes of the writer, if they are known.

-- The writer that a sink writes to, as the sink borrows it.
abbrev pub writer_of : {W : Type 0} → WriteSink W → MutBor W
writer_of sink = sink.writer

-- The writer stays the same one, and its bytes grow by these.
abbrev pub WriterGrows : {W : Type 0} → (W → Option (List ℕ)) → WriteSink W → List ℕ → WriteSink W
    → Type 0
WriterGrows contents old bytes new =
    ((writer_of new).ghost_name ≡ (writer_of old).ghost_name)
    × Appends (contents (writer_of old).now) (contents (writer_of new).now) bytes

-- The only error of such a sink.
abbrev pub IsWriteFailed : {W : Type 0} → WriteSink W → Error → Type 0
IsWriteFailed new error = error ≡ WriteFailed

-- Growing by nothing changes nothing.
pub writer_grows_nothing : {W : Type 0} (contents : W → Option (List ℕ))
    → AppendsNothing (WriterGrows contents)
writer_grows_nothing contents a = (refl, Appends-nil (contents (writer_of a).now))

-- Growing by two lists in turn is growing by both together.
pub writer_grows_in_turn : {W : Type 0} (contents : W → Option (List ℕ))
    → AppendsInTurn (WriterGrows contents)
writer_grows_in_turn contents a b c xs ys first second = (
  second.0 ∙ first.0,
  Appends-trans (contents (writer_of a).now) (contents (writer_of b).now)
      (contents (writer_of c).now) xs ys
      first.1 second.1,
)
