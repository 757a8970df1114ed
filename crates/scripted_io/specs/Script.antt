use Rattle.std.specs.Prelude.{◌≡◌, ℕ, ◌+◌, ◌-◌, ◌^◌, ◌%◌, ◌&&◌, if◌then◌else◌, nat_lt, nat_le}
use Rattle.std.specs.Prelude.{Option, Some, None, Result, IsErrAnd}
use Rattle.std.specs.Int.NonZero.{non_zero_u64_get}
use Rattle.std.specs.IoError.{error_kind}
use Rattle.std.specs.declared.io.Error.{Error}
use Rattle.std.specs.declared.io.ErrorKind.{ErrorKind}
use Rattle.std.specs.declared.io.ErrorKind.TheVariants.{Interrupted, BrokenPipe}
use Rattle.std.specs.declared.num.NonZeroU64.{NonZeroU64}
use Rattle.scripted_io.specs.declared.script.Script.{Script}
use Rattle.scripted_io.specs.declared.script.Turn.{Turn}
use Rattle.scripted_io.specs.declared.script.Turn.TheVariants.{TakesAll, Takes, IsInterrupted}
use Rattle.scripted_io.specs.declared.script.Turn.TheVariants.{Fails}

-- What the calls of a reader or a writer do in tests, by a script (profile of this project).

-- The number of calls before this one since the script last began.
abbrev pub place_in : Option NonZeroU64 → ℕ → ℕ
place_in None number = number
place_in (Some period) number = number % non_zero_u64_get period

-- The turn of the call with the given number, counted from 0: one turn for some calls in a row,
-- another for all others.
abbrev pub turn_at : Script → ℕ → Turn
turn_at script number =
    let place = place_in script.period number in
    if nat_le script.first place && nat_lt place (script.first + script.calls) then script.turn else
    script.others

-- A call returned an error of the given kind.
abbrev pub FailsBy : {T : Type 0} → ErrorKind → Result T Error → Type 0
FailsBy kind result = IsErrAnd result (λ error. error_kind error ≡ kind)

-- A call followed its turn: it returned what it returns if it may read or write at most this many
-- bytes, or the turn's error.
abbrev pub Follows : {T : Type 0} → Turn → (ℕ → Type 0) → Result T Error → Type 0
Follows TakesAll GivesWith result = GivesWith (2 ^ 64 - 1)
Follows (Takes most) GivesWith result = GivesWith most
Follows IsInterrupted GivesWith result = FailsBy Interrupted result
Follows Fails GivesWith result = FailsBy BrokenPipe result
