use Rattle.std.specs.Prelude.{◌≡◌, ◌+◌, ◌<◌, ℕ, Vec, vec_len, vec_capacity, Result, MatchResult}
use Rattle.std.specs.IoError.{error_kind}
use Rattle.std.specs.declared.alloc.Global.{Global}
use Rattle.std.specs.declared.io.Error.{Error}
use Rattle.std.specs.declared.io.ErrorKind.TheVariants.{OutOfMemory}
use Rattle.scripted_io.specs.declared.script.Script.{Script}
use Rattle.scripted_io.specs.declared.writer.ScriptedWriter.{ScriptedWriter}

-- The writer of tests (profile of this project).

-- The script of a writer's writes.
abbrev pub writing_of : ScriptedWriter → Script
writing_of writer = writer.writing

-- The script of its flushes.
abbrev pub flushing_of : ScriptedWriter → Script
flushing_of writer = writer.flushing

-- A write wrote this many bytes, or ran out of memory, which is possible only if the vector has no
-- room for them.
abbrev pub TakesOrLacksMemory : Vec ℕ Global → ℕ → Result ℕ Error → Type 0
TakesOrLacksMemory held wanted result =
    MatchResult result
    (λ count. count ≡ wanted)
    (λ error. (error_kind error ≡ OutOfMemory) × (vec_capacity held < vec_len held + wanted))
