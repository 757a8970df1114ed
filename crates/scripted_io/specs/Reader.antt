use Rattle.std.specs.Prelude.{ℕ, List}
use Rattle.scripted_io.specs.declared.script.Script.{Script}
use Rattle.scripted_io.specs.declared.reader.ScriptedReader.{ScriptedReader}
use Rattle.scripted_io.specs.declared.reader.EndlessReader.{EndlessReader}

-- The readers of tests (profile of this project).

-- The bytes that a reader has left.
abbrev pub bytes_left : ScriptedReader → List ℕ
bytes_left reader = reader.bytes.now

-- The script of its reads.
abbrev pub script_of : ScriptedReader → Script
script_of reader = reader.script

-- The byte of a reader without end.
abbrev pub byte_of : EndlessReader → ℕ
byte_of reader = reader.byte
