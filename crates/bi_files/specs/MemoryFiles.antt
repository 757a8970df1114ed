use Rattle.std.specs.Prelude.{◌≡◌, ℕ, Bool, true, false, List, map, Option, None, Some}
use Rattle.bi_base.specs.CallTraces.{read_trace, write_trace}
use Rattle.bi_base.specs.Traces.{ReadTrace, WriteTrace}
use Rattle.bi_commands.specs.ExtractingAll.{PayloadFile}
use Rattle.bi_files.specs.Files.{Entry, NoFile, RegularFile, Directory, FileStep, Names}
use Rattle.bi_files.specs.Files.{DirectoryMade, DirectoryRenamed, DirectoryNotRenamed}
use Rattle.bi_files.specs.Files.{DirectoryRemoved, DirectoryNotRemoved, MadeIn, NotMadeIn, ClosedIn}
use Rattle.bi_files.specs.Files.{NotClosedIn, RemovedIn, NotRemovedIn}
use Rattle.bi_files.specs.Files.{Opened, NotOpened, ReaderClosed}
use Rattle.bi_files.specs.Files.{Made, NameTaken, NotMade, Closed, NotClosed}
use Rattle.bi_files.specs.Files.{Renamed, NotRenamed, Removed, NotRemoved}
use Rattle.bi_files.specs.FilesAfter.{no_names, after_steps}
use Rattle.bi_files.specs.declared.memory_files.Occupant.{Occupant}
use Rattle.bi_files.specs.declared.memory_files.Occupant.TheVariants as occupant
use Rattle.bi_files.specs.declared.memory_files.Lookup.{Lookup}
use Rattle.bi_files.specs.declared.memory_files.Lookup.TheVariants.{Has, HadName, HadSameName}
use Rattle.bi_files.specs.declared.memory_files.MemoryStep.{MemoryStep}
use Rattle.bi_files.specs.declared.memory_files.StepKind.{StepKind}
use Rattle.bi_files.specs.declared.memory_files.StepKind.TheVariants as kind
use Rattle.bi_files.specs.declared.memory_files.ReadFile.{ReadFile}
use Rattle.bi_files.specs.declared.memory_files.WrittenFile.{WrittenFile}

-- What files in memory recorded (profile of this project).

-- The reader of a file with these bytes, before the first call.
abbrev pub unread : List ℕ → ReadTrace
unread bytes = record {
  reader = 0;
  remaining = Some bytes;
  taken = 0;
  failed = false;
  interruptions = 0;
  stopped = false;
}

-- The reader of a file that was opened.
abbrev pub reading_trace : ReadFile → ReadTrace
reading_trace file = read_trace 0 (Some file.remaining.now) file.calls

-- The writer of a new file.
abbrev pub writing_trace : WrittenFile → WriteTrace
writing_trace file = write_trace 0 (Some file.bytes.now) file.calls

-- The step with the file of this name.
abbrev pub named_step : (name : List ℕ) → StepKind → FileStep
named_step name (kind.Opened bytes) = Opened name (unread bytes.now)
named_step name kind.NotOpened = NotOpened name
named_step name (kind.ReaderClosed file) = ReaderClosed name (reading_trace file)
named_step name (kind.Made file) = Made name (writing_trace file)
named_step name kind.NameTaken = NameTaken name
named_step name kind.NotMade = NotMade name
named_step name (kind.Closed file) = Closed name (writing_trace file)
named_step name (kind.NotClosed file) = NotClosed name (writing_trace file)
named_step name (kind.Renamed new_name) = Renamed name new_name.now
named_step name (kind.NotRenamed new_name) = NotRenamed name new_name.now
named_step name kind.Removed = Removed name
named_step name kind.NotRemoved = NotRemoved name
named_step name kind.DirectoryMade = DirectoryMade name
named_step name (kind.MadeIn in_it file) = MadeIn name in_it.now (writing_trace file)
named_step name (kind.NotMadeIn in_it) = NotMadeIn name in_it.now
named_step name (kind.ClosedIn in_it file) = ClosedIn name in_it.now (writing_trace file)
named_step name (kind.NotClosedIn in_it file) = NotClosedIn name in_it.now (writing_trace file)
named_step name (kind.DirectoryRenamed new_name) = DirectoryRenamed name new_name.now
named_step name (kind.DirectoryNotRenamed new_name) = DirectoryNotRenamed name new_name.now
named_step name (kind.RemovedIn in_it) = RemovedIn name in_it.now
named_step name (kind.NotRemovedIn in_it) = NotRemovedIn name in_it.now
named_step name kind.DirectoryRemoved = DirectoryRemoved name
named_step name kind.DirectoryNotRemoved = DirectoryNotRemoved name

abbrev pub recorded_step : MemoryStep → FileStep
recorded_step step = named_step step.name.now step.kind

-- The steps that are recorded, if none is lost.
abbrev pub recorded_steps : (is_lost : Bool) → List MemoryStep → Option (List FileStep)
recorded_steps true log = None
recorded_steps false log = Some (map recorded_step log)

-- What has each name after the steps that are recorded.
abbrev pub recorded_names : List MemoryStep → Names
recorded_names log = after_steps no_names (map recorded_step log)

-- What was found of a name: nothing, a regular file with its bytes, or a directory.
abbrev pub IsOccupant : Entry → Occupant → Type 0
IsOccupant entry occupant.Nothing = entry ≡ NoFile
IsOccupant entry (occupant.File bytes) = entry ≡ RegularFile bytes.now
IsOccupant entry occupant.Directory = (files : List PayloadFile) × (entry ≡ Directory files)

-- What was found of one entry is found of another one.
abbrev pub IsOccupantToo : (one other : Entry) → Type 0
IsOccupantToo one other = (what : Occupant) → IsOccupant one what → IsOccupant other what

-- What is known of a name after a step, where `names` is what had each name before it and
-- `after names` what has it then.
abbrev pub AreLookedUp : (after : Names → Names) → (name : List ℕ) → Lookup → Type 0
AreLookedUp after name (Has what) = (names : Names) → IsOccupant (after names name) what
AreLookedUp after name (HadName other) =
    (names : Names) → IsOccupantToo (names other.now) (after names name)
AreLookedUp after name HadSameName =
    (names : Names) → IsOccupantToo (names name) (after names name)
