use Rattle.std.specs.Prelude.{◌≡◌, ◌≢◌, ⊤, ℕ, List, [], ◌∷◌, ◌++◌}
use Rattle.std.specs.Prelude.{Option, Some, unwrap_or, bytes_eq}
use Rattle.std.specs.Prelude.{if◌then◌else◌}
use Rattle.bi_base.specs.Traces.{WriteTrace}
use Rattle.bi_commands.specs.ExtractingAll.{PayloadFile}
use Rattle.bi_files.specs.Files.{Entry, NoFile, RegularFile, Directory, FileStep, KnownFiles, Names}
use Rattle.bi_files.specs.Files.{Made, Closed, NotClosed, Renamed, Removed, NotRemoved}
use Rattle.bi_files.specs.Files.{DirectoryMade, DirectoryRenamed, DirectoryRemoved}
use Rattle.bi_files.specs.Files.{DirectoryNotRemoved, MadeIn, ClosedIn, NotClosedIn, RemovedIn}

-- What has each name after some steps with files (profile of this project).

-- Nothing has a name.
abbrev pub no_names : Names
no_names name = NoFile

-- The entry has this name, and each other name has what it had.
abbrev pub with_entry_at : Names → (name : List ℕ) → Entry → Names
with_entry_at names name entry other = if bytes_eq other name then entry else names other

-- The bytes of a writer, which are known.
abbrev pub written_bytes : WriteTrace → List ℕ
written_bytes file = unwrap_or file.contents []

-- The regular file with the bytes of a writer.
abbrev pub written_file : WriteTrace → Entry
written_file file = RegularFile (written_bytes file)

-- The files of a directory after the file of this name, or a new one, got these bytes.
abbrev pub with_file : (name bytes : List ℕ) → List PayloadFile → List PayloadFile
with_file name bytes [] = record { name = name; bytes = bytes } ∷ []
with_file name bytes (file ∷ later) =
    if bytes_eq file.name name then record { name = name; bytes = bytes } ∷ later
    else file ∷ with_file name bytes later

-- The files of a directory without the one of this name.
abbrev pub without_file : (name : List ℕ) → List PayloadFile → List PayloadFile
without_file name [] = []
without_file name (file ∷ later) =
    if bytes_eq file.name name then later else file ∷ without_file name later

-- An entry whose files change so, if it is a directory.
abbrev pub with_files : (change : List PayloadFile → List PayloadFile) → Entry → Entry
with_files change (Directory files) = Directory (change files)
with_files change entry = entry

-- What has each name after the files of this directory changed so.
abbrev pub with_files_in : (change : List PayloadFile → List PayloadFile) → Names
    → (directory : List ℕ) → Names
with_files_in change names directory =
    with_entry_at names directory (with_files change (names directory))

-- What has each name after the file of the first name took the second one.
abbrev pub after_renaming : Names → (name new_name : List ℕ) → Names
after_renaming names name new_name =
    with_entry_at (with_entry_at names name NoFile) new_name (names name)

-- What has each name after one more step.
abbrev pub after_step : Names → FileStep → Names
after_step names (Made name file) = with_entry_at names name (written_file file)
after_step names (Closed name file) = with_entry_at names name (written_file file)
after_step names (NotClosed name file) = with_entry_at names name (written_file file)
after_step names (Renamed name new_name) = after_renaming names name new_name
after_step names (Removed name) = with_entry_at names name NoFile
after_step names (DirectoryMade name) = with_entry_at names name (Directory [])
after_step names (MadeIn directory name file) =
    with_files_in (with_file name (written_bytes file)) names directory
after_step names (ClosedIn directory name file) =
    with_files_in (with_file name (written_bytes file)) names directory
after_step names (NotClosedIn directory name file) =
    with_files_in (with_file name (written_bytes file)) names directory
after_step names (DirectoryRenamed name new_name) = after_renaming names name new_name
after_step names (RemovedIn directory name) = with_files_in (without_file name) names directory
after_step names (DirectoryRemoved name) = with_entry_at names name NoFile
after_step names step = names

-- What has each name after these steps.
abbrev pub after_steps : Names → List FileStep → Names
after_steps names [] = names
after_steps names (step ∷ steps) = after_steps (after_step names step) steps

-- Each name has what it had.
abbrev pub AreSameNames : (old new : Names) → Type 0
AreSameNames old new = (name : List ℕ) → new name ≡ old name

-- Each name but this one has what it had.
abbrev pub OthersAreSame : (name : List ℕ) → (old new : Names) → Type 0
OthersAreSame name old new = (other : List ℕ) → other ≢ name → new other ≡ old other

-- A regular file with these bytes has this name, and each other name has what it had.
pub record HasFile (old new : Names) (name bytes : List ℕ) : Type 0 where
  pub has : new name ≡ RegularFile bytes
  pub others_are_same : OthersAreSame name old new

-- A directory with exactly these files has this name, and each other name has what it had.
pub record HasDirectory (old new : Names) (name : List ℕ) (files : List PayloadFile) : Type 0 where
  pub has : new name ≡ Directory files
  pub others_are_same : OthersAreSame name old new

-- A new file is left, of a name that nothing had: the last one of these steps was to remove it, and
-- failed.
pub record LeavesNewFile (old new : Names) (steps : List FileStep) : Type 0 where
  pub beside : List ℕ
  pub earlier : List FileStep
  pub not_removed : steps ≡ earlier ++ NotRemoved beside ∷ []
  pub was_unused : old beside ≡ NoFile
  pub others_are_same : OthersAreSame beside old new

-- A new directory is left, of a name that nothing had: the last one of these steps was to remove
-- it, and failed.
pub record LeavesNewDirectory (old new : Names) (steps : List FileStep) : Type 0 where
  pub beside : List ℕ
  pub earlier : List FileStep
  pub not_removed : steps ≡ earlier ++ DirectoryNotRemoved beside ∷ []
  pub was_unused : old beside ≡ NoFile
  pub others_are_same : OthersAreSame beside old new

-- The bytes of a new file are known when it is made.
abbrev pub HasContents : FileStep → Type 0
HasContents (Made name file) = (bytes : List ℕ) × (file.contents ≡ Some bytes)
HasContents (MadeIn directory name file) = (bytes : List ℕ) × (file.contents ≡ Some bytes)
HasContents step = ⊤

abbrev pub HaveContents : List FileStep → Type 0
HaveContents [] = ⊤
HaveContents (step ∷ steps) = HasContents step × HaveContents steps

-- All steps are known, and so are the bytes of each new file. What has each name is what the steps
-- say of it: there was no file before the first one.
pub record AreRecorded (files : KnownFiles) (steps : Option (List FileStep)) : Type 0 where
  pub all : List FileStep
  pub are_steps : steps ≡ Some all
  pub are_names : files ≡ Some (after_steps no_names all)
  pub have_contents : HaveContents all
