use Rattle.std.specs.Prelude.{◌≡◌, ◌≢◌, ◌⊎◌, ◌<◌, ◌+◌, ⊤, ℕ, List, [], ◌∷◌, ◌++◌, length, get_or}
use Rattle.std.specs.Prelude.{IfSome, IsFalse, Option, None, Some, codes, map}
use Rattle.std.specs.Fmt.{decimal}
use Rattle.bi_base.specs.Traces.{ReadTrace, WriteTrace, ReadsWell, WritesWell}
use Rattle.bi_base.specs.Writing.{WroteAndFlushed, WriteOrFlushStopped}
use Rattle.bi_base.specs.declared.fault.Error.{Error}
use Rattle.bi_commands.specs.ExtractingAll.{PayloadFile}
use Rattle.bi_files.specs.declared.saving.SaveError.{SaveError}
use Rattle.bi_files.specs.declared.saving.SaveError.TheVariants.{NotWritten, OutOfMemory}

-- The files that the program opens by name, and those that it makes (profile of this project).

-- What has a name.
pub data Entry : Type 0 where
  -- Nothing has it.
  NoFile : Entry
  -- A regular file with these bytes has it.
  RegularFile : (bytes : List ℕ) → Entry
  -- A directory that the program made has it, with these files.
  Directory : (files : List PayloadFile) → Entry
  -- Something else has it, for example another directory or a device.
  OtherFile : Entry
  -- Nothing can have it, as a name that is too long.
  Unusable : Entry

-- What has each name.
abbrev pub Names : Type 0
Names = List ℕ → Entry

-- What has each name, if it is known.
abbrev pub KnownFiles : Type 0
KnownFiles = Option Names

-- There are no files, and none can be made.
abbrev pub no_files : KnownFiles
no_files = Some (λ name. Unusable)

-- What has this name is such an entry, if it is known.
abbrev pub NameHas : KnownFiles → (name : List ℕ) → (IsEntry : Entry → Type 0) → Type 0
NameHas None name IsEntry = ⊤
NameHas (Some entries) name IsEntry = IsEntry (entries name)

-- Nothing.
abbrev pub IsNoFile : Entry → Type 0
IsNoFile NoFile = ⊤
IsNoFile entry = ⊥

-- Something, or what nothing can have.
abbrev pub IsSomething : Entry → Type 0
IsSomething entry = ¬ IsNoFile entry

-- What can be opened for reading, and the bytes of its reader, if they are known: a regular file
-- has its own.
abbrev pub MayBeOpened : (remaining : Option (List ℕ)) → Entry → Type 0
MayBeOpened remaining (RegularFile bytes) = remaining ≡ Some bytes
MayBeOpened remaining OtherFile = ⊤
MayBeOpened remaining entry = ⊥

-- What is no regular file. A regular file can always be opened.
abbrev pub IsNoRegularFile : Entry → Type 0
IsNoRegularFile (RegularFile bytes) = ⊥
IsNoRegularFile entry = ⊤

-- What a new file may replace: nothing, or a regular file.
abbrev pub MayBeReplaced : Entry → Type 0
MayBeReplaced NoFile = ⊤
MayBeReplaced (RegularFile bytes) = ⊤
MayBeReplaced entry = ⊥

abbrev pub MayNotBeReplaced : Entry → Type 0
MayNotBeReplaced entry = ¬ MayBeReplaced entry

-- ---- steps

-- A step with a file, which succeeded or failed. The reader of a file that is opened is known
-- before the first call and when it is closed, and so is the writer of a new file.
pub data FileStep : Type 0 where
  -- The file of this name was opened for reading.
  Opened : (name : List ℕ) → (reader : ReadTrace) → FileStep
  -- No file of this name could be opened for reading.
  NotOpened : (name : List ℕ) → FileStep
  -- The reader of the file of this name was closed.
  ReaderClosed : (name : List ℕ) → (reader : ReadTrace) → FileStep
  -- A new file of this name was made, which nothing had before.
  Made : (name : List ℕ) → (file : WriteTrace) → FileStep
  -- No file or directory of this name was made, since something has the name.
  NameTaken : (name : List ℕ) → FileStep
  -- No file or directory of this name could be made, for another reason.
  NotMade : (name : List ℕ) → FileStep
  -- The new file of this name was closed.
  Closed : (name : List ℕ) → (file : WriteTrace) → FileStep
  -- Closing the new file of this name failed.
  NotClosed : (name : List ℕ) → (file : WriteTrace) → FileStep
  -- The file of the first name took the second one, instead of the file that had it.
  Renamed : (name new_name : List ℕ) → FileStep
  -- The file of the first name did not take the second one: each file has the name that it had.
  NotRenamed : (name new_name : List ℕ) → FileStep
  -- The file of this name was removed.
  Removed : (name : List ℕ) → FileStep
  -- Removing the file of this name failed.
  NotRemoved : (name : List ℕ) → FileStep
  -- A new directory of this name was made, which nothing had before. If none was made the step is
  -- that of a file.
  DirectoryMade : (name : List ℕ) → FileStep
  -- A new file of this name was made in this directory.
  MadeIn : (directory name : List ℕ) → (file : WriteTrace) → FileStep
  -- No file of this name could be made in this directory.
  NotMadeIn : (directory name : List ℕ) → FileStep
  -- The new file of this name in this directory was closed.
  ClosedIn : (directory name : List ℕ) → (file : WriteTrace) → FileStep
  -- Closing it failed.
  NotClosedIn : (directory name : List ℕ) → (file : WriteTrace) → FileStep
  -- The directory of the first name took the second one, which nothing had.
  DirectoryRenamed : (name new_name : List ℕ) → FileStep
  -- It did not: each file has the name that it had.
  DirectoryNotRenamed : (name new_name : List ℕ) → FileStep
  -- The file of this name was removed from this directory.
  RemovedIn : (directory name : List ℕ) → FileStep
  -- Removing it failed.
  NotRemovedIn : (directory name : List ℕ) → FileStep
  -- The directory of this name was removed.
  DirectoryRemoved : (name : List ℕ) → FileStep
  -- Removing it failed.
  DirectoryNotRemoved : (name : List ℕ) → FileStep

-- These steps were taken between two times, if the steps up to the later one are known.
abbrev pub TookSteps : (old new : Option (List FileStep)) → List FileStep → Type 0
TookSteps old new steps =
    IfSome new (λ after. (before : List FileStep) × (old ≡ Some before) × (after ≡ before ++ steps))

-- Each source has the value beside it, and was read before the next one: `WasRead source value old
-- new` is about one source, and the steps before and after it was read.
abbrev pub WereReadInTurn : {S V : Type 0}
    → (WasRead : S → V → (old new : Option (List FileStep)) → Type 0)
    → (sources : List S) → (values : List V) → (old new : Option (List FileStep)) → Type 0
WereReadInTurn WasRead [] [] old new = new ≡ old
WereReadInTurn WasRead (source ∷ sources) (value ∷ values) old new =
    (middle : Option (List FileStep)) × WasRead source value old middle
    × WereReadInTurn WasRead sources values middle new
WereReadInTurn WasRead sources values old new = ⊥

-- ---- reading

-- The reader of a file of this name before the first call.
pub record IsOpenFile (files : KnownFiles) (name : List ℕ) (reader : ReadTrace) : Type 0 where
  pub is_file : NameHas files name (MayBeOpened reader.remaining)
  pub not_failed : IsFalse reader.failed
  pub reads_well : ReadsWell reader
  pub none_taken : reader.taken ≡ 0

-- The file of this name was opened once and closed once, and no other step was taken. Its reader
-- was `opened` before the first call, and `end` after the last one.
pub record WasOpened (files : KnownFiles) (name : List ℕ) (opened end : ReadTrace)
    (old new : Option (List FileStep)) : Type 0
  where
    pub is_open : IsOpenFile files name opened
    pub steps : TookSteps old new (Opened name opened ∷ ReaderClosed name end ∷ [])

-- The file of this name could not be opened, which was tried once, and no other step was taken.
pub record WasNotOpened (files : KnownFiles) (name : List ℕ) (old new : Option (List FileStep))
    : Type 0
  where
    pub is_no_file : NameHas files name IsNoRegularFile
    pub steps : TookSteps old new (NotOpened name ∷ [])

-- ---- new files

-- There are no bytes, if they are known.
abbrev pub HasNoBytes : Option (List ℕ) → Type 0
HasNoBytes None = ⊤
HasNoBytes (Some bytes) = bytes ≡ []

-- The writer of a new file before the first call.
pub record IsNewFile (file : WriteTrace) : Type 0 where
  pub has_no_bytes : HasNoBytes file.contents
  pub not_failed : IsFalse file.failed
  pub not_stalled : IsFalse file.stalled
  pub writes_well : WritesWell file

-- ---- saving

-- The second name is that of a new file with this number, in the directory that the first one
-- names.
pub record IsBeside (name : List ℕ) (number : ℕ) (beside : List ℕ) : Type 0 where
  -- The directory, with the slash after it, or nothing.
  pub directory : List ℕ
  pub last : List ℕ
  pub is_name : name ≡ directory ++ last
  pub is_beside : beside ≡ directory ++ (codes ".bootimg-" ++ decimal number)
  pub ends_with_slash : (directory ≡ []) ⊎ ((before : List ℕ) × (directory ≡ before ++ 47 ∷ []))
  pub last_has_no_slash : (index : ℕ) → index < length last → get_or last index 0 ≢ 47

-- These are the names beside a file with the numbers below this one, in their order, without the
-- file's own.
pub data AreNamesBelow (name : List ℕ) : (count : ℕ) → (names : List (List ℕ)) → Type 0 where
  NoNumbers : AreNamesBelow name 0 []
  OwnName : (below : ℕ) (names : List (List ℕ)) → AreNamesBelow name below names
      → IsBeside name below name → AreNamesBelow name (below + 1) names
  OneMoreName : (below : ℕ) (names : List (List ℕ)) (beside : List ℕ)
      → AreNamesBelow name below names → IsBeside name below beside → beside ≢ name
      → AreNamesBelow name (below + 1) (names ++ beside ∷ [])

-- No file or directory was made of a name beside this file with a number below this one: something
-- has each of these names, and no other was tried.
pub record AreNamesTaken (name : List ℕ) (count : ℕ) (old new : Option (List FileStep)) : Type 0
  where
    pub taken : List (List ℕ)
    pub are_names : AreNamesBelow name count taken
    pub steps : TookSteps old new (map NameTaken taken)

-- The name is beside a file, with one of the numbers that are tried, and is not the file's own.
pub record IsNewName (name : List ℕ) (number : ℕ) (beside : List ℕ) : Type 0 where
  pub within : number < 10000
  pub is_beside : IsBeside name number beside
  pub is_another : beside ≢ name

-- A new file was made beside the file of this name. It has the first of the numbered names that
-- nothing has and that is not the file's own.
pub record IsMadeBeside (files : KnownFiles) (name beside : List ℕ) (file : WriteTrace)
    (old new : Option (List FileStep)) : Type 0
  where
    pub number : ℕ
    pub tried : Option (List FileStep)
    pub are_taken : AreNamesTaken name number old tried
    pub is_name : IsNewName name number beside
    pub is_unused : NameHas files beside IsNoFile
    pub is_new : IsNewFile file
    pub made : TookSteps tried new (Made beside file ∷ [])

-- No new file or directory was made beside the file of this name, for this reason.
pub data IsNotMade (name : List ℕ) (error : SaveError) (old new : Option (List FileStep)) : Type 0
  where
    NoMemoryForName : (number : ℕ) → number < 10000 → AreNamesTaken name number old new
        → error ≡ OutOfMemory → IsNotMade name error old new
    AllNamesTaken : AreNamesTaken name 10000 old new → error ≡ NotWritten
        → IsNotMade name error old new
    MakingFailed : (number : ℕ) (beside : List ℕ) (tried : Option (List FileStep))
        → AreNamesTaken name number old tried → IsNewName name number beside
        → TookSteps tried new (NotMade beside ∷ []) → error ≡ NotWritten
        → IsNotMade name error old new

-- These bytes were written to the new file of this name, and it was flushed and closed.
pub record IsWrittenFile (beside bytes : List ℕ) (file : WriteTrace)
    (old new : Option (List FileStep)) : Type 0
  where
    pub filled : WriteTrace
    pub is_filled : WroteAndFlushed file bytes filled
    pub closed : TookSteps old new (Closed beside filled ∷ [])

-- That failed: writing these bytes or flushing stopped, and the file was closed or not; or all was
-- written and flushed, and the file could not be closed.
pub data IsNotWrittenFile (beside bytes : List ℕ) (file : WriteTrace)
    (old new : Option (List FileStep)) : Type 0
  where
    WritingStopped : (filled : WriteTrace) (error : Error)
        → WriteOrFlushStopped file bytes filled error
        → TookSteps old new (Closed beside filled ∷ [])
        ⊎ TookSteps old new (NotClosed beside filled ∷ [])
        → IsNotWrittenFile beside bytes file old new
    ClosingFailed : (filled : WriteTrace) → WroteAndFlushed file bytes filled
        → TookSteps old new (NotClosed beside filled ∷ [])
        → IsNotWrittenFile beside bytes file old new

-- These bytes were written to the new file, and it took the name.
pub record IsPutInPlace (name beside bytes : List ℕ) (file : WriteTrace)
    (old new : Option (List FileStep)) : Type 0
  where
    pub closed : Option (List FileStep)
    pub is_filled : IsWrittenFile beside bytes file old closed
    pub renamed : TookSteps closed new (Renamed beside name ∷ [])

-- That failed: the new file was not filled, or it was and could not take the name.
pub data IsNotPutInPlace (name beside bytes : List ℕ) (file : WriteTrace)
    (old new : Option (List FileStep)) : Type 0
  where
    FillingFailed : IsNotWrittenFile beside bytes file old new
        → IsNotPutInPlace name beside bytes file old new
    RenamingFailed : (closed : Option (List FileStep)) → IsWrittenFile beside bytes file old closed
        → TookSteps closed new (NotRenamed beside name ∷ [])
        → IsNotPutInPlace name beside bytes file old new

-- The file of this name has these bytes now: they were written to a new file beside it, which was
-- flushed and closed, and took its name.
pub record IsSaved (files : KnownFiles) (name bytes : List ℕ) (old new : Option (List FileStep))
    : Type 0
  where
    pub beside : List ℕ
    pub file : WriteTrace
    pub made : Option (List FileStep)
    pub can_be_replaced : NameHas files name MayBeReplaced
    pub is_made : IsMadeBeside files name beside file old made
    pub is_put_in_place : IsPutInPlace name beside bytes file made new

-- The file of this name is as it was, for this reason. If a new file was made it was removed then.
-- If that failed, it is left.
pub data IsNotSaved (files : KnownFiles) (name bytes : List ℕ) (error : SaveError)
    (old new : Option (List FileStep)) : Type 0
  where
    CannotBeReplaced : NameHas files name MayNotBeReplaced → new ≡ old → error ≡ NotWritten
        → IsNotSaved files name bytes error old new
    NoNewFile : NameHas files name MayBeReplaced → IsNotMade name error old new
        → IsNotSaved files name bytes error old new
    NewFileFailed : (beside : List ℕ) (file : WriteTrace) (made failed : Option (List FileStep))
        → NameHas files name MayBeReplaced → IsMadeBeside files name beside file old made
        → IsNotPutInPlace name beside bytes file made failed
        → TookSteps failed new (Removed beside ∷ []) ⊎ TookSteps failed new (NotRemoved beside ∷ [])
        → error ≡ NotWritten → IsNotSaved files name bytes error old new

-- No output can be saved with such files.
abbrev pub SavesNothing : KnownFiles → Type 0
SavesNothing files =
    (name bytes : List ℕ) (old new : Option (List FileStep))
    → ¬ (IsSaved files name bytes old new)
