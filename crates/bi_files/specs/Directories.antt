use Rattle.std.specs.Prelude.{◌≡◌, ◌≢◌, ◌⊎◌, ℕ, List, [], ◌∷◌, ◌++◌, Option}
use Rattle.std.specs.List.{AllByRecursion}
use Rattle.bi_base.specs.declared.fault.Error.{Error}
use Rattle.bi_base.specs.Traces.{WriteTrace}
use Rattle.bi_base.specs.Writing.{WroteAndFlushed, WriteOrFlushStopped}
use Rattle.bi_commands.specs.ExtractingAll.{PayloadFile}
use Rattle.bi_files.specs.declared.saving.SaveError.{SaveError}
use Rattle.bi_files.specs.declared.saving.SaveError.TheVariants.{NotWritten}
use Rattle.bi_files.specs.Files.{FileStep, KnownFiles, NameHas, IsNoFile, IsSomething, IsNewFile}
use Rattle.bi_files.specs.Files.{AreNamesTaken, IsNewName, IsNotMade, TookSteps}
use Rattle.bi_files.specs.Files.{DirectoryMade, DirectoryRenamed, DirectoryNotRenamed}
use Rattle.bi_files.specs.Files.{DirectoryRemoved, DirectoryNotRemoved, MadeIn, NotMadeIn, ClosedIn}
use Rattle.bi_files.specs.Files.{NotClosedIn, RemovedIn, NotRemovedIn}

-- Saving files in a new directory (profile of this project).

-- The name is the word without the slashes at its end.
pub record IsWithoutSlashes (word name : List ℕ) : Type 0 where
  pub slashes : List ℕ
  pub is_word : word ≡ name ++ slashes
  pub are_slashes : AllByRecursion (λ byte. byte ≡ 47) slashes
  pub ends_without : (before : List ℕ) → name ≢ before ++ 47 ∷ []

-- A new directory was made beside this name. It has the first of the numbered names that nothing
-- has and that is not this one.
pub record IsDirectoryMade (files : KnownFiles) (name beside : List ℕ)
    (old new : Option (List FileStep)) : Type 0
  where
    pub number : ℕ
    pub tried : Option (List FileStep)
    pub are_taken : AreNamesTaken name number old tried
    pub is_name : IsNewName name number beside
    pub is_unused : NameHas files beside IsNoFile
    pub made : TookSteps tried new (DirectoryMade beside ∷ [])

-- ---- files in the directory

-- The new file of this payload in the directory got its bytes, and was flushed and closed.
pub record IsFileFilled (directory : List ℕ) (payload : PayloadFile) (file : WriteTrace)
    (old new : Option (List FileStep)) : Type 0
  where
    pub filled : WriteTrace
    pub is_filled : WroteAndFlushed file payload.bytes filled
    pub closed : TookSteps old new (ClosedIn directory payload.name filled ∷ [])

-- A new file was made in the directory for this payload, and was filled.
pub record IsFilePut (directory : List ℕ) (payload : PayloadFile) (old new : Option (List FileStep))
    : Type 0
  where
    pub file : WriteTrace
    pub made : Option (List FileStep)
    pub is_new : IsNewFile file
    pub was_made : TookSteps old made (MadeIn directory payload.name file ∷ [])
    pub is_filled : IsFileFilled directory payload file made new

-- Each of these files was put into the directory before the next one.
abbrev pub AreFilesPut : (directory : List ℕ) → List PayloadFile
    → (old new : Option (List FileStep)) → Type 0
AreFilesPut directory [] old new = new ≡ old
AreFilesPut directory (payload ∷ later) old new =
    (middle : Option (List FileStep)) × IsFilePut directory payload old middle
    × AreFilesPut directory later middle new

-- Filling the new file failed: writing its bytes or flushing it stopped, and it was closed or not;
-- or all was written and flushed, and it could not be closed.
pub data IsFileNotFilled (directory : List ℕ) (payload : PayloadFile) (file : WriteTrace)
    (old new : Option (List FileStep)) : Type 0
  where
    FillingStopped : (filled : WriteTrace) (error : Error)
        → WriteOrFlushStopped file payload.bytes filled error
        → TookSteps old new (ClosedIn directory payload.name filled ∷ [])
        ⊎ TookSteps old new (NotClosedIn directory payload.name filled ∷ [])
        → IsFileNotFilled directory payload file old new
    ClosingFilledFailed : (filled : WriteTrace) → WroteAndFlushed file payload.bytes filled
        → TookSteps old new (NotClosedIn directory payload.name filled ∷ [])
        → IsFileNotFilled directory payload file old new

-- A new file was made in the directory, and filling it failed.
pub record IsFileNotPut (directory : List ℕ) (payload : PayloadFile)
    (old new : Option (List FileStep)) : Type 0
  where
    pub file : WriteTrace
    pub made : Option (List FileStep)
    pub is_new : IsNewFile file
    pub was_made : TookSteps old made (MadeIn directory payload.name file ∷ [])
    pub not_filled : IsFileNotFilled directory payload file made new

-- Not all of these files were put into the directory: the first of them were, and the next one
-- could not be made, or it was and could not be filled. `made` are those that were made.
pub data AreFilesNotPut (directory : List ℕ) (payloads made : List PayloadFile)
    (old new : Option (List FileStep)) : Type 0
  where
    NextNotMade : (next : PayloadFile) (later : List PayloadFile) (put : Option (List FileStep))
        → payloads ≡ made ++ next ∷ later → AreFilesPut directory made old put
        → TookSteps put new (NotMadeIn directory next.name ∷ [])
        → AreFilesNotPut directory payloads made old new
    NextNotFilled : (first : List PayloadFile) (next : PayloadFile) (later : List PayloadFile)
        (put : Option (List FileStep)) → payloads ≡ first ++ next ∷ later
        → made ≡ first ++ next ∷ [] → AreFilesPut directory first old put
        → IsFileNotPut directory next put new → AreFilesNotPut directory payloads made old new

-- Each of these files was removed from the directory before the next one, or that failed.
abbrev pub AreFilesRemoved : (directory : List ℕ) → List PayloadFile
    → (old new : Option (List FileStep)) → Type 0
AreFilesRemoved directory [] old new = new ≡ old
AreFilesRemoved directory (payload ∷ later) old new =
    (middle : Option (List FileStep))
    × (TookSteps old middle (RemovedIn directory payload.name ∷ [])
    ⊎ TookSteps old middle (NotRemovedIn directory payload.name ∷ []))
    × AreFilesRemoved directory later middle new

-- These files were removed, and then the directory, or that failed.
pub record IsDirectoryRemoved (directory : List ℕ) (made : List PayloadFile)
    (old new : Option (List FileStep)) : Type 0
  where
    pub emptied : Option (List FileStep)
    pub are_removed : AreFilesRemoved directory made old emptied
    pub removed : TookSteps emptied new (DirectoryRemoved directory ∷ [])
        ⊎ TookSteps emptied new (DirectoryNotRemoved directory ∷ [])

-- ---- saving

-- These files were put into the new directory, and it took the name.
pub record IsDirectoryInPlace (name beside : List ℕ) (payloads : List PayloadFile)
    (old new : Option (List FileStep)) : Type 0
  where
    pub put : Option (List FileStep)
    pub are_put : AreFilesPut beside payloads old put
    pub renamed : TookSteps put new (DirectoryRenamed beside name ∷ [])

-- That failed: not all files were put into it, or all were and it could not take the name.
pub data IsDirectoryNotInPlace (name beside : List ℕ) (payloads made : List PayloadFile)
    (old new : Option (List FileStep)) : Type 0
  where
    PuttingFailed : AreFilesNotPut beside payloads made old new
        → IsDirectoryNotInPlace name beside payloads made old new
    TakingNameFailed : (put : Option (List FileStep)) → made ≡ payloads
        → AreFilesPut beside payloads old put
        → TookSteps put new (DirectoryNotRenamed beside name ∷ [])
        → IsDirectoryNotInPlace name beside payloads made old new

-- A directory of this name has these files now, and nothing had the name before. They were put into
-- a new directory beside it, which took its name.
pub record IsDirectorySaved (files : KnownFiles) (name : List ℕ) (payloads : List PayloadFile)
    (old new : Option (List FileStep)) : Type 0
  where
    pub beside : List ℕ
    pub made : Option (List FileStep)
    pub is_unused : NameHas files name IsNoFile
    pub is_made : IsDirectoryMade files name beside old made
    pub is_in_place : IsDirectoryInPlace name beside payloads made new

-- Nothing was saved, for this reason. If a new directory was made, the files that were made in it
-- were removed then, and so was the directory. If that failed, it is left.
pub data IsDirectoryNotSaved (files : KnownFiles) (name : List ℕ) (payloads : List PayloadFile)
    (error : SaveError) (old new : Option (List FileStep)) : Type 0
  where
    NameIsUsed : NameHas files name IsSomething → new ≡ old → error ≡ NotWritten
        → IsDirectoryNotSaved files name payloads error old new
    NoNewDirectory : NameHas files name IsNoFile → IsNotMade name error old new
        → IsDirectoryNotSaved files name payloads error old new
    NewDirectoryFailed : (beside : List ℕ) (in_it : List PayloadFile)
        (made failed : Option (List FileStep)) → NameHas files name IsNoFile
        → IsDirectoryMade files name beside old made
        → IsDirectoryNotInPlace name beside payloads in_it made failed
        → IsDirectoryRemoved beside in_it failed new → error ≡ NotWritten
        → IsDirectoryNotSaved files name payloads error old new

-- No directory can be saved with such files.
abbrev pub SavesNoDirectory : KnownFiles → Type 0
SavesNoDirectory files =
    (name : List ℕ) (payloads : List PayloadFile) (old new : Option (List FileStep))
    → ¬ (IsDirectorySaved files name payloads old new)
