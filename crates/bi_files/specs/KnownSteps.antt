use Rattle.std.specs.Prelude.{◌≡◌, ◌++◌, ℕ, List, [], ◌∷◌, Option, Some, codes, map}
use Rattle.std.specs.Fmt.{decimal}
use Rattle.bi_base.specs.Traces.{WriteTrace, IsFlushed}
use Rattle.bi_base.specs.Writing.{Writes}
use Rattle.bi_files.specs.Files.{FileStep, KnownFiles, Made, NameTaken, Closed, Renamed}
use Rattle.bi_commands.specs.ExtractingAll.{PayloadFile}
use Rattle.bi_files.specs.Directories.{IsDirectorySaved}
use Rattle.bi_files.specs.Files.{DirectoryMade, DirectoryRenamed, MadeIn, ClosedIn}
use Rattle.bi_files.specs.Files.{IsBeside, IsSaved}

-- What is known of the steps of saving an output, by which a reader can judge the definitions.

-- A name is beside a file with this number if and only if it is the directory of the file with this
-- text after it.
abbrev pub HasBesideNames : (name directory : List ℕ) → Type 0
HasBesideNames name directory =
    ((number : ℕ) → IsBeside name number (directory ++ (codes ".bootimg-" ++ decimal number)))
    × ((number : ℕ) (beside : List ℕ) → IsBeside name number beside
    → beside ≡ directory ++ (codes ".bootimg-" ++ decimal number))

-- The new file is in the directory of the file whose name it takes.
pub record BesideNamesAreKnown : Type 0 where
  pub in_directory : HasBesideNames (codes "a/b") (codes "a/")
  pub without_directory : HasBesideNames (codes "b") []
  pub numbers : IsBeside (codes "a/b") 12 (codes "a/.bootimg-12")

-- The steps of saving these bytes under this name: some names are taken, and then the new file is
-- made, closed when it has the bytes and is flushed, and takes the name.
pub record AreSavingSteps (name bytes : List ℕ) (steps : List FileStep) : Type 0 where
  pub taken : List (List ℕ)
  pub beside : List ℕ
  pub file : WriteTrace
  pub filled : WriteTrace
  pub written : Writes file bytes filled
  pub flushed : IsFlushed filled
  pub are_steps : steps
      ≡ map NameTaken taken ++ (Made beside file ∷ Closed beside filled ∷ Renamed beside name ∷ [])

-- An output that is saved took these steps, in this order, after those before it.
abbrev pub SavedInSteps : Type 0
SavedInSteps =
    (files : KnownFiles) (name bytes : List ℕ) (old : Option (List FileStep))
    (after : List FileStep) → IsSaved files name bytes old (Some after)
    → (before steps : List FileStep) × (old ≡ Some before) × (after ≡ before ++ steps)
    × AreSavingSteps name bytes steps

-- The steps of putting these files into a directory: each is made, and closed when it has its bytes
-- and is flushed, before the next one.
abbrev pub ArePuttingSteps : (directory : List ℕ) → List PayloadFile → List FileStep → Type 0
ArePuttingSteps directory [] steps = steps ≡ []
ArePuttingSteps directory (payload ∷ payloads) steps =
    (file : WriteTrace) × (filled : WriteTrace) × Writes file payload.bytes filled
    × IsFlushed filled × (later : List FileStep)
    × (steps ≡ MadeIn directory payload.name file ∷ ClosedIn directory payload.name filled ∷ later)
    × ArePuttingSteps directory payloads later

-- The steps of saving these files in a directory of this name: some names are taken, and then the
-- new directory is made, gets the files, and takes the name.
pub record AreDirectorySteps (name : List ℕ) (payloads : List PayloadFile) (steps : List FileStep)
    : Type 0
  where
    pub taken : List (List ℕ)
    pub beside : List ℕ
    pub putting : List FileStep
    pub are_putting : ArePuttingSteps beside payloads putting
    pub are_steps : steps
        ≡ map NameTaken taken
        ++ (DirectoryMade beside ∷ (putting ++ DirectoryRenamed beside name ∷ []))

-- A directory that is saved took these steps, in this order, after those before it.
abbrev pub DirectorySavedInSteps : Type 0
DirectorySavedInSteps =
    (files : KnownFiles) (name : List ℕ) (payloads : List PayloadFile)
    (old : Option (List FileStep)) (after : List FileStep)
    → IsDirectorySaved files name payloads old (Some after)
    → (before steps : List FileStep) × (old ≡ Some before) × (after ≡ before ++ steps)
    × AreDirectorySteps name payloads steps
