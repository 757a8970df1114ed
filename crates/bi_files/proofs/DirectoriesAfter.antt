use Rattle.std.proofs.Common.{◌≡◌, ◌≢◌, ◌++◌, ◌∷◌, [], ◌∙◌, ℕ, Bool, true, false, List, Option, Some, None, map, ap, inl, inr, refl, subst}
use Rattle.std.proofs.Common.{sym}
use Rattle.std.specs.Prelude.{⊤, if◌then◌else◌, bytes_eq, IfSome}
use Rattle.std.specs.List.{AllByRecursion}
use Rattle.std.proofs.lemmas.List.{append-nil, append_assoc}
use Rattle.bi_base.proofs.EqualBytes.{same_bytes, other_bytes}
use Rattle.bi_base.specs.Traces.{WriteTrace}
use Rattle.bi_blob.specs.Tree.{AreDistinct, IsNew}
use Rattle.bi_commands.specs.ExtractingAll.{PayloadFile}
use Rattle.bi_files.specs.declared.saving.SaveError.{SaveError}
use Rattle.bi_files.specs.Directories.{AreFilesNotPut, AreFilesPut, AreFilesRemoved, ClosingFilledFailed, FillingStopped, IsDirectoryMade}
use Rattle.bi_files.specs.Directories.{IsDirectoryNotInPlace, IsDirectoryNotSaved, IsDirectorySaved, IsFileNotFilled, IsFilePut, NameIsUsed}
use Rattle.bi_files.specs.Directories.{NewDirectoryFailed, NextNotFilled, NextNotMade, NoNewDirectory, PuttingFailed, TakingNameFailed}
use Rattle.bi_files.specs.Files.{ClosedIn, Directory, DirectoryMade, DirectoryNotRemoved, DirectoryNotRenamed, DirectoryRemoved}
use Rattle.bi_files.specs.Files.{DirectoryRenamed, FileStep, MadeIn, Names, NoFile, NotClosedIn, NotMadeIn, NotRemovedIn, RemovedIn}
use Rattle.bi_files.specs.Files.{NameTaken, TookSteps}
use Rattle.bi_files.specs.FilesAfter.{HasDirectory, HaveContents, after_renaming, after_step, after_steps, with_entry_at}
use Rattle.bi_files.specs.FilesAfter.{with_file, with_files, without_file, written_bytes}
use Rattle.bi_files.proofs.FilesAfter.{HaveContents-first, HaveContents-later, LeftAfterFailure, Touches, after_steps-append, filled_file}
use Rattle.bi_files.proofs.FilesAfter.{is_no_file, kept_is_left, keeps_same, not_made_keeps, removed_is_left, taken_change_nothing}
use Rattle.bi_files.proofs.FilesAfter.{touches_in_turn, touches_with, with_entry_at-other, with_entry_at-same}
use Rattle.bi_files.proofs.NewFiles.{steps_in_turn}

-- What has each name after files were saved in a new directory, or were not. `base` is what has each name before all steps.

-- ---- only the new directory changes

touches_same : (base : Names) (name : List ℕ) (old new : Option (List FileStep)) → new ≡ old → Touches base name old new
touches_same base name old None is = tt
touches_same base name old (Some after) is = (after, sym is, λ q apart. refl)

-- One step was taken that changes only this name.
abbrev ChangesOnly : (name : List ℕ) → FileStep → Type 0
ChangesOnly name step = (names : Names) (other : List ℕ) → other ≢ name → after_step names step other ≡ names other

one_step_touches : (base : Names) (name : List ℕ) (old new : Option (List FileStep)) (step : FileStep) → ChangesOnly name step
    → TookSteps old new (step ∷ []) → Touches base name old new
one_step_touches base name old new step only took = touches_with base name old new (step ∷ []) only took

made_touches : (base : Names) (files : Option Names) (name beside : List ℕ) (old new : Option (List FileStep))
    → IsDirectoryMade files name beside old new → Touches base beside old new
made_touches base files name beside old new is =
    touches_in_turn base beside old is.tried new
    (touches_with base beside old is.tried (map NameTaken is.are_taken.taken)
    (λ names q apart. ap (λ n. n q) (taken_change_nothing is.are_taken.taken names)) is.are_taken.steps)
    (one_step_touches base beside is.tried new (DirectoryMade beside)
    (λ names q apart. with_entry_at-other names beside q (Directory []) apart) is.made)

made_in_touches : (base : Names) (directory name : List ℕ) (file : WriteTrace) (old new : Option (List FileStep))
    → TookSteps old new (MadeIn directory name file ∷ []) → Touches base directory old new
made_in_touches base directory name file old new took =
    one_step_touches base directory old new (MadeIn directory name file)
    (λ names q apart. with_entry_at-other names directory q (with_files (with_file name (written_bytes file)) (names directory)) apart) took

closed_in_touches : (base : Names) (directory name : List ℕ) (file : WriteTrace) (old new : Option (List FileStep))
    → TookSteps old new (ClosedIn directory name file ∷ []) → Touches base directory old new
closed_in_touches base directory name file old new took =
    one_step_touches base directory old new (ClosedIn directory name file)
    (λ names q apart. with_entry_at-other names directory q (with_files (with_file name (written_bytes file)) (names directory)) apart) took

not_closed_in_touches : (base : Names) (directory name : List ℕ) (file : WriteTrace) (old new : Option (List FileStep))
    → TookSteps old new (NotClosedIn directory name file ∷ []) → Touches base directory old new
not_closed_in_touches base directory name file old new took =
    one_step_touches base directory old new (NotClosedIn directory name file)
    (λ names q apart. with_entry_at-other names directory q (with_files (with_file name (written_bytes file)) (names directory)) apart) took

put_touches : (base : Names) (directory : List ℕ) (payload : PayloadFile) (old new : Option (List FileStep))
    → IsFilePut directory payload old new → Touches base directory old new
put_touches base directory payload old new is =
    touches_in_turn base directory old is.made new (made_in_touches base directory payload.name is.file old is.made is.was_made)
    (closed_in_touches base directory payload.name is.is_filled.filled is.made new is.is_filled.closed)

all_put_touch : (base : Names) (directory : List ℕ) (payloads : List PayloadFile) (old new : Option (List FileStep))
    → AreFilesPut directory payloads old new → Touches base directory old new
all_put_touch base directory [] old new are = touches_same base directory old new are
all_put_touch base directory (payload ∷ later) old new are =
    touches_in_turn base directory old are.0 new (put_touches base directory payload old are.0 are.1)
    (all_put_touch base directory later are.0 new are.2)

not_filled_touches : (base : Names) (directory : List ℕ) (payload : PayloadFile) (file : WriteTrace) (old new : Option (List FileStep))
    → IsFileNotFilled directory payload file old new → Touches base directory old new
not_filled_touches base directory payload file old new (FillingStopped filled error stopped (inl took)) =
    closed_in_touches base directory payload.name filled old new took
not_filled_touches base directory payload file old new (FillingStopped filled error stopped (inr took)) =
    not_closed_in_touches base directory payload.name filled old new took
not_filled_touches base directory payload file old new (ClosingFilledFailed filled wrote took) =
    not_closed_in_touches base directory payload.name filled old new took

not_put_touch : (base : Names) (directory : List ℕ) (payloads made : List PayloadFile) (old new : Option (List FileStep))
    → AreFilesNotPut directory payloads made old new → Touches base directory old new
not_put_touch base directory payloads made old new (NextNotMade next later put is are took) =
    touches_in_turn base directory old put new (all_put_touch base directory made old put are)
    (one_step_touches base directory put new (NotMadeIn directory next.name) (λ names q apart. refl) took)
not_put_touch base directory payloads made old new (NextNotFilled first next later put is made_is are not) =
    touches_in_turn base directory old put new (all_put_touch base directory first old put are)
    (touches_in_turn base directory put not.made new (made_in_touches base directory next.name not.file put not.made not.was_made)
    (not_filled_touches base directory next not.file not.made new not.not_filled))

not_in_place_touches : (base : Names) (name beside : List ℕ) (payloads made : List PayloadFile) (old new : Option (List FileStep))
    → IsDirectoryNotInPlace name beside payloads made old new → Touches base beside old new
not_in_place_touches base name beside payloads made old new (PuttingFailed not) = not_put_touch base beside payloads made old new not
not_in_place_touches base name beside payloads made old new (TakingNameFailed put is are took) =
    touches_in_turn base beside old put new (all_put_touch base beside payloads old put are)
    (one_step_touches base beside put new (DirectoryNotRenamed beside name) (λ names q apart. refl) took)

removed_touch : (base : Names) (directory : List ℕ) (made : List PayloadFile) (old new : Option (List FileStep))
    → AreFilesRemoved directory made old new → Touches base directory old new
removed_touch base directory [] old new are = touches_same base directory old new are
removed_touch base directory (file ∷ later) old new are =
    touches_in_turn base directory old are.0 new (elim are.1 [
      | inl took ↦ one_step_touches base directory old are.0 (RemovedIn directory file.name)
          (λ names q apart. with_entry_at-other names directory q (with_files (without_file file.name) (names directory)) apart) took
      | inr took ↦ one_step_touches base directory old are.0 (NotRemovedIn directory file.name) (λ names q apart. refl) took
    ])
    (removed_touch base directory later are.0 new are.2)

-- ---- not saved

not_removed_is_left : (base names : Names) (beside : List ℕ) (old failed new : Option (List FileStep))
    → ((before : List FileStep) → old ≡ Some before → after_steps base before ≡ names) → names beside ≡ NoFile
    → Touches base beside old failed → TookSteps failed new (DirectoryNotRemoved beside ∷ []) → LeftAfterFailure base names new
not_removed_is_left base names beside old failed new are unused touches took =
    left new took
    (touches_in_turn base beside old failed new touches
    (one_step_touches base beside failed new (DirectoryNotRemoved beside) (λ n q apart. refl) took))
  where
    left : (new : Option (List FileStep)) → TookSteps failed new (DirectoryNotRemoved beside ∷ []) → Touches base beside old new
        → LeftAfterFailure base names new
    left None took touches = tt
    left (Some after) took touches =
        inr (inr (record {
          beside = beside;
          earlier = took.0;
          not_removed = took.2;
          was_unused = unused;
          others_are_same = λ q apart. touches.2 q apart ∙ ap (λ n. n q) (are touches.0 touches.1);
        }))

pub directory_not_saved_leaves : (base names : Names) (name : List ℕ) (payloads : List PayloadFile) (error : SaveError)
    (old new : Option (List FileStep)) → ((before : List FileStep) → old ≡ Some before → after_steps base before ≡ names)
    → IsDirectoryNotSaved (Some names) name payloads error old new → LeftAfterFailure base names new
directory_not_saved_leaves base names name payloads error old new are (NameIsUsed used same why) =
    kept_is_left base names old new are (keeps_same base old new same)
directory_not_saved_leaves base names name payloads error old new are (NoNewDirectory unused not_made) =
    kept_is_left base names old new are (not_made_keeps base name error old new not_made)
directory_not_saved_leaves base names name payloads error old new are
    (NewDirectoryFailed beside in_it made failed unused is not gone why) =
    let touches = touches_in_turn base beside old failed gone.emptied
    (touches_in_turn base beside old made failed (made_touches base (Some names) name beside old made is)
    (not_in_place_touches base name beside payloads in_it made failed not))
    (removed_touch base beside in_it failed gone.emptied gone.are_removed)
    in
    let free = is_no_file (names beside) is.is_unused in
    elim gone.removed [
      | inl took ↦ removed_is_left base names beside old gone.emptied new (DirectoryRemoved beside) are free touches (λ n. refl) took
      | inr took ↦ not_removed_is_left base names beside old gone.emptied new are free touches took
    ]

-- ---- the files of a directory

-- No file has this name.
abbrev IsNoneNamed : (name : List ℕ) → List PayloadFile → Type 0
IsNoneNamed name files = AllByRecursion (λ (file : PayloadFile). name ≢ file.name) files

with_new_file : (name bytes : List ℕ) (files : List PayloadFile) → IsNoneNamed name files
    → with_file name bytes files ≡ files ++ record { name = name; bytes = bytes } ∷ []
with_new_file name bytes [] none = refl
with_new_file name bytes (file ∷ later) none = at (bytes_eq file.name name) refl (with_new_file name bytes later none.1)
  where
    at : (b : Bool) → bytes_eq file.name name ≡ b
        → with_file name bytes later ≡ later ++ record { name = name; bytes = bytes } ∷ []
        → (if b then record { name = name; bytes = bytes } ∷ later else file ∷ with_file name bytes later)
        ≡ file ∷ (later ++ record { name = name; bytes = bytes } ∷ [])
    at true same rest = absurd (none.0 (sym (same_bytes file.name name same)))
    at false differs rest = ap (λ (l : List PayloadFile). file ∷ l) rest

abbrev file_with : (name bytes : List ℕ) → PayloadFile
file_with name bytes = record { name = name; bytes = bytes }

with_last_file : (name first bytes : List ℕ) (files : List PayloadFile) → IsNoneNamed name files
    → with_file name bytes (files ++ record { name = name; bytes = first } ∷ []) ≡ files ++ record { name = name; bytes = bytes } ∷ []
with_last_file name first bytes [] none = at (bytes_eq name name) refl
  where
    at : (b : Bool) → bytes_eq name name ≡ b
        → (if b then file_with name bytes ∷ [] else file_with name first ∷ file_with name bytes ∷ [])
        ≡ record { name = name; bytes = bytes } ∷ []
    at true same = refl
    at false differs = absurd (other_bytes name name differs refl)
with_last_file name first bytes (file ∷ later) none =
    at (bytes_eq file.name name) refl (with_last_file name first bytes later none.1)
  where
    at : (b : Bool) → bytes_eq file.name name ≡ b
        → with_file name bytes (later ++ record { name = name; bytes = first } ∷ []) ≡ later ++ record { name = name; bytes = bytes } ∷ []
        → (if b then record { name = name; bytes = bytes } ∷ (later ++ record { name = name; bytes = first } ∷ [])
        else file ∷ with_file name bytes (later ++ record { name = name; bytes = first } ∷ []))
        ≡ file ∷ (later ++ record { name = name; bytes = bytes } ∷ [])
    at true same rest = absurd (none.0 (sym (same_bytes file.name name same)))
    at false differs rest = ap (λ (l : List PayloadFile). file ∷ l) rest

-- The directory has these files now, if the steps are known.
abbrev FilesAre : (base : Names) → (directory : List ℕ) → List PayloadFile → Option (List FileStep) → Type 0
FilesAre base directory files now = IfSome now (λ l. HaveContents l → after_steps base l directory ≡ Directory files)

-- Nothing is in a directory that was made.
none_are_in : (base : Names) (directory : List ℕ) (old new : Option (List FileStep)) → TookSteps old new (DirectoryMade directory ∷ [])
    → FilesAre base directory [] new
none_are_in base directory old None took = tt
none_are_in base directory old (Some after) took = λ have.
    ap (λ l. after_steps base l directory) took.2
    ∙ ap (λ n. n directory) (after_steps-append base took.0 (DirectoryMade directory ∷ []))
    ∙ with_entry_at-same (after_steps base took.0) directory (Directory [])

-- A file was put into the directory.
one_more_is_in : (base : Names) (directory : List ℕ) (files : List PayloadFile) (payload : PayloadFile)
    (old new : Option (List FileStep)) → IsNoneNamed payload.name files → FilesAre base directory files old
    → IsFilePut directory payload old new → FilesAre base directory (files ++ payload ∷ []) new
one_more_is_in base directory files payload old None none are is = tt
one_more_is_in base directory files payload old (Some after) none are is = λ have.
    let filled = is.is_filled.filled in
    let two = MadeIn directory payload.name is.file ∷ ClosedIn directory payload.name filled ∷ [] in
    let took : TookSteps old (Some after) two =
    steps_in_turn old is.made (Some after) (MadeIn directory payload.name is.file ∷ []) (ClosedIn directory payload.name filled ∷ [])
    is.was_made is.is_filled.closed in
    let all = subst HaveContents took.2 have in
    let known = (HaveContents-later took.0 two all).0 in
    let written = filled_file is.file.contents filled.contents payload.bytes known is.is_new.has_no_bytes
    is.is_filled.is_filled.written in
    let names = after_steps base took.0 in
    let before : names directory ≡ Directory files = subst (FilesAre base directory files) took.1 are (HaveContents-first took.0 two all) in
    let made : Names = after_step names (MadeIn directory payload.name is.file) in
    let entry : made directory ≡ Directory (files ++ record { name = payload.name; bytes = written_bytes is.file } ∷ []) =
    with_entry_at-same names directory (with_files (with_file payload.name (written_bytes is.file)) (names directory))
    ∙ ap (with_files (with_file payload.name (written_bytes is.file))) before
    ∙ ap (λ l. Directory l) (with_new_file payload.name (written_bytes is.file) files none)
    in
    ap (λ l. after_steps base l directory) took.2
    ∙ ap (λ n. n directory) (after_steps-append base took.0 two)
    ∙ with_entry_at-same made directory (with_files (with_file payload.name (written_bytes filled)) (made directory))
    ∙ ap (with_files (with_file payload.name (written_bytes filled))) entry
    ∙ ap (λ l. Directory l) (with_last_file payload.name (written_bytes is.file) (written_bytes filled) files none)
    ∙ ap (λ b. Directory (files ++ record { name = payload.name; bytes = b } ∷ [])) written

-- The names of these files differ from each of these names.
abbrev AreApart : List PayloadFile → List (List ℕ) → Type 0
AreApart [] names = ⊤
AreApart (file ∷ files) names = IsNew file.name names × AreApart files names

none_named : (files : List PayloadFile) (name : List ℕ) (names : List (List ℕ)) → AreApart files (name ∷ names) → IsNoneNamed name files
none_named [] name names apart = tt
none_named (file ∷ files) name names apart = (apart.0.0, none_named files name names apart.1)

apart_from_later : (files : List PayloadFile) (payload : PayloadFile) (names : List (List ℕ)) → AreApart files (payload.name ∷ names)
    → IsNew payload.name names → AreApart (files ++ payload ∷ []) names
apart_from_later [] payload names apart new = (new, tt)
apart_from_later (file ∷ files) payload names apart new = (apart.0.1, apart_from_later files payload names apart.1 new)

abbrev names_of : List PayloadFile → List (List ℕ)
names_of payloads = map (λ (payload : PayloadFile). payload.name) payloads

-- All of these files were put into the directory.
all_are_in : (base : Names) (directory : List ℕ) (files payloads : List PayloadFile) (old new : Option (List FileStep))
    → AreApart files (names_of payloads) → AreDistinct (names_of payloads) → FilesAre base directory files old
    → AreFilesPut directory payloads old new → FilesAre base directory (files ++ payloads) new
all_are_in base directory files [] old new apart distinct are put =
    subst (λ f. FilesAre base directory f new) (sym (append-nil files)) (subst (FilesAre base directory files) (sym put) are)
all_are_in base directory files (payload ∷ later) old new apart distinct are put =
    subst (λ f. FilesAre base directory f new) (append_assoc files (payload ∷ []) later)
    (all_are_in base directory (files ++ payload ∷ []) later put.0 new
    (apart_from_later files payload (names_of later) apart distinct.0) distinct.1
    (one_more_is_in base directory files payload old put.0 (none_named files payload.name (names_of later) apart) are put.1) put.2)

-- ---- saved

-- What has each name after the directory took the name.
renamed_has_directory : (old between new : Names) (name beside : List ℕ) (payloads : List PayloadFile) → beside ≢ name
    → old beside ≡ NoFile → ((q : List ℕ) → q ≢ beside → between q ≡ old q) → between beside ≡ Directory payloads
    → ((q : List ℕ) → new q ≡ after_renaming between beside name q) → HasDirectory old new name payloads
renamed_has_directory old between new name beside payloads apart unused others is now = record {
  has = now name ∙ with_entry_at-same with_none name (between beside) ∙ is;
  others_are_same = λ q other. now q ∙ with_entry_at-other with_none name q (between beside) other ∙ at q (bytes_eq q beside) refl;
}
  where
    with_none : Names
    with_none = with_entry_at between beside NoFile

    at : (q : List ℕ) (b : Bool) → bytes_eq q beside ≡ b → with_none q ≡ old q
    at q true same =
        let equal : q ≡ beside = same_bytes q beside same in
        ap (λ n. with_none n) equal ∙ with_entry_at-same between beside NoFile ∙ sym unused ∙ ap (λ n. old n) (sym equal)
    at q false differs =
        let other = other_bytes q beside differs in with_entry_at-other between beside q NoFile other ∙ others q other

pub directory_saved_leaves : (base names : Names) (name : List ℕ) (payloads : List PayloadFile) (old new : Option (List FileStep))
    → ((before : List FileStep) → old ≡ Some before → after_steps base before ≡ names) → AreDistinct (names_of payloads)
    → IsDirectorySaved (Some names) name payloads old new → IfSome new HaveContents
    → IfSome new (λ after. HasDirectory names (after_steps base after) name payloads)
directory_saved_leaves base names name payloads old None are distinct saved contents = tt
directory_saved_leaves base names name payloads old (Some after) are distinct saved contents =
    let place = saved.is_in_place in
    let took = place.renamed in
    let before = took.0 in
    let step = DirectoryRenamed saved.beside name ∷ [] in
    let touches : Touches base saved.beside old (Some before) = subst (λ s. Touches base saved.beside old s) took.1
    (touches_in_turn base saved.beside old saved.made place.put
    (made_touches base (Some names) name saved.beside old saved.made saved.is_made)
    (all_put_touch base saved.beside payloads saved.made place.put place.are_put)) in
    let files : FilesAre base saved.beside payloads (Some before) = subst (FilesAre base saved.beside payloads) took.1
    (all_are_in base saved.beside [] payloads saved.made place.put tt distinct
    (none_are_in base saved.beside saved.is_made.tried saved.made saved.is_made.made) place.are_put) in
    renamed_has_directory names (after_steps base before) (after_steps base after) name saved.beside payloads
    saved.is_made.is_name.is_another (is_no_file (names saved.beside) saved.is_made.is_unused)
    (λ q apart. touches.2 q apart ∙ ap (λ n. n q) (are touches.0 touches.1))
    (files (HaveContents-first before step (subst HaveContents took.2 contents)))
    (λ q. ap (λ l. after_steps base l q) took.2 ∙ ap (λ n. n q) (after_steps-append base before step))
