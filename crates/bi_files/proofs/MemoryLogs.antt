use Rattle.std.proofs.Common.{◌≡◌, ◌≢◌, ◌⊎◌, ◌++◌, ◌∷◌, [], ◌∙◌, ◌<◌, ◌≤◌, ◌+◌, ◌-◌, ℕ, Bool, true, false, List, Some, map}
use Rattle.std.proofs.Common.{length, take, get_or, ap, arith, inl, inr, subst, sym, refl}
use Rattle.std.specs.Borrow.{Bor}
use Rattle.std.specs.Prelude.{bytes_eq, if◌then◌else◌}
use Rattle.std.proofs.lemmas.List.{map_push, take_all, take_more}
use Rattle.bi_base.proofs.EqualBytes.{same_bytes}
use Rattle.bi_commands.specs.ExtractingAll.{PayloadFile}
use Rattle.bi_files.specs.declared.memory_files.Lookup.{Lookup}
use Rattle.bi_files.specs.declared.memory_files.MemoryStep.{MemoryStep}
use Rattle.bi_files.specs.declared.memory_files.Occupant.{Occupant}
use Rattle.bi_files.specs.declared.memory_files.Occupant.TheVariants as occupant
use Rattle.bi_files.specs.declared.memory_files.StepKind.{StepKind}
use Rattle.bi_files.specs.declared.memory_files.StepKind.TheVariants as kind
use Rattle.bi_files.specs.declared.memory_files.WrittenFile.{WrittenFile}
use Rattle.bi_files.specs.Files.{Directory, Entry, Names, NoFile, OtherFile, RegularFile, Unusable}
use Rattle.bi_files.specs.FilesAfter.{AreRecorded, no_names, after_renaming, after_step}
use Rattle.bi_files.specs.FilesAfter.{after_steps, HasContents, HaveContents, with_entry_at, with_file}
use Rattle.bi_files.specs.FilesAfter.{with_files, with_files_in, without_file, written_bytes}
use Rattle.bi_files.specs.MemoryFiles.{AreLookedUp, IsOccupant, IsOccupantToo, recorded_names, recorded_steps, recorded_step, named_step}
use Rattle.bi_files.specs.MemoryFiles.{writing_trace}
use Rattle.bi_files.proofs.FilesAfter.{after_steps-append}

-- What files in memory recorded.

-- ---- one more step

names_after_one : (log : List MemoryStep) (step : MemoryStep)
    → recorded_names (log ++ step ∷ []) ≡ after_step (recorded_names log) (recorded_step step)
names_after_one log step =
    ap (after_steps no_names) (map_push recorded_step log step)
    ∙ after_steps-append no_names (map recorded_step log) (recorded_step step ∷ [])

pub names_recorded : (old new : List MemoryStep) (step : MemoryStep) (name : List ℕ) → new ≡ old ++ step ∷ [] → step.name.now ≡ name
    → recorded_names new ≡ after_step (recorded_names old) (named_step name step.kind)
names_recorded old new step name is named =
    ap recorded_names is ∙ names_after_one old step ∙ ap (λ n. after_step (recorded_names old) (named_step n step.kind)) named

-- ---- looking up a name

-- What has a name after one more of the steps that are recorded.
pub names_before_one : (log : List MemoryStep) (left : ℕ) (d : MemoryStep) → left < length log
    → recorded_names (take (left + 1) log) ≡ after_step (recorded_names (take left log)) (recorded_step (get_or log left d))
names_before_one log left d within =
    ap recorded_names (take_more log left d within) ∙ names_after_one (take left log) (get_or log left d)

-- What is found of a name after all steps is found of it.
pub found_after_all : (log : List MemoryStep) (count : ℕ) (name : List ℕ) → length log ≤ count
    → IsOccupantToo (recorded_names (take count log) name) (recorded_names log name)
found_after_all log count name all what is = subst (λ l. IsOccupant (recorded_names l name) what) (take_all count log all) is

-- If nothing was found in any step, nothing has the name.
pub nothing_is_found : (log : List MemoryStep) (left : ℕ) (name wanted : List ℕ) → left ≡ 0
    → IsOccupantToo (recorded_names (take left log) wanted) (recorded_names log name) → recorded_names log name ≡ NoFile
nothing_is_found log left name wanted none same = same occupant.Nothing (ap (λ n. recorded_names (take n log) wanted) none)

-- The last of the steps that were not seen yet.
pub one_step_back : (log : List MemoryStep) (left : ℕ) (step : MemoryStep) (name wanted : List ℕ) → 0 < left → left ≤ length log
    → step ≡ get_or log (left - 1) step → IsOccupantToo (recorded_names (take left log) wanted) (recorded_names log name)
    → IsOccupantToo (after_step (recorded_names (take (left - 1) log)) (recorded_step step) wanted) (recorded_names log name)
one_step_back log left step name wanted some within is same what found =
    let one : left - 1 + 1 ≡ left = omega arith in
    let back = names_before_one log (left - 1) step (omega arith) in
    let equal : recorded_names (take left log) wanted ≡ after_step (recorded_names (take (left - 1) log)) (recorded_step step) wanted =
    ap (λ n. recorded_names (take n log) wanted) (sym one) ∙ ap (λ n. n wanted) back
    ∙ ap (λ s. after_step (recorded_names (take (left - 1) log)) (recorded_step s) wanted) (sym is) in
    same what (subst (λ e. IsOccupant e what) (sym equal) found)

-- What is known after a step of this kind.
known_after_kind : (step : MemoryStep) (it : StepKind) (name : List ℕ) (result : Lookup) → step.kind ≡ it
    → AreLookedUp (λ names. after_step names (named_step step.name.now it)) name result
    → AreLookedUp (λ names. after_step names (recorded_step step)) name result
known_after_kind step it name result is known =
    subst (λ k. AreLookedUp (λ names. after_step names (named_step step.name.now k)) name result) (sym is) known

-- What is known after this entry was found to have the name of the step.
abbrev KnownAt : (found : Occupant) → (step : MemoryStep) → (name : List ℕ) → Lookup → Type 0
KnownAt found step name result =
    (entry : Entry) → IsOccupant entry found → AreLookedUp (λ names. with_entry_at names step.name.now entry) name result

-- It was the step of a new file.
pub file_looked_up : (step : MemoryStep) (file : WrittenFile) (name : List ℕ) (result : Lookup)
    → (step.kind ≡ kind.Made file) ⊎ ((step.kind ≡ kind.Closed file) ⊎ (step.kind ≡ kind.NotClosed file))
    → KnownAt (occupant.File file.bytes) step name result → AreLookedUp (λ names. after_step names (recorded_step step)) name result
file_looked_up step file name result (inl is) known =
    known_after_kind step (kind.Made file) name result is (known (RegularFile file.bytes.now) refl)
file_looked_up step file name result (inr (inl is)) known =
    known_after_kind step (kind.Closed file) name result is (known (RegularFile file.bytes.now) refl)
file_looked_up step file name result (inr (inr is)) known =
    known_after_kind step (kind.NotClosed file) name result is (known (RegularFile file.bytes.now) refl)

-- It made a directory.
pub directory_looked_up : (step : MemoryStep) (name : List ℕ) (result : Lookup) → step.kind ≡ kind.DirectoryMade
    → KnownAt occupant.Directory step name result → AreLookedUp (λ names. after_step names (recorded_step step)) name result
directory_looked_up step name result is known =
    known_after_kind step kind.DirectoryMade name result is (known (Directory []) ([], refl))

-- It removed a file or a directory.
pub removed_looked_up : (step : MemoryStep) (name : List ℕ) (result : Lookup)
    → (step.kind ≡ kind.Removed) ⊎ (step.kind ≡ kind.DirectoryRemoved) → KnownAt occupant.Nothing step name result
    → AreLookedUp (λ names. after_step names (recorded_step step)) name result
removed_looked_up step name result (inl is) known = known_after_kind step kind.Removed name result is (known NoFile refl)
removed_looked_up step name result (inr is) known = known_after_kind step kind.DirectoryRemoved name result is (known NoFile refl)

-- It renamed one.
pub renamed_looked_up : (step : MemoryStep) (new_name : Bor (List ℕ)) (name : List ℕ) (result : Lookup)
    → (step.kind ≡ kind.Renamed new_name) ⊎ (step.kind ≡ kind.DirectoryRenamed new_name)
    → AreLookedUp (λ names. after_renaming names step.name.now new_name.now) name result
    → AreLookedUp (λ names. after_step names (recorded_step step)) name result
renamed_looked_up step new_name name result (inl is) known = known_after_kind step (kind.Renamed new_name) name result is known
renamed_looked_up step new_name name result (inr is) known = known_after_kind step (kind.DirectoryRenamed new_name) name result is known

-- An entry whose files change is the same occupant.
changed_files_keep : (change : List PayloadFile → List PayloadFile) (entry : Entry) → IsOccupantToo entry (with_files change entry)
changed_files_keep change (Directory files) occupant.Directory is = (change files, refl)
changed_files_keep change (Directory files) occupant.Nothing is = absurd (cc)
changed_files_keep change (Directory files) (occupant.File bytes) is = absurd (cc)
changed_files_keep change NoFile what is = is
changed_files_keep change (RegularFile bytes) what is = is
changed_files_keep change OtherFile what is = is
changed_files_keep change Unusable what is = is

-- So is what has a name if the files of a directory change.
changed_files_in_keep : (change : List PayloadFile → List PayloadFile) (names : Names) (directory name : List ℕ)
    → IsOccupantToo (names name) (with_files_in change names directory name)
changed_files_in_keep change names directory name what = at (bytes_eq name directory) refl
  where
    at : (b : Bool) → bytes_eq name directory ≡ b → IsOccupant (names name) what
        → IsOccupant (if b then with_files change (names directory) else names name) what
    at true same is =
        changed_files_keep change (names directory) what
        (subst (λ n. IsOccupant (names n) what) (same_bytes name directory same) is)
    at false differs is = is

-- After any other step each name has the same occupant.
pub other_step_keeps : (names : Names) (changed name : List ℕ) (it : StepKind) → ((file : WrittenFile) → it ≢ kind.Made file)
    → ((file : WrittenFile) → it ≢ kind.Closed file) → ((file : WrittenFile) → it ≢ kind.NotClosed file)
    → ((new_name : Bor (List ℕ)) → it ≢ kind.Renamed new_name) → it ≢ kind.Removed → it ≢ kind.DirectoryMade
    → ((new_name : Bor (List ℕ)) → it ≢ kind.DirectoryRenamed new_name) → it ≢ kind.DirectoryRemoved
    → IsOccupantToo (names name) (after_step names (named_step changed it) name)
other_step_keeps names changed name (kind.Made file) made closed unclosed renamed removed there moved gone what is = absurd (made file refl)
other_step_keeps names changed name (kind.Closed file) made closed unclosed renamed removed there moved gone what is =
    absurd (closed file refl)
other_step_keeps names changed name (kind.NotClosed file) made closed unclosed renamed removed there moved gone what is =
    absurd (unclosed file refl)
other_step_keeps names changed name (kind.Renamed to) made closed unclosed renamed removed there moved gone what is =
    absurd (renamed to refl)
other_step_keeps names changed name kind.Removed made closed unclosed renamed removed there moved gone what is = absurd (removed refl)
other_step_keeps names changed name kind.DirectoryMade made closed unclosed renamed removed there moved gone what is =
    absurd (there refl)
other_step_keeps names changed name (kind.DirectoryRenamed to) made closed unclosed renamed removed there moved gone what is =
    absurd (moved to refl)
other_step_keeps names changed name kind.DirectoryRemoved made closed unclosed renamed removed there moved gone what is =
    absurd (gone refl)
other_step_keeps names changed name (kind.MadeIn in_it file) made closed unclosed renamed removed there moved gone what is =
    changed_files_in_keep (with_file in_it.now (written_bytes (writing_trace file))) names changed name what is
other_step_keeps names changed name (kind.ClosedIn in_it file) made closed unclosed renamed removed there moved gone what is =
    changed_files_in_keep (with_file in_it.now (written_bytes (writing_trace file))) names changed name what is
other_step_keeps names changed name (kind.NotClosedIn in_it file) made closed unclosed renamed removed there moved gone what is =
    changed_files_in_keep (with_file in_it.now (written_bytes (writing_trace file))) names changed name what is
other_step_keeps names changed name (kind.RemovedIn in_it) made closed unclosed renamed removed there moved gone what is =
    changed_files_in_keep (without_file in_it.now) names changed name what is
other_step_keeps names changed name (kind.Opened bytes) made closed unclosed renamed removed there moved gone what is = is
other_step_keeps names changed name kind.NotOpened made closed unclosed renamed removed there moved gone what is = is
other_step_keeps names changed name (kind.ReaderClosed file) made closed unclosed renamed removed there moved gone what is = is
other_step_keeps names changed name kind.NameTaken made closed unclosed renamed removed there moved gone what is = is
other_step_keeps names changed name kind.NotMade made closed unclosed renamed removed there moved gone what is = is
other_step_keeps names changed name (kind.NotRenamed to) made closed unclosed renamed removed there moved gone what is = is
other_step_keeps names changed name kind.NotRemoved made closed unclosed renamed removed there moved gone what is = is
other_step_keeps names changed name (kind.NotMadeIn in_it) made closed unclosed renamed removed there moved gone what is = is
other_step_keeps names changed name (kind.DirectoryNotRenamed to) made closed unclosed renamed removed there moved gone what is = is
other_step_keeps names changed name (kind.NotRemovedIn in_it) made closed unclosed renamed removed there moved gone what is = is
other_step_keeps names changed name kind.DirectoryNotRemoved made closed unclosed renamed removed there moved gone what is = is

-- ---- all steps

contents_of_kind : (name : List ℕ) (it : StepKind) → HasContents (named_step name it)
contents_of_kind name (kind.Made file) = (file.bytes.now, refl)
contents_of_kind name (kind.Opened bytes) = tt
contents_of_kind name kind.NotOpened = tt
contents_of_kind name (kind.ReaderClosed file) = tt
contents_of_kind name kind.NameTaken = tt
contents_of_kind name kind.NotMade = tt
contents_of_kind name (kind.Closed file) = tt
contents_of_kind name (kind.NotClosed file) = tt
contents_of_kind name (kind.Renamed other) = tt
contents_of_kind name (kind.NotRenamed other) = tt
contents_of_kind name kind.Removed = tt
contents_of_kind name kind.NotRemoved = tt
contents_of_kind name kind.DirectoryMade = tt
contents_of_kind name (kind.MadeIn in_it file) = (file.bytes.now, refl)
contents_of_kind name (kind.NotMadeIn in_it) = tt
contents_of_kind name (kind.ClosedIn in_it file) = tt
contents_of_kind name (kind.NotClosedIn in_it file) = tt
contents_of_kind name (kind.DirectoryRenamed other) = tt
contents_of_kind name (kind.DirectoryNotRenamed other) = tt
contents_of_kind name (kind.RemovedIn in_it) = tt
contents_of_kind name (kind.NotRemovedIn in_it) = tt
contents_of_kind name kind.DirectoryRemoved = tt
contents_of_kind name kind.DirectoryNotRemoved = tt

have_contents : (log : List MemoryStep) → HaveContents (map recorded_step log)
have_contents [] = tt
have_contents (step ∷ log) = (contents_of_kind step.name.now step.kind, have_contents log)

pub all_recorded : (is_lost : Bool) (log : List MemoryStep) → is_lost ≡ false
    → AreRecorded (Some (recorded_names log)) (recorded_steps is_lost log)
all_recorded true log is = absurd (let no : true ≡ false = is in cc)
all_recorded false log is = record {
  all = map recorded_step log;
  are_steps = refl;
  are_names = refl;
  have_contents = have_contents log;
}
