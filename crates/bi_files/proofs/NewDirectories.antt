use Rattle.std.proofs.Common.{◌≡◌, ◌≢◌, ◌++◌, ◌∷◌, [], ◌∙◌, ◌<◌, ◌≤◌, ◌+◌, ◌⊎◌, ℕ, zero, suc, List, Option, Result, Ok, Err, map, take}
use Rattle.std.proofs.Common.{length, ap, arith, get_or, refl, string_bytes, subst, sym}
use Rattle.std.specs.Prelude.{OnOk, OnErr}
use Rattle.std.proofs.lemmas.List.{map_more, take_all}
use Rattle.bi_base.specs.Sinks.{Wrote}
use Rattle.bi_base.specs.Traces.{WriteTrace}
use Rattle.bi_base.specs.Writing.{WroteAndFlushed, WriteOrFlushStopped}
use Rattle.bi_base.specs.declared.fault.Error.{Error}
use Rattle.bi_commands.specs.ExtractingAll.{PayloadFile}
use Rattle.bi_commands.specs.Payloads.{payload_file}
use Rattle.bi_commands.specs.declared.extract_all.Payload.{Payload}
use Rattle.bi_files.specs.declared.saving.SaveError.TheVariants.{NotWritten}
use Rattle.bi_files.specs.Directories.{AreFilesNotPut, AreFilesPut, AreFilesRemoved, ClosingFilledFailed, FillingStopped, IsDirectoryMade}
use Rattle.bi_files.specs.Directories.{IsDirectoryNotInPlace, IsDirectoryNotSaved, IsFileFilled, IsFileNotFilled, IsFileNotPut, IsFilePut}
use Rattle.bi_files.specs.Directories.{IsDirectoryRemoved, NewDirectoryFailed, NextNotFilled, NextNotMade, SavesNoDirectory}
use Rattle.bi_files.specs.Files.{AreNamesTaken, ClosedIn, DirectoryMade, FileStep, IsBeside, IsNewFile, IsNoFile, KnownFiles, MadeIn}
use Rattle.bi_files.specs.Files.{NameHas, DirectoryNotRemoved, DirectoryRemoved, NotClosedIn, NotMadeIn, NotRemovedIn, RemovedIn, TookSteps}
use Rattle.bi_files.specs.Files.{no_files}
use Rattle.bi_files.proofs.NewFiles.{either}

-- A new directory gets its files one after another, and loses those that were made after a failure.

-- One more file was put into the directory.
pub files_put_next : (directory : List ℕ) (payloads : List PayloadFile) (payload : PayloadFile) (old middle new : Option (List FileStep))
    → AreFilesPut directory payloads old middle → IsFilePut directory payload middle new
    → AreFilesPut directory (payloads ++ payload ∷ []) old new
files_put_next directory [] payload old middle new are one = (new, subst (λ s. IsFilePut directory payload s new) are one, refl)
files_put_next directory (first ∷ later) payload old middle new are one =
    (are.0, are.1, files_put_next directory later payload are.0 middle new are.2 one)

-- One more file was removed from it, or that failed.
pub files_removed_next : {T E : Type 0} (directory : List ℕ) (payloads : List PayloadFile) (payload : PayloadFile)
    (old middle new : Option (List FileStep)) (result : Result T E) → AreFilesRemoved directory payloads old middle
    → OnOk result (TookSteps middle new (RemovedIn directory payload.name ∷ []))
    → OnErr result (TookSteps middle new (NotRemovedIn directory payload.name ∷ []))
    → AreFilesRemoved directory (payloads ++ payload ∷ []) old new
files_removed_next directory [] payload old middle new result are well badly = (
  new,
  subst (λ s. TookSteps s new (RemovedIn directory payload.name ∷ []) ⊎ TookSteps s new (NotRemovedIn directory payload.name ∷ []))
      are (either result well badly),
  refl,
)
files_removed_next directory (first ∷ later) payload old middle new result are well badly =
    (are.0, are.1, files_removed_next directory later payload are.0 middle new result are.2 well badly)

-- The file that was made was filled.
pub file_put : (directory : List ℕ) (payload : PayloadFile) (file : WriteTrace) (old made new : Option (List FileStep)) → IsNewFile file
    → TookSteps old made (MadeIn directory payload.name file ∷ []) → IsFileFilled directory payload file made new
    → IsFilePut directory payload old new
file_put directory payload file old made new fresh took filled =
    record { file = file; made = made; is_new = fresh; was_made = took; is_filled = filled }

-- It was not.
pub file_not_put : (directory : List ℕ) (payload : PayloadFile) (file : WriteTrace) (old made new : Option (List FileStep))
    → IsNewFile file → TookSteps old made (MadeIn directory payload.name file ∷ []) → IsFileNotFilled directory payload file made new
    → IsFileNotPut directory payload old new
file_not_put directory payload file old made new fresh took not =
    record { file = file; made = made; is_new = fresh; was_made = took; not_filled = not }

-- Writing to the new file or flushing it stopped.
pub filling_stopped : {T E : Type 0} (directory : List ℕ) (payload : PayloadFile) (file filled : WriteTrace)
    (old new : Option (List FileStep)) (written : Result (Unit {0}) Error) (error : Error) (closed : Result T E) → written ≡ Err error
    → (shown : List ℕ) → shown ≡ payload.name → Wrote WroteAndFlushed WriteOrFlushStopped file payload.bytes written filled
    → OnOk closed (TookSteps old new (ClosedIn directory shown filled ∷ []))
    → OnErr closed (TookSteps old new (NotClosedIn directory shown filled ∷ [])) → IsFileNotFilled directory payload file old new
filling_stopped directory payload file filled old new written error closed is shown shows wrote well badly =
    FillingStopped filled error
    (subst (λ (r : Result (Unit {0}) Error). Wrote WroteAndFlushed WriteOrFlushStopped file payload.bytes r filled) is wrote)
    (subst (λ n. TookSteps old new (ClosedIn directory n filled ∷ []) ⊎ TookSteps old new (NotClosedIn directory n filled ∷ [])) shows
    (either closed well badly))

-- All was written to it and flushed, and it could not be closed.
pub closing_filled_failed : {T E : Type 0} (directory : List ℕ) (payload : PayloadFile) (file filled : WriteTrace)
    (old new : Option (List FileStep)) (written : Result (Unit {0}) Error) (done : Unit {0}) (closed : Result T E) (error : E)
    → written ≡ Ok done → closed ≡ Err error → (shown : List ℕ) → shown ≡ payload.name
    → Wrote WroteAndFlushed WriteOrFlushStopped file payload.bytes written filled
    → OnErr closed (TookSteps old new (NotClosedIn directory shown filled ∷ [])) → IsFileNotFilled directory payload file old new
closing_filled_failed {T} {E} directory payload file filled old new written done closed error is fails shown shows wrote badly =
    ClosingFilledFailed filled
    (subst (λ (r : Result (Unit {0}) Error). Wrote WroteAndFlushed WriteOrFlushStopped file payload.bytes r filled) is wrote)
    (subst (λ n. TookSteps old new (NotClosedIn directory n filled ∷ [])) shows
    (subst (λ (r : Result T E). OnErr r (TookSteps old new (NotClosedIn directory shown filled ∷ []))) fails badly))

-- The next name is that of the new directory.
pub directory_made_beside : (files later : KnownFiles) (name beside shown : List ℕ) (number : ℕ) (old middle new : Option (List FileStep))
    → number < 10000 → AreNamesTaken name number old middle → later ≡ files → IsBeside name number beside → shown ≡ beside → shown ≢ name
    → NameHas later shown IsNoFile → TookSteps middle new (DirectoryMade shown ∷ []) → IsDirectoryMade files name beside old new
directory_made_beside files later name beside shown number old middle new within are same is shows other unused took = record {
  number = number;
  tried = middle;
  are_taken = are;
  is_name = record { within = within; is_beside = is; is_another = λ own. other (shows ∙ own) };
  is_unused = subst (λ f. NameHas f beside IsNoFile) same (subst (λ n. NameHas later n IsNoFile) shows unused);
  made = subst (λ n. TookSteps middle new (DirectoryMade n ∷ [])) shows took;
}

-- Without files no directory is saved.
pub no_directory_is_saved : SavesNoDirectory no_files
no_directory_is_saved name payloads old new saved = saved.is_unused

-- ---- the payloads of a slice

-- A list of payloads, around the one at an index.
payloads_around : (payloads : List Payload) (index : ℕ) (d : Payload) → index < length payloads
    → (later : List PayloadFile)
    × (map payload_file payloads ≡ map payload_file (take index payloads) ++ payload_file (get_or payloads index d) ∷ later)
payloads_around [] index d within = absurd (omega (arith, within))
payloads_around (payload ∷ payloads) zero d within = (map payload_file payloads, refl)
payloads_around (payload ∷ payloads) (suc index) d within =
    let around = payloads_around payloads index d (omega (arith, within)) in
    (around.0, ap (λ (l : List PayloadFile). payload_file payload ∷ l) around.1)

-- The next file could not be made.
pub next_not_made : (directory : List ℕ) (payloads : List Payload) (index made : ℕ) (payload : Payload) (shown : List ℕ)
    (old put new : Option (List FileStep)) → made ≡ index → index < length payloads → payload ≡ get_or payloads index payload
    → shown ≡ string_bytes payload.file_name → AreFilesPut directory (map payload_file (take index payloads)) old put
    → TookSteps put new (NotMadeIn directory shown ∷ [])
    → AreFilesNotPut directory (map payload_file payloads) (map payload_file (take made payloads)) old new
next_not_made directory payloads index made payload shown old put new count within is shows are took =
    let around = payloads_around payloads index payload within in
    subst (λ m. AreFilesNotPut directory (map payload_file payloads) (map payload_file (take m payloads)) old new) (sym count)
    (NextNotMade (payload_file payload) around.0 put
    (subst (λ (p : Payload). map payload_file payloads ≡ map payload_file (take index payloads) ++ payload_file p ∷ around.0) (sym is)
    around.1)
    are (subst (λ n. TookSteps put new (NotMadeIn directory n ∷ [])) shows took))

-- It was made, and could not be filled.
pub next_not_filled : (directory : List ℕ) (payloads : List Payload) (index made : ℕ) (payload : Payload) (shown : List ℕ)
    (file : WriteTrace) (old put created new : Option (List FileStep)) → made ≡ index + 1 → index < length payloads
    → payload ≡ get_or payloads index payload → shown ≡ string_bytes payload.file_name
    → AreFilesPut directory (map payload_file (take index payloads)) old put → IsNewFile file
    → TookSteps put created (MadeIn directory shown file ∷ []) → IsFileNotFilled directory (payload_file payload) file created new
    → AreFilesNotPut directory (map payload_file payloads) (map payload_file (take made payloads)) old new
next_not_filled directory payloads index made payload shown file old put created new count within is shows are fresh took not =
    let around = payloads_around payloads index payload within in
    let more = map_more payload_file payloads index payload within in
    subst (λ m. AreFilesNotPut directory (map payload_file payloads) (map payload_file (take m payloads)) old new) (sym count)
    (NextNotFilled (map payload_file (take index payloads)) (payload_file payload) around.0 put
    (subst (λ (p : Payload). map payload_file payloads ≡ map payload_file (take index payloads) ++ payload_file p ∷ around.0) (sym is)
    around.1)
    (subst (λ (p : Payload). map payload_file (take (index + 1) payloads) ≡ map payload_file (take index payloads) ++ payload_file p ∷ [])
    (sym is) more)
    are
    (file_not_put directory (payload_file payload) file put created new fresh
    (subst (λ n. TookSteps put created (MadeIn directory n file ∷ [])) shows took) not))

-- It was made and filled.
pub next_put : (directory : List ℕ) (payloads : List Payload) (index : ℕ) (payload : Payload) (shown : List ℕ) (file : WriteTrace)
    (old put created new : Option (List FileStep)) → index < length payloads → payload ≡ get_or payloads index payload
    → shown ≡ string_bytes payload.file_name → AreFilesPut directory (map payload_file (take index payloads)) old put → IsNewFile file
    → TookSteps put created (MadeIn directory shown file ∷ []) → IsFileFilled directory (payload_file payload) file created new
    → AreFilesPut directory (map payload_file (take (index + 1) payloads)) old new
next_put directory payloads index payload shown file old put created new within is shows are fresh took filled =
    subst (λ l. AreFilesPut directory l old new) (sym (map_more payload_file payloads index payload within))
    (subst (λ (p : Payload). AreFilesPut directory (map payload_file (take index payloads) ++ payload_file p ∷ []) old new) is
    (files_put_next directory (map payload_file (take index payloads)) (payload_file payload) old put new are
    (file_put directory (payload_file payload) file put created new fresh
    (subst (λ n. TookSteps put created (MadeIn directory n file ∷ [])) shows took) filled)))

-- It was removed, or that failed.
pub next_removed : {T E : Type 0} (directory : List ℕ) (payloads : List Payload) (index : ℕ) (payload : Payload) (shown : List ℕ)
    (old middle new : Option (List FileStep)) (result : Result T E) → index < length payloads → payload ≡ get_or payloads index payload
    → shown ≡ string_bytes payload.file_name → AreFilesRemoved directory (map payload_file (take index payloads)) old middle
    → OnOk result (TookSteps middle new (RemovedIn directory shown ∷ []))
    → OnErr result (TookSteps middle new (NotRemovedIn directory shown ∷ []))
    → AreFilesRemoved directory (map payload_file (take (index + 1) payloads)) old new
next_removed {T} {E} directory payloads index payload shown old middle new result within is shows are well badly =
    subst (λ l. AreFilesRemoved directory l old new) (sym (map_more payload_file payloads index payload within))
    (subst (λ (p : Payload). AreFilesRemoved directory (map payload_file (take index payloads) ++ payload_file p ∷ []) old new) is
    (files_removed_next directory (map payload_file (take index payloads)) (payload_file payload) old middle new result are
    (subst (λ n. OnOk result (TookSteps middle new (RemovedIn directory n ∷ []))) shows well)
    (subst (λ n. OnErr result (TookSteps middle new (NotRemovedIn directory n ∷ []))) shows badly)))

-- All were removed, and then the directory, or that failed.
pub directory_removed : {T E : Type 0} (directory : List ℕ) (made : List PayloadFile) (old emptied new : Option (List FileStep))
    (result : Result T E) → AreFilesRemoved directory made old emptied
    → OnOk result (TookSteps emptied new (DirectoryRemoved directory ∷ []))
    → OnErr result (TookSteps emptied new (DirectoryNotRemoved directory ∷ [])) → IsDirectoryRemoved directory made old new
directory_removed directory made old emptied new result are well badly =
    record { emptied = emptied; are_removed = are; removed = either result well badly }

-- A new directory was made and did not take the name, and was removed, or that failed.
pub new_directory_failed : (files : KnownFiles) (name : List ℕ) (payloads in_it : List PayloadFile) (beside shown again : List ℕ)
    (old made failed new : Option (List FileStep)) → NameHas files name IsNoFile → IsDirectoryMade files name beside old made
    → shown ≡ beside → IsDirectoryNotInPlace name shown payloads in_it made failed → again ≡ beside
    → IsDirectoryRemoved again in_it failed new → IsDirectoryNotSaved files name payloads NotWritten old new
new_directory_failed files name payloads in_it beside shown again old made failed new unused is shows not same gone =
    NewDirectoryFailed beside in_it made failed unused is
    (subst (λ b. IsDirectoryNotInPlace name b payloads in_it made failed) shows not)
    (subst (λ b. IsDirectoryRemoved b in_it failed new) same gone) refl

-- All payloads are the first ones up to the end.
pub all_put : (directory : List ℕ) (payloads : List Payload) (index : ℕ) (old new : Option (List FileStep)) → length payloads ≤ index
    → AreFilesPut directory (map payload_file (take index payloads)) old new → AreFilesPut directory (map payload_file payloads) old new
all_put directory payloads index old new past are =
    subst (λ (l : List Payload). AreFilesPut directory (map payload_file l) old new) (take_all index payloads past) are

pub all_removed : (directory : List ℕ) (payloads : List Payload) (index : ℕ) (old new : Option (List FileStep)) → length payloads ≤ index
    → AreFilesRemoved directory (map payload_file (take index payloads)) old new
    → AreFilesRemoved directory (map payload_file payloads) old new
all_removed directory payloads index old new past are =
    subst (λ (l : List Payload). AreFilesRemoved directory (map payload_file l) old new) (take_all index payloads past) are
