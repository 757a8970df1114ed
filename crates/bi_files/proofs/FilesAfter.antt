use Rattle.std.proofs.Common.{◌≡◌, ◌≢◌, ◌++◌, ◌∷◌, [], ◌∙◌, ◌⊎◌, ℕ, Bool, true, false, List, Option, Some, None, map, ap, inl, inr, sym}
use Rattle.std.proofs.Common.{subst, refl}
use Rattle.std.specs.Prelude.{if◌then◌else◌, bytes_eq, IfSome, unwrap_or}
use Rattle.std.specs.Io.KnownBytes.{Appends}
use Rattle.bi_base.proofs.EqualBytes.{same_bytes, other_bytes}
use Rattle.bi_base.specs.Traces.{WriteTrace}
use Rattle.bi_files.specs.declared.saving.SaveError.{SaveError}
use Rattle.bi_files.specs.Files.{Entry, NoFile, RegularFile, FileStep, IsNoFile, Names, TookSteps, HasNoBytes}
use Rattle.bi_files.specs.Files.{Made, NameTaken, NotMade, Closed, NotClosed, Renamed, NotRenamed, Removed, NotRemoved}
use Rattle.bi_files.specs.Files.{AreNamesTaken, IsMadeBeside, IsNotMade, NoMemoryForName, AllNamesTaken, MakingFailed, IsNotWrittenFile}
use Rattle.bi_files.specs.Files.{WritingStopped, ClosingFailed, IsNotPutInPlace, FillingFailed, RenamingFailed, IsSaved, IsNotSaved}
use Rattle.bi_files.specs.Files.{CannotBeReplaced, NoNewFile, NewFileFailed}
use Rattle.bi_files.specs.FilesAfter.{with_entry_at, written_file, after_step, after_steps, HasFile, OthersAreSame, AreSameNames}
use Rattle.bi_files.specs.FilesAfter.{HaveContents}
use Rattle.bi_files.specs.FilesAfter.{LeavesNewDirectory, LeavesNewFile}
use Rattle.bi_files.proofs.NewFiles.{steps_in_turn}

-- What has each name after an output was saved, or was not. `base` is what has each name before all steps.

-- ---- names

pub with_entry_at-same : (names : Names) (name : List ℕ) (entry : Entry) → with_entry_at names name entry name ≡ entry
with_entry_at-same names name entry = at (bytes_eq name name) refl
  where
    at : (b : Bool) → bytes_eq name name ≡ b → (if b then entry else names name) ≡ entry
    at true same = refl
    at false other = absurd (other_bytes name name other refl)

pub with_entry_at-other : (names : Names) (name other : List ℕ) (entry : Entry) → other ≢ name
    → with_entry_at names name entry other ≡ names other
with_entry_at-other names name other entry apart = at (bytes_eq other name) refl
  where
    at : (b : Bool) → bytes_eq other name ≡ b → (if b then entry else names other) ≡ names other
    at true same = absurd (apart (same_bytes other name same))
    at false differs = refl

pub is_no_file : (entry : Entry) → IsNoFile entry → entry ≡ NoFile
is_no_file NoFile is = refl
is_no_file entry is = absurd is

-- ---- steps

pub after_steps-append : (names : Names) (first second : List FileStep)
    → after_steps names (first ++ second) ≡ after_steps (after_steps names first) second
after_steps-append names [] second = refl
after_steps-append names (step ∷ first) second = after_steps-append (after_step names step) first second

pub taken_change_nothing : (taken : List (List ℕ)) (names : Names) → after_steps names (map NameTaken taken) ≡ names
taken_change_nothing [] names = refl
taken_change_nothing (name ∷ taken) names = taken_change_nothing taken names

-- Each name but this one has what it had.
abbrev pub Touches : (base : Names) → (name : List ℕ) → (old new : Option (List FileStep)) → Type 0
Touches base name old new =
    IfSome new (λ after. (before : List FileStep) × (old ≡ Some before)
    × OthersAreSame name (after_steps base before) (after_steps base after))

pub touches_in_turn : (base : Names) (name : List ℕ) (old middle new : Option (List FileStep)) → Touches base name old middle
    → Touches base name middle new → Touches base name old new
touches_in_turn base name old middle None one other = tt
touches_in_turn base name old None (Some after) one other = absurd (let none : None ≡ Some other.0 = other.1 in cc)
touches_in_turn base name old (Some between) (Some after) one other =
    let same : between ≡ other.0 = let is : Some between ≡ Some other.0 = other.1 in cc in
    (one.0, one.1, λ q apart. other.2 q apart ∙ ap (λ l. after_steps base l q) (sym same) ∙ one.2 q apart)

pub touches_with : (base : Names) (name : List ℕ) (old new : Option (List FileStep)) (steps : List FileStep)
    → ((names : Names) → OthersAreSame name names (after_steps names steps)) → TookSteps old new steps → Touches base name old new
touches_with base name old None steps others took = tt
touches_with base name old (Some after) steps others took = (
  took.0,
  took.1,
  λ q apart.
      ap (λ l. after_steps base l q) took.2 ∙ ap (λ n. n q) (after_steps-append base took.0 steps)
      ∙ others (after_steps base took.0) q apart,
)

-- Each name has what it had.
abbrev pub KeepsNames : (base : Names) → (old new : Option (List FileStep)) → Type 0
KeepsNames base old new =
    IfSome new (λ after. (before : List FileStep) × (old ≡ Some before) × (after_steps base after ≡ after_steps base before))

pub keeps_same : (base : Names) (old new : Option (List FileStep)) → new ≡ old → KeepsNames base old new
keeps_same base old None is = tt
keeps_same base old (Some after) is = (after, sym is, refl)

pub keeps_in_turn : (base : Names) (old middle new : Option (List FileStep)) → KeepsNames base old middle
    → KeepsNames base middle new → KeepsNames base old new
keeps_in_turn base old middle None one other = tt
keeps_in_turn base old None (Some after) one other = absurd (let none : None ≡ Some other.0 = other.1 in cc)
keeps_in_turn base old (Some between) (Some after) one other =
    let same : between ≡ other.0 = let is : Some between ≡ Some other.0 = other.1 in cc in
    (one.0, one.1, other.2 ∙ ap (λ l. after_steps base l) (sym same) ∙ one.2)

pub keeps_with : (base : Names) (old new : Option (List FileStep)) (steps : List FileStep)
    → ((names : Names) → after_steps names steps ≡ names) → TookSteps old new steps → KeepsNames base old new
keeps_with base old None steps same took = tt
keeps_with base old (Some after) steps same took =
    (took.0, took.1, ap (λ l. after_steps base l) took.2 ∙ after_steps-append base took.0 steps ∙ same (after_steps base took.0))

pub names_taken_keep : (base : Names) (name : List ℕ) (count : ℕ) (old new : Option (List FileStep)) → AreNamesTaken name count old new
    → KeepsNames base old new
names_taken_keep base name count old new are = keeps_with base old new (map NameTaken are.taken) (taken_change_nothing are.taken) are.steps

-- ---- a new file

-- The steps to a new file that was made.
made_steps : (name beside : List ℕ) (file : WriteTrace) (old made tried : Option (List FileStep)) (number : ℕ)
    (are : AreNamesTaken name number old tried) → TookSteps tried made (Made beside file ∷ [])
    → TookSteps old made (map NameTaken are.taken ++ Made beside file ∷ [])
made_steps name beside file old made tried number are took =
    steps_in_turn old tried made (map NameTaken are.taken) (Made beside file ∷ []) are.steps took

made_touches : (base : Names) (files : Option Names) (name beside : List ℕ) (file : WriteTrace) (old made : Option (List FileStep))
    → IsMadeBeside files name beside file old made → Touches base beside old made
made_touches base files name beside file old made is =
    touches_with base beside old made (map NameTaken is.are_taken.taken ++ Made beside file ∷ [])
    (λ names q apart.
    ap (λ n. n q) (after_steps-append names (map NameTaken is.are_taken.taken) (Made beside file ∷ []))
    ∙ ap (λ n. with_entry_at n beside (written_file file) q) (taken_change_nothing is.are_taken.taken names)
    ∙ with_entry_at-other names beside q (written_file file) apart)
    (made_steps name beside file old made is.tried is.number is.are_taken is.made)

closed_touches : (base : Names) (beside : List ℕ) (file : WriteTrace) (old new : Option (List FileStep))
    → TookSteps old new (Closed beside file ∷ []) → Touches base beside old new
closed_touches base beside file old new took =
    touches_with base beside old new (Closed beside file ∷ [])
    (λ names q apart. with_entry_at-other names beside q (written_file file) apart) took

not_closed_touches : (base : Names) (beside : List ℕ) (file : WriteTrace) (old new : Option (List FileStep))
    → TookSteps old new (NotClosed beside file ∷ []) → Touches base beside old new
not_closed_touches base beside file old new took =
    touches_with base beside old new (NotClosed beside file ∷ [])
    (λ names q apart. with_entry_at-other names beside q (written_file file) apart)
    took

not_written_touches : (base : Names) (beside bytes : List ℕ) (file : WriteTrace) (old new : Option (List FileStep))
    → IsNotWrittenFile beside bytes file old new → Touches base beside old new
not_written_touches base beside bytes file old new (WritingStopped filled error stopped (inl closed)) =
    closed_touches base beside filled old new closed
not_written_touches base beside bytes file old new (WritingStopped filled error stopped (inr not)) =
    not_closed_touches base beside filled old new not
not_written_touches base beside bytes file old new (ClosingFailed filled wrote not) = not_closed_touches base beside filled old new not

not_put_touches : (base : Names) (name beside bytes : List ℕ) (file : WriteTrace) (old new : Option (List FileStep))
    → IsNotPutInPlace name beside bytes file old new → Touches base beside old new
not_put_touches base name beside bytes file old new (FillingFailed not) = not_written_touches base beside bytes file old new not
not_put_touches base name beside bytes file old new (RenamingFailed closed is not) =
    touches_in_turn base beside old closed new (closed_touches base beside is.filled old closed is.closed)
    (touches_with base beside closed new (NotRenamed beside name ∷ []) (λ names q apart. refl) not)

-- ---- not saved

pub not_made_keeps : (base : Names) (name : List ℕ) (error : SaveError) (old new : Option (List FileStep)) → IsNotMade name error old new
    → KeepsNames base old new
not_made_keeps base name error old new (NoMemoryForName number within taken why) = names_taken_keep base name number old new taken
not_made_keeps base name error old new (AllNamesTaken taken why) = names_taken_keep base name 10000 old new taken
not_made_keeps base name error old new (MakingFailed number beside tried taken is took why) =
    keeps_in_turn base old tried new (names_taken_keep base name number old tried taken)
    (keeps_with base tried new (NotMade beside ∷ []) (λ names. refl) took)

-- What a failure leaves, if the steps are known.
abbrev pub LeftAfterFailure : (base names : Names) → (new : Option (List FileStep)) → Type 0
LeftAfterFailure base names new =
    IfSome new (λ after.
    AreSameNames names (after_steps base after)
    ⊎ (LeavesNewFile names (after_steps base after) after ⊎ LeavesNewDirectory names (after_steps base after) after))

pub kept_is_left : (base names : Names) (old new : Option (List FileStep))
    → ((before : List FileStep) → old ≡ Some before → after_steps base before ≡ names) → KeepsNames base old new
    → LeftAfterFailure base names new
kept_is_left base names old None are keeps = tt
kept_is_left base names old (Some after) are keeps = inl (λ q. ap (λ n. n q) (keeps.2 ∙ are keeps.0 keeps.1))

pub removed_is_left : (base names : Names) (beside : List ℕ) (old failed new : Option (List FileStep)) (step : FileStep)
    → ((before : List FileStep) → old ≡ Some before → after_steps base before ≡ names) → names beside ≡ NoFile
    → Touches base beside old failed → ((n : Names) → after_step n step ≡ with_entry_at n beside NoFile)
    → TookSteps failed new (step ∷ []) → LeftAfterFailure base names new
removed_is_left base names beside old failed None step are unused touches removes took = tt
removed_is_left base names beside old None (Some after) step are unused touches removes took =
    absurd (let none : None ≡ Some took.0 = took.1 in cc)
removed_is_left base names beside old (Some between) (Some after) step are unused touches removes took =
    let same : between ≡ took.0 = let is : Some between ≡ Some took.0 = took.1 in cc in
    let now : (q : List ℕ) → after_steps base after q ≡ with_entry_at (after_steps base between) beside NoFile q =
    λ q.
    ap (λ l. after_steps base l q) took.2 ∙ ap (λ n. n q) (after_steps-append base took.0 (step ∷ []))
    ∙ ap (λ n. n q) (removes (after_steps base took.0))
    ∙ ap (λ l. with_entry_at (after_steps base l) beside NoFile q) (sym same)
    in
    inl (λ q. at q (bytes_eq q beside) refl (now q))
  where
    at : (q : List ℕ) (b : Bool) → bytes_eq q beside ≡ b
        → after_steps base after q ≡ with_entry_at (after_steps base between) beside NoFile q → after_steps base after q ≡ names q
    at q true is now =
        let same = same_bytes q beside is in
        now ∙ ap (λ n. with_entry_at (after_steps base between) beside NoFile n) same
        ∙ with_entry_at-same (after_steps base between) beside NoFile
        ∙ sym unused ∙ ap (λ n. names n) (sym same)
    at q false is now =
        let apart = other_bytes q beside is in
        now ∙ with_entry_at-other (after_steps base between) beside q NoFile apart ∙ touches.2 q apart
        ∙ ap (λ n. n q) (are touches.0 touches.1)

not_removed_is_left : (base names : Names) (beside : List ℕ) (old failed new : Option (List FileStep))
    → ((before : List FileStep) → old ≡ Some before → after_steps base before ≡ names) → names beside ≡ NoFile
    → Touches base beside old failed → TookSteps failed new (NotRemoved beside ∷ []) → LeftAfterFailure base names new
not_removed_is_left base names beside old failed new are unused touches took =
    left new took
    (touches_in_turn base beside old failed new touches
    (touches_with base beside failed new (NotRemoved beside ∷ []) (λ n q apart. refl) took))
  where
    left : (new : Option (List FileStep)) → TookSteps failed new (NotRemoved beside ∷ []) → Touches base beside old new
        → LeftAfterFailure base names new
    left None took touches = tt
    left (Some after) took touches =
        inr (inl (record {
          beside = beside;
          earlier = took.0;
          not_removed = took.2;
          was_unused = unused;
          others_are_same = λ q apart. touches.2 q apart ∙ ap (λ n. n q) (are touches.0 touches.1);
        }))

pub not_saved_leaves : (base names : Names) (name bytes : List ℕ) (error : SaveError) (old new : Option (List FileStep))
    → ((before : List FileStep) → old ≡ Some before → after_steps base before ≡ names) → IsNotSaved (Some names) name bytes error old new
    → LeftAfterFailure base names new
not_saved_leaves base names name bytes error old new are (CannotBeReplaced can same why) =
    kept_is_left base names old new are (keeps_same base old new same)
not_saved_leaves base names name bytes error old new are (NoNewFile can not_made) =
    kept_is_left base names old new are (not_made_keeps base name error old new not_made)
not_saved_leaves base names name bytes error old new are (NewFileFailed beside file made failed can is not_put (inl took) why) =
    removed_is_left base names beside old failed new (Removed beside) are (is_no_file (names beside) is.is_unused)
    (touches_in_turn base beside old made failed (made_touches base (Some names) name beside file old made is)
    (not_put_touches base name beside bytes file made failed not_put))
    (λ n. refl) took
not_saved_leaves base names name bytes error old new are (NewFileFailed beside file made failed can is not_put (inr took) why) =
    not_removed_is_left base names beside old failed new are (is_no_file (names beside) is.is_unused)
    (touches_in_turn base beside old made failed (made_touches base (Some names) name beside file old made is)
    (not_put_touches base name beside bytes file made failed not_put))
    took

-- ---- saved

-- The bytes that were written to a new file whose bytes are known.
pub filled_file : (old new : Option (List ℕ)) (bytes : List ℕ) → (known : (held : List ℕ) × (old ≡ Some held)) → HasNoBytes old
    → Appends old new bytes → unwrap_or new [] ≡ bytes
filled_file None new bytes known none appends = absurd (let no : None ≡ Some known.0 = known.1 in cc)
filled_file (Some held) None bytes known none appends = absurd appends
filled_file (Some held) (Some now) bytes known none appends = appends ∙ ap (λ l. l ++ bytes) none

pub HaveContents-later : (first second : List FileStep) → HaveContents (first ++ second) → HaveContents second
HaveContents-later [] second have = have
HaveContents-later (step ∷ first) second have = HaveContents-later first second have.1

pub HaveContents-first : (first second : List FileStep) → HaveContents (first ++ second) → HaveContents first
HaveContents-first [] second have = tt
HaveContents-first (step ∷ first) second have = (have.0, HaveContents-first first second have.1)

-- What has each name after names were taken and then three steps.
after_three : (names : Names) (taken : List (List ℕ)) (one two three : FileStep)
    → after_steps names (((map NameTaken taken ++ one ∷ []) ++ two ∷ []) ++ three ∷ [])
    ≡ after_step (after_step (after_step names one) two) three
after_three names taken one two three =
    after_steps-append names ((map NameTaken taken ++ one ∷ []) ++ two ∷ []) (three ∷ [])
    ∙ ap (λ n. after_step n three)
    (after_steps-append names (map NameTaken taken ++ one ∷ []) (two ∷ [])
    ∙ ap (λ n. after_step n two)
    (after_steps-append names (map NameTaken taken) (one ∷ []) ∙ ap (λ n. after_step n one) (taken_change_nothing taken names)))

-- What has each name after a new file was made, was filled and took the name.
renamed_has_file : (names new : Names) (name beside bytes : List ℕ) (first filled : Entry) → beside ≢ name → names beside ≡ NoFile
    → filled ≡ RegularFile bytes
    → ((q : List ℕ) → new q
    ≡ with_entry_at (with_entry_at (with_entry_at (with_entry_at names beside first) beside filled) beside NoFile) name
    (with_entry_at (with_entry_at names beside first) beside filled beside) q)
    → HasFile names new name bytes
renamed_has_file names new name beside bytes first filled apart unused is now = record {
  has = now name ∙ with_entry_at-same with_none name (with_filled beside) ∙ with_entry_at-same with_first beside filled ∙ is;
  others_are_same = λ q other. now q ∙ with_entry_at-other with_none name q (with_filled beside) other ∙ at q (bytes_eq q beside) refl;
}
  where
    with_first : Names
    with_first = with_entry_at names beside first

    with_filled : Names
    with_filled = with_entry_at with_first beside filled

    with_none : Names
    with_none = with_entry_at with_filled beside NoFile

    at : (q : List ℕ) (b : Bool) → bytes_eq q beside ≡ b → with_none q ≡ names q
    at q true same =
        let is : q ≡ beside = same_bytes q beside same in
        ap (λ n. with_none n) is ∙ with_entry_at-same with_filled beside NoFile ∙ sym unused ∙ ap (λ n. names n) (sym is)
    at q false differs =
        let other = other_bytes q beside differs in
        with_entry_at-other with_filled beside q NoFile other ∙ with_entry_at-other with_first beside q filled other
        ∙ with_entry_at-other names beside q first other

pub saved_leaves : (base names : Names) (name bytes : List ℕ) (old new : Option (List FileStep))
    → ((before : List FileStep) → old ≡ Some before → after_steps base before ≡ names) → IsSaved (Some names) name bytes old new
    → IfSome new HaveContents → IfSome new (λ after. HasFile names (after_steps base after) name bytes)
saved_leaves base names name bytes old None are saved contents = tt
saved_leaves base names name bytes old (Some after) are saved contents =
    let put = saved.is_put_in_place in
    let made = saved.is_made in
    let beside = saved.beside in
    let filled = put.is_filled.filled in
    let taken = made.are_taken.taken in
    let one = made_steps name beside saved.file old saved.made made.tried made.number made.are_taken made.made in
    let two = steps_in_turn old saved.made put.closed (map NameTaken taken ++ Made beside saved.file ∷ []) (Closed beside filled ∷ []) one
    put.is_filled.closed in
    let all : TookSteps old (Some after)
    (((map NameTaken taken ++ Made beside saved.file ∷ []) ++ Closed beside filled ∷ []) ++ Renamed beside name ∷ [])
    = steps_in_turn old put.closed (Some after) ((map NameTaken taken ++ Made beside saved.file ∷ []) ++ Closed beside filled ∷ [])
    (Renamed beside name ∷ []) two put.renamed
    in
    let first = map NameTaken taken ++ Made beside saved.file ∷ [] in
    let have = HaveContents-later all.0 ((first ++ Closed beside filled ∷ []) ++ Renamed beside name ∷ [])
    (subst HaveContents all.2 contents) in
    let known =
    HaveContents-later (map NameTaken taken) (Made beside saved.file ∷ [])
    (HaveContents-first first (Closed beside filled ∷ [])
    (HaveContents-first (first ++ Closed beside filled ∷ []) (Renamed beside name ∷ []) have))
    in
    let now =
    ap (λ l. after_steps base l) all.2
    ∙ after_steps-append base all.0 ((first ++ Closed beside filled ∷ []) ++ Renamed beside name ∷ [])
    ∙ ap (λ n. after_steps n ((first ++ Closed beside filled ∷ []) ++ Renamed beside name ∷ [])) (are all.0 all.1)
    ∙ after_three names taken (Made beside saved.file) (Closed beside filled) (Renamed beside name)
    in
    renamed_has_file names (after_steps base after) name beside bytes (written_file saved.file) (written_file filled)
    made.is_name.is_another (is_no_file (names beside) made.is_unused)
    (ap (λ b. RegularFile b)
    (filled_file saved.file.contents filled.contents bytes known.0 made.is_new.has_no_bytes put.is_filled.is_filled.written))
    (λ q. ap (λ n. n q) now)
