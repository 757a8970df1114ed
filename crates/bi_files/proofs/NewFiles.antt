use Rattle.std.proofs.Common.{◌≡◌, ◌≢◌, ◌++◌, ◌∷◌, [], ◌∙◌, ◌<◌, ◌+◌, ◌⊎◌, ℕ, List, Option, Some, None, map, Result}
use Rattle.std.proofs.Common.{OnOk, OnErr, IfErr, Ok, Err, ap, subst, sym, inl, inr, refl}
use Rattle.bi_base.specs.Sinks.{Wrote}
use Rattle.bi_base.specs.Traces.{WriteTrace}
use Rattle.bi_base.specs.Writing.{WroteAndFlushed, WriteOrFlushStopped}
use Rattle.bi_base.specs.declared.fault.Error.{Error}
use Rattle.bi_files.specs.declared.saving.SaveError.{SaveError}
use Rattle.bi_files.specs.declared.saving.SaveError.TheVariants.{NotWritten}
use Rattle.std.proofs.lemmas.List.{append_assoc, append-nil, map_push}
use Rattle.bi_files.specs.Files.{AreNamesTaken, NoNumbers, OwnName, OneMoreName, Closed, ClosingFailed, KnownFiles, FileStep, NameHas}
use Rattle.bi_files.specs.Files.{IsBeside, IsNotWrittenFile}
use Rattle.bi_files.specs.Files.{IsMadeBeside, IsNewFile, IsNoFile, IsNotMade, Made}
use Rattle.bi_files.specs.Files.{IsNotPutInPlace, IsNotSaved, MakingFailed, MayBeReplaced, NameTaken, NewFileFailed, NotClosed, NotMade}
use Rattle.bi_files.specs.Files.{NotRemoved, Removed, SavesNothing, TookSteps, WritingStopped, no_files}

-- A new file beside a file gets the first name that nothing has. If it cannot be written or put in place, it is removed, or that fails.

-- ---- steps in turn

-- No step was taken.
pub no_steps : (now : Option (List FileStep)) → TookSteps now now []
no_steps None = tt
no_steps (Some steps) = (steps, refl, sym (append-nil steps))

-- Some steps were taken, and then others.
pub steps_in_turn : (old middle new : Option (List FileStep)) (first second : List FileStep) → TookSteps old middle first
    → TookSteps middle new second → TookSteps old new (first ++ second)
steps_in_turn old middle None first second one other = tt
steps_in_turn old None (Some after) first second one other = absurd (let none : None ≡ Some other.0 = other.1 in cc)
steps_in_turn old (Some between) (Some after) first second one other =
    let same : between ≡ other.0 = let is : Some between ≡ Some other.0 = other.1 in cc in
    (one.0, one.1, other.2 ∙ ap (λ l. l ++ second) (sym same ∙ one.2) ∙ append_assoc one.0 first second)

-- ---- names that were tried

-- No name was tried.
pub none_tried : (name : List ℕ) (now : Option (List FileStep)) → AreNamesTaken name 0 now now
none_tried name now = record { taken = []; are_names = NoNumbers; steps = no_steps now }

-- The next name is that of the file itself.
pub own_name_tried : (name beside shown : List ℕ) (number : ℕ) (old new : Option (List FileStep)) → AreNamesTaken name number old new
    → IsBeside name number beside → shown ≡ beside → shown ≡ name → AreNamesTaken name (number + 1) old new
own_name_tried name beside shown number old new are is shows same = record {
  taken = are.taken;
  are_names = OwnName number are.taken are.are_names (subst (IsBeside name number) (sym shows ∙ same) is);
  steps = are.steps;
}

-- Something has the next name.
pub taken_name_tried : (name beside shown : List ℕ) (number : ℕ) (old middle new : Option (List FileStep))
    → AreNamesTaken name number old middle → IsBeside name number beside → shown ≡ beside → shown ≢ name
    → TookSteps middle new (NameTaken shown ∷ []) → AreNamesTaken name (number + 1) old new
taken_name_tried name beside shown number old middle new are is shows other took = record {
  taken = are.taken ++ beside ∷ [];
  are_names = OneMoreName number are.taken beside are.are_names is (λ same. other (shows ∙ same));
  steps = subst (TookSteps old new) (sym (map_push NameTaken are.taken beside))
      (steps_in_turn old middle new (map NameTaken are.taken) (NameTaken beside ∷ []) are.steps
      (subst (λ s. TookSteps middle new (NameTaken s ∷ [])) shows took));
}

-- A file of the next name could not be made.
pub making_failed : (name beside shown : List ℕ) (number : ℕ) (old middle new : Option (List FileStep)) → number < 10000
    → AreNamesTaken name number old middle → IsBeside name number beside → shown ≡ beside → shown ≢ name
    → TookSteps middle new (NotMade shown ∷ []) → IsNotMade name NotWritten old new
making_failed name beside shown number old middle new within are is shows other took =
    MakingFailed number beside middle are (record { within = within; is_beside = is; is_another = λ same. other (shows ∙ same) })
    (subst (λ s. TookSteps middle new (NotMade s ∷ [])) shows took) refl

-- The next name is that of the new file.
pub made_beside : (files later : KnownFiles) (name beside shown : List ℕ) (number : ℕ) (file : WriteTrace)
    (old middle new : Option (List FileStep)) → number < 10000 → AreNamesTaken name number old middle → later ≡ files
    → IsBeside name number beside → shown ≡ beside → shown ≢ name → NameHas later shown IsNoFile → IsNewFile file
    → TookSteps middle new (Made shown file ∷ []) → IsMadeBeside files name beside file old new
made_beside files later name beside shown number file old middle new within are same is shows other unused fresh took = record {
  number = number;
  tried = middle;
  are_taken = are;
  is_name = record { within = within; is_beside = is; is_another = λ own. other (shows ∙ own) };
  is_unused = subst (λ f. NameHas f beside IsNoFile) same (subst (λ n. NameHas later n IsNoFile) shows unused);
  is_new = fresh;
  made = subst (λ n. TookSteps middle new (Made n file ∷ [])) shows took;
}

-- ---- the steps with a new file

-- What is true is so at an error.
pub always_at_err : {V E : Type 0} {P : Type 0} (result : Result V E) → P → IfErr result (λ _. P)
always_at_err (Ok v) p = tt
always_at_err (Err e) p = p

-- A step was taken, or it failed.
pub either : {T E : Type 0} {P Q : Type 0} (result : Result T E) → OnOk result P → OnErr result Q → P ⊎ Q
either (Ok v) p q = inl p
either (Err e) p q = inr q

-- Writing to a new file or flushing it stopped.
pub writing_stopped : {T E : Type 0} (beside bytes : List ℕ) (file filled : WriteTrace) (old new : Option (List FileStep))
    (written : Result (Unit {0}) Error) (error : Error) (closed : Result T E) → written ≡ Err error
    → Wrote WroteAndFlushed WriteOrFlushStopped file bytes written filled
    → OnOk closed (TookSteps old new (Closed beside filled ∷ [])) → OnErr closed (TookSteps old new (NotClosed beside filled ∷ []))
    → IsNotWrittenFile beside bytes file old new
writing_stopped beside bytes file filled old new written error closed is wrote well badly =
    WritingStopped filled error (subst
    (λ (r : Result (Unit {0}) Error). Wrote WroteAndFlushed WriteOrFlushStopped file bytes r filled) is wrote)
    (either closed well badly)

-- All was written to a new file and flushed, and it could not be closed.
pub closing_failed : {T E : Type 0} (beside bytes : List ℕ) (file filled : WriteTrace) (old new : Option (List FileStep))
    (written : Result (Unit {0}) Error) (done : Unit {0}) (closed : Result T E) (error : E) → written ≡ Ok done → closed ≡ Err error
    → Wrote WroteAndFlushed WriteOrFlushStopped file bytes written filled
    → OnErr closed (TookSteps old new (NotClosed beside filled ∷ [])) → IsNotWrittenFile beside bytes file old new
closing_failed {T} {E} beside bytes file filled old new written done closed error is fails wrote badly =
    ClosingFailed filled (subst (λ (r : Result (Unit {0}) Error). Wrote WroteAndFlushed WriteOrFlushStopped file bytes r filled) is wrote)
    (subst (λ (r : Result T E). OnErr r (TookSteps old new (NotClosed beside filled ∷ []))) fails badly)

-- A new file was made and not put in place, and it was removed, or that failed.
pub new_file_failed : {T E : Type 0} (files : KnownFiles) (name bytes beside shown again : List ℕ) (error : SaveError) (file : WriteTrace)
    (old made failed new : Option (List FileStep)) (removed : Result T E) → NameHas files name MayBeReplaced
    → IsMadeBeside files name beside file old made → shown ≡ beside → IsNotPutInPlace name shown bytes file made failed → again ≡ beside
    → OnOk removed (TookSteps failed new (Removed again ∷ [])) → OnErr removed (TookSteps failed new (NotRemoved again ∷ []))
    → error ≡ NotWritten → IsNotSaved files name bytes error old new
new_file_failed files name bytes beside shown again error file old made failed new removed can is shows not_put same well badly why =
    NewFileFailed beside file made failed can is (subst (λ b. IsNotPutInPlace name b bytes file made failed) shows not_put)
    (subst (λ b. TookSteps failed new (Removed b ∷ []) ⊎ TookSteps failed new (NotRemoved b ∷ [])) same (either removed well badly))
    why

-- ---- no files

-- Without files no output is saved.
pub nothing_is_saved : SavesNothing no_files
nothing_is_saved name bytes old new saved = saved.can_be_replaced
