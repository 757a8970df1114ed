use Rattle.std.proofs.Common.{◌≡◌, ◌≢◌, ◌++◌, ◌∷◌, [], ◌∙◌, ◌<◌, ℕ, zero, suc, List, Option, Some, map, length, codes, get_or, ap, refl}
use Rattle.std.proofs.Common.{sym, inl, inr, arith, subst}
use Rattle.std.specs.Fmt.{decimal, digits}
use Rattle.std.proofs.lemmas.List.{append_assoc}
use Rattle.bi_commands.specs.ExtractingAll.{PayloadFile}
use Rattle.bi_files.specs.Directories.{AreFilesPut}
use Rattle.bi_files.specs.Files.{Closed, ClosedIn, DirectoryMade, DirectoryRenamed, FileStep, IsBeside, Made, MadeIn, NameTaken, Renamed}
use Rattle.bi_files.specs.Files.{TookSteps}
use Rattle.bi_files.specs.KnownSteps.{ArePuttingSteps, BesideNamesAreKnown, DirectorySavedInSteps, HasBesideNames, SavedInSteps}
use Rattle.bi_files.proofs.NewFiles.{no_steps, steps_in_turn}

-- A new file is in the directory of the file whose name it takes, and saving takes its steps in their order.

-- ---- names

-- The name `b` has no slash, and `a/b` has one.
no_slash_in_b : (before last : List ℕ) → ¬ (codes "b" ≡ before ++ 47 ∷ last)
no_slash_in_b [] last same = omega (arith, ap (λ l. get_or l 0 0) same)
no_slash_in_b (byte ∷ []) last same = omega (arith, ap (λ l. length l) same)
no_slash_in_b (byte ∷ other ∷ before) last same = omega (arith, ap (λ l. length l) same)

slash_in_ab : (before last : List ℕ) → codes "a/b" ≡ before ++ 47 ∷ last → before ≡ codes "a"
slash_in_ab [] last same = absurd (omega (arith, ap (λ l. get_or l 0 0) same))
slash_in_ab (byte ∷ []) last same = ap (λ n. n ∷ []) (sym (ap (λ l. get_or l 0 0) same))
slash_in_ab (byte ∷ other ∷ []) last same = absurd (omega (arith, ap (λ l. get_or l 2 0) same))
slash_in_ab (byte ∷ other ∷ third ∷ []) last same = absurd (omega (arith, ap (λ l. length l) same))
slash_in_ab (byte ∷ other ∷ third ∷ fourth ∷ before) last same = absurd (omega (arith, ap (λ l. length l) same))

-- The directory of each.
directory_of_b : (number : ℕ) (beside : List ℕ) (is : IsBeside (codes "b") number beside) → is.directory ≡ []
directory_of_b number beside is = elim is.ends_with_slash [
  | inl none ↦ none
  | inr slash ↦ absurd (no_slash_in_b slash.0 is.last
      (is.is_name ∙ ap (λ l. l ++ is.last) slash.1 ∙ append_assoc slash.0 (47 ∷ []) is.last))
]

directory_of_ab : (number : ℕ) (beside : List ℕ) (is : IsBeside (codes "a/b") number beside) → is.directory ≡ codes "a/"
directory_of_ab number beside is = elim is.ends_with_slash [
  | inl none ↦ absurd (in_last is.last (is.is_name ∙ ap (λ l. l ++ is.last) none) is.last_has_no_slash)
  | inr slash ↦ slash.1 ∙ ap (λ l. l ++ 47 ∷ [])
      (slash_in_ab slash.0 is.last (is.is_name ∙ ap (λ l. l ++ is.last) slash.1 ∙ append_assoc slash.0 (47 ∷ []) is.last))
]
  where
    in_last : (last : List ℕ) → codes "a/b" ≡ last → ¬ ((index : ℕ) → index < length last → get_or last index 0 ≢ 47)
    in_last last same none = none 1 (omega (arith, ap (λ l. length l) same)) (sym (ap (λ l. get_or l 1 0) same))

-- The last part of a name has no slash.
no_slash_at : (index : ℕ) → index < 1 → get_or (codes "b") index 0 ≢ 47
no_slash_at zero inside slash = omega (arith, slash)
no_slash_at (suc index) inside slash = omega (arith, inside)

beside_b : HasBesideNames (codes "b") []
beside_b = (
  λ number. record {
    directory = [];
    last = codes "b";
    is_name = refl;
    is_beside = refl;
    ends_with_slash = inl refl;
    last_has_no_slash = no_slash_at;
  },
  λ number beside is. is.is_beside ∙ ap (λ l. l ++ (codes ".bootimg-" ++ decimal number)) (directory_of_b number beside is),
)

beside_ab : HasBesideNames (codes "a/b") (codes "a/")
beside_ab = (
  λ number. record {
    directory = codes "a/";
    last = codes "b";
    is_name = refl;
    is_beside = refl;
    ends_with_slash = inr (codes "a", refl);
    last_has_no_slash = no_slash_at;
  },
  λ number beside is. is.is_beside ∙ ap (λ l. l ++ (codes ".bootimg-" ++ decimal number)) (directory_of_ab number beside is),
)

pub beside_names_are_known : BesideNamesAreKnown
unfolding digits
beside_names_are_known = record {
  in_directory = beside_ab;
  without_directory = beside_b;
  numbers = beside_ab.0 12;
}

-- ---- steps

pub saved_in_steps : SavedInSteps
saved_in_steps files name bytes old after saved =
    let put = saved.is_put_in_place in
    let made = saved.is_made in
    let taken = map NameTaken made.are_taken.taken in
    let two = Closed saved.beside put.is_filled.filled ∷ Renamed saved.beside name ∷ [] in
    let last : TookSteps saved.made (Some after) two =
    steps_in_turn saved.made put.closed (Some after) (Closed saved.beside put.is_filled.filled ∷ []) (Renamed saved.beside name ∷ [])
    put.is_filled.closed put.renamed in
    let three : TookSteps made.tried (Some after) (Made saved.beside saved.file ∷ two) =
    steps_in_turn made.tried saved.made (Some after) (Made saved.beside saved.file ∷ []) two made.made last in
    let all : TookSteps old (Some after) (taken ++ Made saved.beside saved.file ∷ two) =
    steps_in_turn old made.tried (Some after) taken (Made saved.beside saved.file ∷ two) made.are_taken.steps three in (
      all.0,
      taken ++ Made saved.beside saved.file ∷ two,
      all.1,
      all.2,
      record {
        taken = made.are_taken.taken;
        beside = saved.beside;
        file = saved.file;
        filled = put.is_filled.filled;
        written = put.is_filled.is_filled.written;
        flushed = put.is_filled.is_filled.flushed;
        are_steps = refl;
      },
    )

-- The steps of putting files into a directory.
putting_steps : (directory : List ℕ) (payloads : List PayloadFile) (old new : Option (List FileStep))
    → AreFilesPut directory payloads old new
    → (steps : List FileStep) × TookSteps old new steps × ArePuttingSteps directory payloads steps
putting_steps directory [] old new are = ([], subst (λ n. TookSteps old n []) (sym are) (no_steps old), refl)
putting_steps directory (payload ∷ payloads) old new are =
    let put = are.1 in
    let filled = put.is_filled.filled in
    let made = MadeIn directory payload.name put.file ∷ [] in
    let closed = ClosedIn directory payload.name filled ∷ [] in
    let later = putting_steps directory payloads are.0 new are.2 in (
      MadeIn directory payload.name put.file ∷ ClosedIn directory payload.name filled ∷ later.0,
      steps_in_turn old are.0 new (MadeIn directory payload.name put.file ∷ ClosedIn directory payload.name filled ∷ []) later.0
          (steps_in_turn old put.made are.0 made closed put.was_made put.is_filled.closed) later.1,
      (put.file, filled, put.is_filled.is_filled.written, put.is_filled.is_filled.flushed, later.0, refl, later.2),
    )

pub directory_saved_in_steps : DirectorySavedInSteps
directory_saved_in_steps files name payloads old after saved =
    let place = saved.is_in_place in
    let made = saved.is_made in
    let beside = saved.beside in
    let taken = map NameTaken made.are_taken.taken in
    let putting = putting_steps beside payloads saved.made place.put place.are_put in
    let last = putting.0 ++ DirectoryRenamed beside name ∷ [] in
    let filled : TookSteps saved.made (Some after) last =
    steps_in_turn saved.made place.put (Some after) putting.0 (DirectoryRenamed beside name ∷ []) putting.1 place.renamed in
    let new : TookSteps made.tried (Some after) (DirectoryMade beside ∷ last) =
    steps_in_turn made.tried saved.made (Some after) (DirectoryMade beside ∷ []) last made.made filled in
    let all : TookSteps old (Some after) (taken ++ DirectoryMade beside ∷ last) =
    steps_in_turn old made.tried (Some after) taken (DirectoryMade beside ∷ last) made.are_taken.steps new in (
      all.0,
      taken ++ DirectoryMade beside ∷ last,
      all.1,
      all.2,
      record {
        taken = made.are_taken.taken;
        beside = beside;
        putting = putting.0;
        are_putting = putting.2;
        are_steps = refl;
      },
    )
