use Rattle.std.proofs.Common.{◌≡◌, ℕ, List, [], ◌∷◌, ◌++◌, Bool, true, false, not, map, filter, Option, Some, refl, sym, ap, subst, ◌∙◌}
use Rattle.std.proofs.Common.{append_assoc, bytes_eq}
use Rattle.std.specs.FinMap.{get}
use Rattle.std.specs.Prelude.{◌&&◌, ◌||◌, if◌then◌else◌}
use Rattle.std.specs.List.{list_all, list_any}
use Rattle.std.proofs.lemmas.List.{map-append}
use Rattle.std.proofs.lemmas.List.Elements.{filter-append}
use Rattle.std.proofs.lemmas.List.Folds.{list_all-append, list_any-append}
use Rattle.std.proofs.lemmas.Bool.{and_parts}
use Rattle.std.proofs.lemmas.Slice.Eq.{bytes_eq-Decides}
use Rattle.bi_blob.specs.Layout.{is_among}
use Rattle.bi_blob.specs.Lookups.{Sibling, value_named}
use Rattle.bi_blob.specs.Tree.{FileNode, properties_of}
use Rattle.bi_fdt.specs.Content.{root_of}
use Rattle.bi_fit.specs.Content.{FitModel}
use Rattle.bi_fit.proofs.FileNodes.{get-by_name}
use Rattle.bi_coverage.specs.Coverage.{SignatureConcern, Uncovered, Foreign, Strings, is_covered, uncovered_concerns, foreign_paths}
use Rattle.bi_coverage.specs.Coverage.{path_differences}
use Rattle.bi_coverage.specs.Coverage.{concerns_of_paths, concerns_of_strings, strings_concerns, has_strings}
use Rattle.bi_coverage.specs.Coverage.{recorded_end}
use Rattle.bi_coverage.specs.Coverage.{hashed_strings_name}
use Rattle.bi_coverage.specs.Paths.{each_once}
use Rattle.bi_coverage.specs.Signatures.{NeededPart, paths_of_part, paths_of_parts, recorded_paths}
use Rattle.bi_coverage.specs.Values.{meaning_of_sibling}
use Rattle.bi_coverage.proofs.NamesOnce.{among_once}

-- The concerns about paths, one after the other.

module _ (recorded : List (List ℕ)) (parts : List NeededPart) (part : NeededPart) where
  both : uncovered_concerns recorded (parts ++ part ∷ [])
      ≡ uncovered_concerns recorded parts ++ uncovered_concerns recorded (part ∷ [])
  both =
      ap (map (λ (part : NeededPart). Uncovered part.path))
      (filter-append (λ (part : NeededPart). not (is_covered recorded part)) parts (part ∷ []))
      ∙ map-append (λ (part : NeededPart). Uncovered part.path) (filter (λ part. not (is_covered recorded part)) parts)
      (filter (λ part. not (is_covered recorded part)) (part ∷ []))

  -- A part that is covered is not a concern.
  pub covered_more : is_covered recorded part ≡ true →
      uncovered_concerns recorded (parts ++ part ∷ []) ≡ uncovered_concerns recorded parts ++ []
  covered_more is = both ∙ ap (λ l. uncovered_concerns recorded parts ++ l) last
    where
      last : uncovered_concerns recorded (part ∷ []) ≡ []
      last = rw is refl

  -- One that is not covered is.
  pub uncovered_more : is_covered recorded part ≡ false →
      uncovered_concerns recorded (parts ++ part ∷ []) ≡ uncovered_concerns recorded parts ++ Uncovered part.path ∷ []
  uncovered_more is = both ∙ ap (λ l. uncovered_concerns recorded parts ++ l) last
    where
      last : uncovered_concerns recorded (part ∷ []) ≡ Uncovered part.path ∷ []
      last = rw is refl

module _ (needed recorded : List (List ℕ)) (path : List ℕ) where
  -- A recorded path that is needed is not foreign.
  pub needed_more : is_among path needed ≡ true → foreign_paths (recorded ++ path ∷ []) needed ≡ foreign_paths recorded needed ++ []
  needed_more is =
      filter-append (λ path. not (is_among path needed)) recorded (path ∷ []) ∙ ap (λ l. foreign_paths recorded needed ++ l) last
    where
      last : foreign_paths (path ∷ []) needed ≡ []
      last = rw is refl

  -- One that is not needed is.
  pub foreign_more : is_among path needed ≡ false →
      foreign_paths (recorded ++ path ∷ []) needed ≡ foreign_paths recorded needed ++ path ∷ []
  foreign_more is =
      filter-append (λ path. not (is_among path needed)) recorded (path ∷ []) ∙ ap (λ l. foreign_paths recorded needed ++ l) last
    where
      last : foreign_paths (path ∷ []) needed ≡ path ∷ []
      last = rw is refl

-- Whether a part is covered by paths, each once, or by all of them.
all_among_once : (recorded paths : List (List ℕ)) →
    list_all (λ path. is_among path (each_once recorded)) paths ≡ list_all (λ path. is_among path recorded) paths
all_among_once recorded [] = refl
all_among_once recorded (path ∷ later) =
    ap (λ b. b && list_all (λ path. is_among path (each_once recorded)) later) (among_once recorded path)
    ∙ ap (λ b. is_among path recorded && b) (all_among_once recorded later)

pub uncovered_once : (recorded : List (List ℕ)) (parts : List NeededPart) →
    uncovered_concerns (each_once recorded) parts ≡ uncovered_concerns recorded parts
uncovered_once recorded [] = refl
uncovered_once recorded (part ∷ later) =
    by (is_covered recorded part) refl (all_among_once recorded (paths_of_part part)) (uncovered_once recorded later)
  where
    by : (b : Bool) → is_covered recorded part ≡ b → is_covered (each_once recorded) part ≡ is_covered recorded part →
        uncovered_concerns (each_once recorded) later ≡ uncovered_concerns recorded later →
        uncovered_concerns (each_once recorded) (part ∷ later) ≡ uncovered_concerns recorded (part ∷ later)
    by true is same rest = rw (same, is) rest
    by false is same rest = rw (same, is) (ap (λ l. Uncovered part.path ∷ l) rest)

-- The foreign paths are the same for needed paths, each once, and for all of them.
pub foreign_once : (recorded needed : List (List ℕ)) → foreign_paths recorded (each_once needed) ≡ foreign_paths recorded needed
foreign_once [] needed = refl
foreign_once (path ∷ later) needed = by (is_among path needed) refl (among_once needed path) (foreign_once later needed)
  where
    by : (b : Bool) → is_among path needed ≡ b → is_among path (each_once needed) ≡ is_among path needed →
        foreign_paths later (each_once needed) ≡ foreign_paths later needed →
        foreign_paths (path ∷ later) (each_once needed) ≡ foreign_paths (path ∷ later) needed
    by true is same rest = rw (same, is) rest
    by false is same rest = rw (same, is) (ap (λ l. path ∷ l) rest)

-- The concerns about paths, added one kind after the other.
pub differences_added : (old two three : List SignatureConcern) (parts : List NeededPart) (listed recorded needed : List (List ℕ)) →
    recorded ≡ each_once listed → needed ≡ each_once (paths_of_parts parts) →
    two ≡ old ++ uncovered_concerns recorded parts → three ≡ two ++ map Foreign (foreign_paths recorded needed) →
    three ≡ old ++ path_differences parts listed
differences_added old two three parts listed recorded needed is_recorded is_needed is_two is_three =
    let uncovered : uncovered_concerns recorded parts ≡ uncovered_concerns listed parts =
    ap (λ l. uncovered_concerns l parts) is_recorded ∙ uncovered_once listed parts in
    let foreign : foreign_paths recorded needed ≡ foreign_paths (each_once listed) (paths_of_parts parts) =
    ap (λ l. foreign_paths l needed) is_recorded ∙ ap (foreign_paths (each_once listed)) is_needed
    ∙ foreign_once (each_once listed) (paths_of_parts parts) in
    is_three
    ∙ ap (λ l. l ++ map Foreign (foreign_paths recorded needed)) is_two
    ∙ ap (λ l. (old ++ uncovered_concerns recorded parts) ++ map Foreign l) foreign
    ∙ ap (λ l. (old ++ l) ++ map Foreign (foreign_paths (each_once listed) (paths_of_parts parts))) uncovered
    ∙ append_assoc old (uncovered_concerns listed parts) _

-- Each of some names is among them.
among_self : (before paths : List (List ℕ)) → list_all (λ path. is_among path (before ++ paths)) paths ≡ true
among_self before [] = refl
among_self before (path ∷ later) =
    let here : is_among path (before ++ path ∷ later) ≡ true =
    list_any-append (λ other. bytes_eq other path) before (path ∷ later)
    ∙ ap (λ b. list_any (λ other. bytes_eq other path) before || (b || list_any (λ other. bytes_eq other path) later))
    ((bytes_eq-Decides path path).1 refl)
    ∙ or_true (list_any (λ other. bytes_eq other path) before) in
    let rest : list_all (λ other. is_among other (before ++ path ∷ later)) later ≡ true =
    subst (λ l. list_all (λ other. is_among other l) later ≡ true) (append_assoc before (path ∷ []) later)
    (among_self (before ++ path ∷ []) later) in
    rw here rest
  where
    or_true : (b : Bool) → (b || true) ≡ true
    or_true true = refl
    or_true false = refl

-- No path is foreign if all are needed.
none_foreign : (recorded needed : List (List ℕ)) → list_all (λ path. is_among path needed) recorded ≡ true →
    foreign_paths recorded needed ≡ []
none_foreign [] needed are = refl
none_foreign (path ∷ later) needed are =
    let both = and_parts (is_among path needed) _ are in
    rw both.0 (none_foreign later needed both.1)

-- No part is a concern if all paths are recorded.
none_uncovered : (recorded : List (List ℕ)) (parts : List NeededPart) →
    list_all (λ path. is_among path recorded) (paths_of_parts parts) ≡ true → uncovered_concerns recorded parts ≡ []
none_uncovered recorded [] are = refl
none_uncovered recorded (part ∷ later) are =
    let both = and_parts (is_covered recorded part) _
    (sym (list_all-append (λ path. is_among path recorded) (paths_of_part part) (paths_of_parts later)) ∙ are) in
    rw both.0 (none_uncovered recorded later both.1)

-- There is no concern about the needed paths in order.
pub same_paths : (parts : List NeededPart) (listed : List (List ℕ)) → listed ≡ paths_of_parts parts → path_differences parts listed ≡ []
same_paths parts listed is =
    let paths = paths_of_parts parts in
    let covered : uncovered_concerns paths parts ≡ [] = none_uncovered paths parts (among_self [] paths) in
    let foreign : foreign_paths (each_once paths) paths ≡ [] =
    sym (foreign_once (each_once paths) paths) ∙ none_foreign (each_once paths) (each_once paths) (among_self [] (each_once paths)) in
    ap (path_differences parts) is
    ∙ ap (λ l. l ++ map Foreign (foreign_paths (each_once paths) paths)) covered
    ∙ ap (map Foreign) foreign

-- The concern about strings is added to them.
pub strings_added : (content : FitModel) (sibling : Sibling FileNode) (references : List (List ℕ)) (parts : List NeededPart)
    (listed : List (List ℕ)) (value : Option (List ℕ)) (end : ℕ) (paths all : List SignatureConcern) →
    recorded_paths (meaning_of_sibling sibling) ≡ Some listed → value ≡ value_named (properties_of sibling.own) hashed_strings_name →
    end ≡ recorded_end content.blob.file (root_of content.blob) listed → paths ≡ concerns_of_paths references parts (Some listed) →
    all ≡ paths ++ (if has_strings value end then [] else Strings ∷ []) →
    all ≡ concerns_of_paths references parts (recorded_paths (meaning_of_sibling sibling))
    ++ strings_concerns content (meaning_of_sibling sibling)
strings_added content sibling references parts listed value end paths all is_listed is_value is_end is_paths is_all =
    let same : value ≡ get (meaning_of_sibling sibling).own hashed_strings_name =
    is_value ∙ sym (get-by_name (properties_of sibling.own) hashed_strings_name) in
    is_all
    ∙ ap (λ l. l ++ (if has_strings value end then [] else Strings ∷ [])) is_paths
    ∙ ap (λ value. concerns_of_paths references parts (Some listed) ++ (if has_strings value end then [] else Strings ∷ [])) same
    ∙ ap (λ end. concerns_of_paths references parts (Some listed)
    ++ (if has_strings (get (meaning_of_sibling sibling).own hashed_strings_name) end then [] else Strings ∷ [])) is_end
    ∙ ap (λ recorded. concerns_of_paths references parts recorded
    ++ concerns_of_strings content.blob.file (root_of content.blob) (get (meaning_of_sibling sibling).own hashed_strings_name) recorded)
    (sym is_listed)
