use Rattle.std.proofs.Common.{◌≡◌, ℕ, max, List, [], ◌∷◌, Bool, true, false, map, filter, refl, sym, ap, ◌∙◌, bytes_eq, arith}
use Rattle.std.specs.Prelude.{◌||◌}
use Rattle.bi_blob.specs.Layout.{is_among}
use Rattle.bi_blob.specs.Tree.{FileNode, FileProperty, Root}
use Rattle.bi_fit.specs.Judgement.{listed_names, BeginsWithName}
use Rattle.bi_fit.specs.Names.{is_payload_name}
use Rattle.bi_coverage.specs.Coverage.{name_end, names_end, properties_end, recorded_end}
use Rattle.bi_coverage.specs.NodeIndices.{path_end}
use Rattle.bi_coverage.specs.Numbers.{greatest}
use Rattle.bi_coverage.specs.Paths.{path_text, all_nodes}

-- The greatest numbers of things that are chosen.

module _ {X : Type 0} (key : X → List ℕ) (number : X → ℕ) where
  -- The greatest number of the things that pass a test.
  abbrev pub tested_end : (X → Bool) → List X → ℕ
  tested_end test things = greatest (map number (filter test things))

  -- Of those that pass one of two tests.
  tested_end-or : (test other : X → Bool) (things : List X) →
      tested_end (λ thing. test thing || other thing) things ≡ max (tested_end test things) (tested_end other things)
  tested_end-or test other [] = refl
  tested_end-or test other (thing ∷ later) = by (test thing) (other thing) refl refl (tested_end-or test other later)
    where
      by : (a b : Bool) → test thing ≡ a → other thing ≡ b →
          tested_end (λ thing. test thing || other thing) later ≡ max (tested_end test later) (tested_end other later) →
          tested_end (λ thing. test thing || other thing) (thing ∷ later)
          ≡ max (tested_end test (thing ∷ later)) (tested_end other (thing ∷ later))
      by true true is is_other rest = rw (is, is_other) (omega arith)
      by true false is is_other rest = rw (is, is_other) (omega arith)
      by false true is is_other rest = rw (is, is_other) (omega arith)
      by false false is is_other rest = rw (is, is_other) rest

  -- Of none.
  tested_end-none : (things : List X) → tested_end (λ thing. false) things ≡ 0
  tested_end-none [] = refl
  tested_end-none (thing ∷ later) = tested_end-none later

  -- Of those whose keys are among some paths, it is the greatest for one of the paths.
  pub tested_end-among : (paths : List (List ℕ)) (things : List X) →
      tested_end (λ thing. is_among (key thing) paths) things
      ≡ greatest (map (λ path. tested_end (λ thing. bytes_eq path (key thing)) things) paths)
  tested_end-among [] things = tested_end-none things
  tested_end-among (path ∷ later) things =
      tested_end-or (λ thing. bytes_eq path (key thing)) (λ thing. is_among (key thing) later) things
      ∙ ap (max (tested_end (λ thing. bytes_eq path (key thing)) things)) (tested_end-among later things)

-- Where the last name of recorded nodes ends is the greatest end at one of the paths.
pub recorded_is : (file : List ℕ) (root : Root FileNode) (recorded : List (List ℕ)) →
    greatest (map (path_end file root) recorded) ≡ recorded_end file root recorded
recorded_is file root recorded =
    sym (tested_end-among (λ located. path_text located.names) (λ located. names_end file located.own) recorded (all_nodes root))

-- One more path of a list.
pub recorded_more : (f : List ℕ → ℕ) (rest name later : List ℕ) (end new all : ℕ) → BeginsWithName rest name later →
    new ≡ max end (f name) → max end (greatest (map f (listed_names rest))) ≡ all →
    max new (greatest (map f (listed_names later))) ≡ all
recorded_more f rest name later end new all begins is so_far =
    let here : greatest (map f (listed_names rest)) ≡ max (f name) (greatest (map f (listed_names later))) =
    ap (λ names. greatest (map f names)) begins.listed in
    omega (arith, here, is, so_far)

-- No path is left.
pub recorded_all : (f : List ℕ → ℕ) (rest : List ℕ) (end all : ℕ) → listed_names rest ≡ [] →
    max end (greatest (map f (listed_names rest))) ≡ all → end ≡ all
recorded_all f rest end all none so_far =
    let here : greatest (map f (listed_names rest)) ≡ 0 = ap (λ names. greatest (map f names)) none in
    omega (arith, here, so_far)

-- The ends of the first property and of the later ones.
pub property_more : (file : List ℕ) (property : FileProperty) (later : List FileProperty) (end new all : ℕ) →
    max end (properties_end file (property ∷ later)) ≡ all → new ≡ max end (properties_end file (property ∷ [])) →
    max new (properties_end file later) ≡ all
property_more file property later end new all so_far is = by (is_payload_name property.name) refl
  where
    by : (b : Bool) → is_payload_name property.name ≡ b → max new (properties_end file later) ≡ all
    by true payload =
        let first : properties_end file (property ∷ later) ≡ properties_end file later = rw payload refl in
        let alone : properties_end file (property ∷ []) ≡ 0 = rw payload refl in
        omega (arith, first, alone, is, so_far)
    by false payload =
        let first : properties_end file (property ∷ later) ≡ max (name_end file property) (properties_end file later) = rw payload refl in
        let alone : properties_end file (property ∷ []) ≡ max (name_end file property) 0 = rw payload refl in
        omega (arith, first, alone, is, so_far)

-- The end of the name of one property.
pub payload_name_end : (file : List ℕ) (property : FileProperty) → is_payload_name property.name ≡ true →
    0 ≡ properties_end file (property ∷ [])
payload_name_end file property is = rw is refl

pub counted_name_end : (file : List ℕ) (property : FileProperty) (end : ℕ) → is_payload_name property.name ≡ false →
    end ≡ name_end file property →
    end ≡ properties_end file (property ∷ [])
counted_name_end file property end is same =
    let alone : properties_end file (property ∷ []) ≡ max (name_end file property) 0 = rw is refl in
    omega (arith, alone, same)
