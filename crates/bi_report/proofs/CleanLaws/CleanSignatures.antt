use Rattle.std.proofs.Common.{◌≡◌, ◌≢◌, ℕ, true, false, not, ◌&&◌, ◌==◌, Bool, List, [], ◌∷◌, ◌++◌, Option, Some, None, Contains, IsFalse}
use Rattle.std.proofs.Common.{IsSome}
use Rattle.std.proofs.Common.{is_some, length, filter, flat_map, map, refl, sym, ap, ap₂, subst, ◌∙◌, true≢false, rules}
use Rattle.std.specs.Prelude.{if◌then◌else◌, nat_le, ◌||◌}
use Rattle.std.specs.FinMap.{get}
use Rattle.std.specs.List.{AllByRecursion, list_any}
use Rattle.std.proofs.lemmas.Bool.{and_parts, eqb-true, leb-true, le-leb, not-true}
use Rattle.std.proofs.lemmas.List.{map-append}
use Rattle.std.proofs.lemmas.List.Folds.{flat_map-map}
use Rattle.std.proofs.lemmas.Simd.{map-map}
use Rattle.bi_base.specs.Cells.{u32_at}
use Rattle.bi_base.proofs.ListMembers.{Contains-first, Contains-none, each-weaker}
use Rattle.bi_blob.specs.Layout.{is_among}
use Rattle.bi_blob.specs.Lookups.{Sibling}
use Rattle.bi_blob.specs.Tree.{FileNode, FileProperty, PropertyMap, Root}
use Rattle.bi_blob.proofs.Texts.FirstUse.{among_found, found_among}
use Rattle.bi_coverage.specs.Coverage.{ConfigurationCoverage, SignatureConcern, SignatureCoverage, NoNodes, NoImages, Uncovered, Foreign}
use Rattle.bi_coverage.specs.Coverage.{Strings}
use Rattle.bi_coverage.specs.Coverage.{concerns_of_paths, concerns_of_strings, foreign_paths, has_strings, hashed_strings_name}
use Rattle.bi_coverage.specs.Coverage.{reference_concerns}
use Rattle.bi_coverage.specs.Coverage.{is_covered, name_end, names_end, recorded_end, uncovered_concerns}
use Rattle.bi_coverage.specs.Paths.{LocatedNode, all_nodes, each_once, path_text}
use Rattle.bi_coverage.specs.Signatures.{NeededPart, needed_parts, paths_of_part, paths_of_parts, recorded_paths, references, signed_nodes}
use Rattle.bi_coverage.proofs.NamesOnce.{among_once}
use Rattle.bi_fit.specs.ImageTree.{ImageTree}
use Rattle.bi_fit.specs.Names.{is_payload_name}
use Rattle.bi_fit.proofs.Meanings.{same_in_some}
use Rattle.bi_report.specs.declared.check.Allowed.{Allowed}
use Rattle.bi_report.specs.declared.check.ConcernKind.TheVariants as kind
use Rattle.bi_report.specs.Checking.{Concern, OfSignature, UnitAddress, Unsigned, absence_concerns, address_concerns, allows}
use Rattle.bi_report.specs.Checking.{coverage_concerns}
use Rattle.bi_report.specs.Checking.{kept_concerns, kind_of, signature_concerns, unsigned_concerns}
use Rattle.bi_report.specs.CleanFiles.{ReachesStrings}
use Rattle.bi_report.specs.SignedTrees.{configuration_coverage_in, has_signatures, is_any_signed, signature_coverage_in}
use Rattle.bi_report.proofs.CleanLaws.ChosenElements.{all_pass, each_at_most, each_passes, element_of_list, greatest_at_most}
use Rattle.bi_report.proofs.CleanLaws.ChosenElements.{list_of_element}
use Rattle.bi_report.proofs.CleanLaws.ChosenElements.{none_fails, pass_all}
use Rattle.bi_report.proofs.CleanLaws.NoLines.{HaveNoLine, all_have_none, allowed_has_none, any_is_found, both_have_none, each_has_none}
use Rattle.bi_report.proofs.CleanLaws.NoLines.{made_have_none, none_is_made, one_is_allowed, parts_have_none, passes_any}

-- The concerns about signatures and about unit addresses have no line if and only if, for each concern that is not allowed, each
-- configuration is signed, each signed node records what it must cover and nothing else, and no name has a unit address.

-- ---- the strings block

module _ (file : List ℕ) (root : Root FileNode) (signature : Sibling PropertyMap) (recorded : List (List ℕ)) where
  abbrev end : ℕ
  end = recorded_end file root recorded

  -- A value that passes the test reaches the name of each property that counts.
  reaches_of_test : (value : Option (List ℕ)) → get signature.own hashed_strings_name ≡ value → has_strings value end ≡ true →
      ReachesStrings file root signature recorded
  reaches_of_test None is test = absurd (true≢false (sym test))
  reaches_of_test (Some value) is test =
      let both = and_parts (length value == 8) (nat_le end (u32_at value 4)) test in
      record {
        value = value;
        has_value = is;
        is_two_cells = eqb-true (length value) 8 both.0;
        reaches = λ located property is_there is_recorded has counts.
            each_at_most (name_end file) (λ (property : FileProperty). not (is_payload_name property.name)) located.own.properties
            (u32_at value 4)
            (each_at_most (λ (located : LocatedNode FileNode). names_end file located.own)
            (λ (located : LocatedNode FileNode). is_among (path_text located.names) recorded) (all_nodes root) (u32_at value 4)
            (leb-true end (u32_at value 4) both.1) located is_there
            (found_among recorded (path_text located.names) is_recorded))
            property has (ap not counts);
      }

  test_of_reaches : ReachesStrings file root signature recorded → has_strings (get signature.own hashed_strings_name) end ≡ true
  test_of_reaches is =
      let most = u32_at is.value 4 in
      ap (λ value. has_strings value end) is.has_value
      ∙ ap₂ (λ a b. a && b) (ap (λ n. n == 8) is.is_two_cells)
      (le-leb end most
      (greatest_at_most (λ (located : LocatedNode FileNode). names_end file located.own)
      (λ (located : LocatedNode FileNode). is_among (path_text located.names) recorded) (all_nodes root) most
      (λ located is_there is_recorded.
      greatest_at_most (name_end file) (λ (property : FileProperty). not (is_payload_name property.name)) located.own.properties most
      (λ property has counts. is.reaches located property is_there
      (among_found recorded (path_text located.names) is_recorded) has
      (not-true (is_payload_name property.name) counts)))))

-- ---- one signed node

module _ (allowed : Allowed) (configuration name : List ℕ) where
  abbrev about : SignatureConcern → Concern
  about = OfSignature configuration name

  -- None of these concerns about a signed node has a line.
  abbrev HasNone : List SignatureConcern → Type 0
  HasNone concerns = HaveNoLine allowed (map about concerns)

  two_parts : (one later : List SignatureConcern) → HasNone (one ++ later) → HasNone one × HasNone later
  two_parts one later none = parts_have_none allowed (map about one) (map about later)
      (sym (ap (kept_concerns allowed) (map-append about one later)) ∙ none)

  of_two : (one later : List SignatureConcern) → HasNone one → HasNone later → HasNone (one ++ later)
  of_two one later first rest = ap (kept_concerns allowed) (map-append about one later)
      ∙ both_have_none allowed (map about one) (map about later) first rest

  -- Its configuration has a reference.
  some_reference : (references : List (List ℕ)) → HasNone (reference_concerns references) → IsFalse allowed.no_images → references ≢ []
  some_reference [] none refused empty = true≢false (sym (one_is_allowed allowed (about NoImages) none) ∙ refused)
  some_reference (first ∷ later) none refused empty = absurd cc

  references_have_none : (references : List (List ℕ)) → (IsFalse allowed.no_images → references ≢ []) →
      HasNone (reference_concerns references)
  references_have_none [] some = by allowed.no_images refl
    where
      by : (b : Bool) → allowed.no_images ≡ b → HasNone (NoImages ∷ [])
      by true fine = allowed_has_none allowed (about NoImages) fine
      by false refused = absurd (some refused refl)
  references_have_none (first ∷ later) some = refl

  module _ (recorded : List (List ℕ)) (parts : List NeededPart) where
    -- The parts that are not covered.
    abbrev uncovered_parts : List NeededPart
    uncovered_parts = filter (λ part. not (is_covered recorded part)) parts

    abbrev about_part : NeededPart → Concern
    about_part part = about (Uncovered part.path)

    same_parts : map about (uncovered_concerns recorded parts) ≡ map about_part uncovered_parts
    same_parts = map-map about (λ (part : NeededPart). Uncovered part.path) uncovered_parts

    -- Each needed path is recorded.
    all_covered : HasNone (uncovered_concerns recorded parts) → IsFalse allowed.uncovered → (path : List ℕ) →
        Contains (paths_of_parts parts) path → Contains recorded path
    all_covered none refused path needed =
        let empty : uncovered_parts ≡ [] = none_is_made allowed kind.Uncovered about_part (λ part. refl) uncovered_parts
        (sym (ap (kept_concerns allowed) same_parts) ∙ none) refused in
        let part = list_of_element paths_of_part parts path needed in
        among_found recorded path
        (all_pass (λ path. is_among path recorded) (paths_of_part part.0)
        (none_fails (is_covered recorded) parts empty part.0 part.1) path part.2)

    covered_have_none : (IsFalse allowed.uncovered → (path : List ℕ) → Contains (paths_of_parts parts) path → Contains recorded path) →
        HasNone (uncovered_concerns recorded parts)
    covered_have_none covered =
        ap (kept_concerns allowed) same_parts
        ∙ made_have_none allowed kind.Uncovered about_part (λ part. refl) uncovered_parts
        (λ refused. each_passes (is_covered recorded) parts
        (λ part is_part. pass_all (λ path. is_among path recorded) (paths_of_part part)
        (λ path here. found_among recorded path (covered refused path (element_of_list paths_of_part parts part path is_part here)))))

  module _ (recorded needed : List (List ℕ)) where
    -- The recorded paths that are not needed.
    abbrev foreign_found : List (List ℕ)
    foreign_found = foreign_paths (each_once recorded) needed

    same_paths : map about (map Foreign foreign_found) ≡ map (λ path. about (Foreign path)) foreign_found
    same_paths = map-map about Foreign foreign_found

    -- Each recorded path is needed.
    all_needed : HasNone (map Foreign foreign_found) → IsFalse allowed.foreign → (path : List ℕ) →
        Contains recorded path → Contains needed path
    all_needed none refused path has =
        let empty : foreign_found ≡ [] = none_is_made allowed kind.Foreign (λ path. about (Foreign path)) (λ path. refl) foreign_found
        (sym (ap (kept_concerns allowed) same_paths) ∙ none) refused in
        among_found needed path
        (none_fails (λ path. is_among path needed) (each_once recorded) empty path
        (among_found (each_once recorded) path (among_once recorded path ∙ found_among recorded path has)))

    needed_have_none : (IsFalse allowed.foreign → (path : List ℕ) → Contains recorded path → Contains needed path) →
        HasNone (map Foreign foreign_found)
    needed_have_none are =
        ap (kept_concerns allowed) same_paths
        ∙ made_have_none allowed kind.Foreign (λ path. about (Foreign path)) (λ path. refl) foreign_found
        (λ refused. each_passes (λ path. is_among path needed) (each_once recorded)
        (λ path once. found_among needed path (are refused path
        (among_found recorded path (sym (among_once recorded path) ∙ found_among (each_once recorded) path once)))))

  -- The concern about strings comes from a test.
  strings_pass : (test : Bool) → HasNone (if test then [] else Strings ∷ []) → IsFalse allowed.strings → test ≡ true
  strings_pass true none refused = refl
  strings_pass false none refused = absurd (true≢false (sym (one_is_allowed allowed (about Strings) none) ∙ refused))

  passed_strings : (test : Bool) → (IsFalse allowed.strings → test ≡ true) → HasNone (if test then [] else Strings ∷ [])
  passed_strings true pass = refl
  passed_strings false pass = by allowed.strings refl
    where
      by : (b : Bool) → allowed.strings ≡ b → HasNone (Strings ∷ [])
      by true fine = allowed_has_none allowed (about Strings) fine
      by false refused = absurd (true≢false (sym (pass refused)))

-- What a signed node without a line is, if its configuration has these references and needs these parts.
pub record IsCleanSignature (allowed : Allowed) (file : List ℕ) (root : Root FileNode) (references : List (List ℕ))
    (parts : List NeededPart) (signature : Sibling PropertyMap) : Type 0
  where
    pub no_nodes : IsFalse allowed.no_nodes → IsSome (recorded_paths signature)
    pub no_images : IsFalse allowed.no_images → (recorded : List (List ℕ)) → recorded_paths signature ≡ Some recorded → references ≢ []
    pub uncovered : IsFalse allowed.uncovered → (recorded : List (List ℕ)) → recorded_paths signature ≡ Some recorded →
        (path : List ℕ) → Contains (paths_of_parts parts) path → Contains recorded path
    pub foreign : IsFalse allowed.foreign → (recorded : List (List ℕ)) → recorded_paths signature ≡ Some recorded →
        (path : List ℕ) → Contains recorded path → Contains (paths_of_parts parts) path
    pub strings : IsFalse allowed.strings → (recorded : List (List ℕ)) → recorded_paths signature ≡ Some recorded →
        ReachesStrings file root signature recorded

module _ (allowed : Allowed) (file : List ℕ) (root : Root FileNode) (configuration : List ℕ) (references : List (List ℕ))
    (parts : List NeededPart) (signature : Sibling PropertyMap) where
  abbrev value : Option (List ℕ)
  value = get signature.own hashed_strings_name

  abbrev HasNoLine : List SignatureConcern → Type 0
  HasNoLine = HasNone allowed configuration signature.name

  -- The concerns about it, if it records these paths.
  abbrev concerns_with : Option (List (List ℕ)) → List SignatureConcern
  concerns_with recorded = concerns_of_paths references parts recorded ++ concerns_of_strings file root value recorded

  -- The concerns about paths that are not needed, and about those that are not recorded.
  abbrev foreign_part : List (List ℕ) → List SignatureConcern
  foreign_part recorded = map Foreign (foreign_paths (each_once recorded) (paths_of_parts parts))

  no_record : recorded_paths signature ≡ None → (recorded : List (List ℕ)) → recorded_paths signature ≡ Some recorded → ⊥
  no_record is recorded some = absurd (true≢false (sym (ap is_some some) ∙ ap is_some is))

  -- A signed node without a line.
  without_line : (found : Option (List (List ℕ))) → recorded_paths signature ≡ found → HasNoLine (concerns_with found) →
      IsCleanSignature allowed file root references parts signature
  without_line None is none = record {
    no_nodes = λ refused. absurd
        (true≢false (sym (one_is_allowed allowed (OfSignature configuration signature.name NoNodes) none) ∙ refused));
    no_images = λ refused recorded some. absurd (no_record is recorded some);
    uncovered = λ refused recorded some. absurd (no_record is recorded some);
    foreign = λ refused recorded some. absurd (no_record is recorded some);
    strings = λ refused recorded some. absurd (no_record is recorded some);
  }
  without_line (Some recorded) is none =
      let all = two_parts allowed configuration signature.name (concerns_of_paths references parts (Some recorded))
      (concerns_of_strings file root value (Some recorded)) none in
      let paths = two_parts allowed configuration signature.name (reference_concerns references)
      (uncovered_concerns recorded parts ++ foreign_part recorded) all.0 in
      let rest = two_parts allowed configuration signature.name (uncovered_concerns recorded parts) (foreign_part recorded) paths.1 in
      let same : (other : List (List ℕ)) → recorded_paths signature ≡ Some other → recorded ≡ other =
      λ other some. same_in_some recorded other (sym is ∙ some) in
      record {
        no_nodes = λ refused. ap is_some is;
        no_images = λ refused other some. some_reference allowed configuration signature.name references paths.0 refused;
        uncovered = λ refused other some.
            subst (λ recorded. (path : List ℕ) → Contains (paths_of_parts parts) path → Contains recorded path) (same other some)
            (all_covered allowed configuration signature.name recorded parts rest.0 refused);
        foreign = λ refused other some.
            subst (λ recorded. (path : List ℕ) → Contains recorded path → Contains (paths_of_parts parts) path) (same other some)
            (all_needed allowed configuration signature.name recorded (paths_of_parts parts) rest.1 refused);
        strings = λ refused other some. subst (ReachesStrings file root signature) (same other some)
            (reaches_of_test file root signature recorded value refl
            (strings_pass allowed configuration signature.name (has_strings value (recorded_end file root recorded)) all.1 refused));
      }

  pub signature_is_clean : HasNoLine (concerns_with (recorded_paths signature)) →
      IsCleanSignature allowed file root references parts signature
  signature_is_clean none = without_line (recorded_paths signature) refl none

  -- A clean one has no line.
  with_record : (found : Option (List (List ℕ))) → recorded_paths signature ≡ found →
      IsCleanSignature allowed file root references parts signature → HasNoLine (concerns_with found)
  with_record None is clean = by allowed.no_nodes refl
    where
      by : (b : Bool) → allowed.no_nodes ≡ b → HasNoLine (NoNodes ∷ [])
      by true fine = allowed_has_none allowed (OfSignature configuration signature.name NoNodes) fine
      by false refused = absurd (true≢false (sym (clean.no_nodes refused) ∙ ap is_some is))
  with_record (Some recorded) is clean =
      of_two allowed configuration signature.name (concerns_of_paths references parts (Some recorded))
      (concerns_of_strings file root value (Some recorded))
      (of_two allowed configuration signature.name (reference_concerns references)
      (uncovered_concerns recorded parts ++ foreign_part recorded)
      (references_have_none allowed configuration signature.name references (λ refused. clean.no_images refused recorded is))
      (of_two allowed configuration signature.name (uncovered_concerns recorded parts) (foreign_part recorded)
      (covered_have_none allowed configuration signature.name recorded parts (λ refused. clean.uncovered refused recorded is))
      (needed_have_none allowed configuration signature.name recorded (paths_of_parts parts)
      (λ refused. clean.foreign refused recorded is))))
      (passed_strings allowed configuration signature.name (has_strings value (recorded_end file root recorded))
      (λ refused. test_of_reaches file root signature recorded (clean.strings refused recorded is)))

  pub clean_signature_has_none : IsCleanSignature allowed file root references parts signature →
      HasNoLine (concerns_with (recorded_paths signature))
  clean_signature_has_none clean = with_record (recorded_paths signature) refl clean

-- ---- configurations

-- A signed node of one of these configurations.
pub record HasSigned (configurations : List (Sibling PropertyMap)) : Type 0 where
  pub configuration : Sibling PropertyMap
  pub is_configuration : Contains configurations configuration
  pub signature : Sibling PropertyMap
  pub is_signed : Contains (signed_nodes configuration) signature

module _ (allowed : Allowed) (file : List ℕ) (root : Root FileNode) (tree : ImageTree) where
  -- A signed node of this configuration is clean.
  abbrev pub IsCleanSigned : (configuration signature : Sibling PropertyMap) → Type 0
  IsCleanSigned configuration signature =
      IsCleanSignature allowed file root (references tree configuration) (needed_parts tree configuration) signature

  -- What its signed nodes cover.
  abbrev covers : (configuration signature : Sibling PropertyMap) → SignatureCoverage
  covers configuration = signature_coverage_in file root tree configuration

  abbrev covers_all : Sibling PropertyMap → ConfigurationCoverage
  covers_all = configuration_coverage_in file root tree

  -- The concern that a configuration has no signed node.
  signed_is_there : (name : List ℕ) (cover : Sibling PropertyMap → SignatureCoverage) (signed : List (Sibling PropertyMap)) →
      HaveNoLine allowed (unsigned_concerns name (map cover signed)) → IsFalse allowed.unsigned → signed ≢ []
  signed_is_there name cover [] none refused empty =
      true≢false (sym (one_is_allowed allowed (Unsigned (Some name)) none) ∙ refused)
  signed_is_there name cover (first ∷ later) none refused empty = absurd cc

  signed_has_none : (name : List ℕ) (cover : Sibling PropertyMap → SignatureCoverage) (signed : List (Sibling PropertyMap)) →
      (IsFalse allowed.unsigned → signed ≢ []) → HaveNoLine allowed (unsigned_concerns name (map cover signed))
  signed_has_none name cover [] some = by allowed.unsigned refl
    where
      by : (b : Bool) → allowed.unsigned ≡ b → HaveNoLine allowed (Unsigned (Some name) ∷ [])
      by true fine = allowed_has_none allowed (Unsigned (Some name)) fine
      by false refused = absurd (some refused refl)
  signed_has_none name cover (first ∷ later) some = refl

  -- That there is no configuration.
  pub some_configuration : (configurations : List (Sibling PropertyMap)) →
      HaveNoLine allowed (absence_concerns (map covers_all configurations)) → IsFalse allowed.unsigned → configurations ≢ []
  some_configuration [] none refused empty = true≢false (sym (one_is_allowed allowed (Unsigned None) none) ∙ refused)
  some_configuration (first ∷ later) none refused empty = absurd cc

  pub configurations_have_none : (configurations : List (Sibling PropertyMap)) → (IsFalse allowed.unsigned → configurations ≢ []) →
      HaveNoLine allowed (absence_concerns (map covers_all configurations))
  configurations_have_none [] some = by allowed.unsigned refl
    where
      by : (b : Bool) → allowed.unsigned ≡ b → HaveNoLine allowed (Unsigned None ∷ [])
      by true fine = allowed_has_none allowed (Unsigned None) fine
      by false refused = absurd (some refused refl)
  configurations_have_none (first ∷ later) some = refl

  -- A configuration without a line.
  abbrev of_signed : (configuration signature : Sibling PropertyMap) → List Concern
  of_signed configuration signature = signature_concerns configuration.name (covers configuration signature)

  same_concerns : (configuration : Sibling PropertyMap) →
      flat_map (signature_concerns configuration.name) (map (covers configuration) (signed_nodes configuration))
      ≡ flat_map (of_signed configuration) (signed_nodes configuration)
  same_concerns configuration = flat_map-map (signature_concerns configuration.name) (covers configuration) (signed_nodes configuration)

  -- What configurations without a line are.
  pub record AreCovered (configurations : List (Sibling PropertyMap)) : Type 0 where
    pub unsigned : IsFalse allowed.unsigned → AllByRecursion (λ configuration. signed_nodes configuration ≢ []) configurations
    pub each : AllByRecursion (λ configuration. AllByRecursion (IsCleanSigned configuration) (signed_nodes configuration)) configurations

  pub configurations_are_covered : (configurations : List (Sibling PropertyMap)) →
      HaveNoLine allowed (flat_map coverage_concerns (map covers_all configurations)) → AreCovered configurations
  configurations_are_covered [] none = record { unsigned = λ refused. tt; each = tt }
  configurations_are_covered (configuration ∷ later) none =
      let signed = signed_nodes configuration in
      let both = parts_have_none allowed (coverage_concerns (covers_all configuration))
      (flat_map coverage_concerns (map covers_all later)) none in
      let here = parts_have_none allowed (unsigned_concerns configuration.name (map (covers configuration) signed))
      (flat_map (signature_concerns configuration.name) (map (covers configuration) signed)) both.0 in
      let rest = configurations_are_covered later both.1 in
      record {
        unsigned = λ refused. (signed_is_there configuration.name (covers configuration) signed here.0 refused, rest.unsigned refused);
        each = (
          each-weaker (λ signature. HaveNoLine allowed (of_signed configuration signature)) (IsCleanSigned configuration)
              (λ signature has. signature_is_clean allowed file root configuration.name (references tree configuration)
              (needed_parts tree configuration) signature has) signed
              (each_has_none allowed (of_signed configuration) signed
              (sym (ap (kept_concerns allowed) (same_concerns configuration)) ∙ here.1)),
          rest.each,
        );
      }

  pub covered_have_no_line : (configurations : List (Sibling PropertyMap)) → AreCovered configurations →
      HaveNoLine allowed (flat_map coverage_concerns (map covers_all configurations))
  covered_have_no_line [] are = refl
  covered_have_no_line (configuration ∷ later) are =
      let signed = signed_nodes configuration in
      both_have_none allowed (coverage_concerns (covers_all configuration)) (flat_map coverage_concerns (map covers_all later))
      (both_have_none allowed (unsigned_concerns configuration.name (map (covers configuration) signed))
      (flat_map (signature_concerns configuration.name) (map (covers configuration) signed))
      (signed_has_none configuration.name (covers configuration) signed (λ refused. (are.unsigned refused).0))
      (ap (kept_concerns allowed) (same_concerns configuration)
      ∙ all_have_none allowed (of_signed configuration) signed
      (each-weaker (IsCleanSigned configuration) (λ signature. HaveNoLine allowed (of_signed configuration signature))
      (λ signature clean. clean_signature_has_none allowed file root configuration.name (references tree configuration)
      (needed_parts tree configuration) signature clean) signed are.each.0)))
      (covered_have_no_line later (record { unsigned = λ refused. (are.unsigned refused).1; each = are.each.1 }))

  -- ---- unit addresses

  -- A list of signed nodes with one of them.
  signatures_found : (cover : Sibling PropertyMap → SignatureCoverage) (signed : List (Sibling PropertyMap))
      (signature : Sibling PropertyMap) → Contains signed signature → has_signatures (map cover signed) ≡ true
  signatures_found cover [] signature has = absurd (Contains-none signature has)
  signatures_found cover (first ∷ later) signature has = refl

  first_signature : (cover : Sibling PropertyMap → SignatureCoverage) (signed : List (Sibling PropertyMap)) →
      has_signatures (map cover signed) ≡ true → (signature : Sibling PropertyMap) × Contains signed signature
  first_signature cover [] is = absurd (true≢false (sym is))
  first_signature cover (first ∷ later) is = (first, Contains-first first later)

  abbrev has_one : Sibling PropertyMap → Bool
  has_one configuration = has_signatures (map (covers configuration) (signed_nodes configuration))

  any_signed : (configurations : List (Sibling PropertyMap)) →
      is_any_signed (map covers_all configurations) ≡ list_any has_one configurations
  any_signed [] = refl
  any_signed (first ∷ later) = ap (λ b. has_one first || b) (any_signed later)

  module _ (configurations : List (Sibling PropertyMap)) (paths : List (List (List ℕ))) where
    no_address_of : (b : Bool) → is_any_signed (map covers_all configurations) ≡ b →
        HaveNoLine allowed (if b then map UnitAddress paths else []) → IsFalse allowed.unit_address → HasSigned configurations → paths ≡ []
    no_address_of true is none refused some = none_is_made allowed kind.UnitAddress UnitAddress (λ path. refl) paths none refused
    no_address_of false is none refused some =
        absurd (true≢false (sym (passes_any has_one configurations some.configuration some.is_configuration
        (signatures_found (covers some.configuration) (signed_nodes some.configuration) some.signature some.is_signed))
        ∙ sym (any_signed configurations) ∙ is))

    pub no_address : HaveNoLine allowed (address_concerns (map covers_all configurations) paths) → IsFalse allowed.unit_address →
        HasSigned configurations → paths ≡ []
    no_address none refused some = no_address_of (is_any_signed (map covers_all configurations)) refl none refused some

    addresses_have_none_of : (b : Bool) → is_any_signed (map covers_all configurations) ≡ b →
        (IsFalse allowed.unit_address → HasSigned configurations → paths ≡ []) →
        HaveNoLine allowed (if b then map UnitAddress paths else [])
    addresses_have_none_of true is none =
        let found = any_is_found has_one configurations (sym (any_signed configurations) ∙ is) in
        let first = first_signature (covers found.0) (signed_nodes found.0) found.2 in
        made_have_none allowed kind.UnitAddress UnitAddress (λ path. refl) paths
        (λ refused. none refused (record {
          configuration = found.0;
          is_configuration = found.1;
          signature = first.0;
          is_signed = first.1;
        }))
    addresses_have_none_of false is none = refl

    pub addresses_have_none : (IsFalse allowed.unit_address → HasSigned configurations → paths ≡ []) →
        HaveNoLine allowed (address_concerns (map covers_all configurations) paths)
    addresses_have_none none = addresses_have_none_of (is_any_signed (map covers_all configurations)) refl none
