use Rattle.std.proofs.Common.{◌≡◌, ℕ, ◌-◌, true, ◌&&◌, ◌==◌, List, [], ◌∷◌, ◌++◌, IsFalse, drop, length, flat_map, refl, sym, ap, ap₂}
use Rattle.std.proofs.Common.{None, append_assoc, map, subst, ◌∙◌, arith}
use Rattle.std.specs.List.{AllByRecursion, list_all}
use Rattle.std.proofs.lemmas.Bool.{and_parts, eqb-true}
use Rattle.bi_base.specs.Limits.{Limits}
use Rattle.bi_base.proofs.ListMembers.{each-contains}
use Rattle.bi_blob.specs.Lookups.{Sibling, siblings}
use Rattle.bi_blob.specs.Tree.{FileNode, PropertyMap, Root, names}
use Rattle.bi_blob.proofs.Blobs.OneBlob.{one_blob}
use Rattle.bi_coverage.specs.Coverage.{ConfigurationCoverage}
use Rattle.bi_coverage.specs.Signatures.{signed_nodes}
use Rattle.bi_fit.specs.File.{FitMeans}
use Rattle.bi_fit.specs.ImageTree.{ImageTree, image_nodes}
use Rattle.bi_fit.specs.Judgement.{configuration_nodes, default_of, images_of}
use Rattle.bi_fit.proofs.FilePayloads.{payloads_are_at_places}
use Rattle.bi_fit.proofs.Meanings.{one_fit_meaning, same_in_some}
use Rattle.bi_legacy.specs.Meaning.{LegacyImage}
use Rattle.bi_legacy.specs.Parts.{parts_end}
use Rattle.bi_legacy.specs.Reading.{LegacyModel, IsReadLegacy}
use Rattle.bi_norm.proofs.FilesWithoutMeaning.{means_legacy, means_tree}
use Rattle.bi_common.specs.Lines.{text_of_lines}
use Rattle.bi_report.specs.declared.check.Allowed.{Allowed}
use Rattle.bi_report.specs.Checking.{Concern, AreConcerns, OfLegacyImage, OfImageTree, concern_line, configuration_concerns, content_end}
use Rattle.bi_report.specs.Checking.{default_concerns, image_concerns, kept_concerns, TrailingBytes, trailing_concerns, tree_concerns}
use Rattle.bi_report.specs.Checking.{Unsigned, absence_concerns, address_concerns, coverage_concerns}
use Rattle.bi_report.specs.CleanFiles.{AreZeros, CleanImageTree, CleanLegacyImage, EmptyIsClean, HasZerosAfter, IsClean, IsCleanTree}
use Rattle.bi_report.specs.CleanFiles.{EachRecord, IsSignedNode, NamesConfiguration, ReachesStrings}
use Rattle.bi_report.specs.Reports.{AreGood}
use Rattle.bi_report.specs.SignedTrees.{coverage_in, unit_addresses}
use Rattle.bi_report.proofs.CleanLaws.CleanConfigurations.{clean_configurations_have_none, configurations_are_clean, default_has_none}
use Rattle.bi_report.proofs.CleanLaws.CleanConfigurations.{default_is_there}
use Rattle.bi_report.proofs.CleanLaws.ChosenElements.{each_of_contained}
use Rattle.bi_report.proofs.CleanLaws.CleanImages.{clean_images_have_none, images_are_clean, verdicts_of_each}
use Rattle.bi_report.proofs.CleanLaws.CleanSignatures.{AreCovered, IsCleanSigned, addresses_have_none, configurations_are_covered}
use Rattle.bi_report.proofs.CleanLaws.CleanSignatures.{configurations_have_none, covered_have_no_line, no_address, some_configuration}
use Rattle.bi_report.proofs.CleanLaws.ContentEnds.{zeros_after, zeros_from_end}
use Rattle.bi_report.proofs.CleanLaws.NoLines.{HaveNoLine, all_have_none, allowed_has_none, both_have_none, each_has_none}
use Rattle.bi_report.proofs.CleanLaws.NoLines.{one_is_allowed, parts_have_none, passed_has_none, test_is_passed}

-- Checking a file writes nothing if and only if the file is clean.

-- The test that a byte is zero.
zero_of_test : (byte : ℕ) → (byte == 0) ≡ true → byte ≡ 0
zero_of_test byte is = eqb-true byte 0 is

-- Bytes that are all zero, and the test for them.
zeros_of_test : (bytes : List ℕ) → list_all (λ byte. byte == 0) bytes ≡ true → AreZeros bytes
zeros_of_test [] is = tt
zeros_of_test (byte ∷ later) is =
    let both = and_parts (byte == 0) (list_all (λ byte. byte == 0) later) is in
    (zero_of_test byte both.0, zeros_of_test later both.1)

test_of_zeros : (bytes : List ℕ) → AreZeros bytes → list_all (λ byte. byte == 0) bytes ≡ true
test_of_zeros [] are = refl
test_of_zeros (byte ∷ later) are = ap₂ (λ a b. a && b) (ap (λ n. n == 0) are.0) (test_of_zeros later are.1)

-- Bytes after an image without a line.
end_is_clean : (allowed : Allowed) (bytes : List ℕ) → HaveNoLine allowed (trailing_concerns bytes) → IsFalse allowed.trailing →
    AreZeros bytes
end_is_clean allowed bytes none refused = zeros_of_test bytes
    (test_is_passed allowed (list_all (λ byte. byte == 0) bytes) (TrailingBytes (length bytes)) none refused)

clean_end_has_none : (allowed : Allowed) (bytes : List ℕ) → (IsFalse allowed.trailing → AreZeros bytes) →
    HaveNoLine allowed (trailing_concerns bytes)
clean_end_has_none allowed bytes are = passed_has_none allowed (list_all (λ byte. byte == 0) bytes) (TrailingBytes (length bytes))
    (λ refused. test_of_zeros bytes (are refused))

module _ (allowed : Allowed) (file : List ℕ) (root : Root FileNode) (tree : ImageTree) where
  abbrev configurations : List (List ℕ)
  configurations = names (configuration_nodes tree)

  abbrev nodes : List (Sibling PropertyMap)
  nodes = siblings (configuration_nodes tree)

  abbrev coverage : List ConfigurationCoverage
  coverage = coverage_in file root tree

  -- The parts of the concerns about a tree.
  abbrev images : List Concern
  images = flat_map image_concerns (images_of tree)

  abbrev lists : List Concern
  lists = flat_map (configuration_concerns tree) configurations

  abbrev absence : List Concern
  absence = absence_concerns coverage

  abbrev signatures : List Concern
  signatures = flat_map coverage_concerns coverage

  abbrev addresses : List Concern
  addresses = address_concerns coverage (unit_addresses tree.root)

  abbrev default : List Concern
  default = default_concerns (default_of tree) configurations

  -- The signed nodes of a tree reach the names that they must cover.
  abbrev pub ReachAll : Type 0
  ReachAll = EachRecord tree (λ configuration signature. ReachesStrings file root signature)

  -- What is clean of each signed node.
  signed_is_clean : AreCovered allowed file root tree nodes → (configuration signature : Sibling PropertyMap) →
      IsSignedNode tree configuration signature → IsCleanSigned allowed file root tree configuration signature
  signed_is_clean are configuration signature is =
      each-contains (IsCleanSigned allowed file root tree configuration) (signed_nodes configuration) signature
      (each-contains (λ configuration. AllByRecursion (IsCleanSigned allowed file root tree configuration) (signed_nodes configuration))
      nodes configuration are.each is.is_configuration) is.is_signed

  -- A tree without a line.
  tree_is_clean : HaveNoLine allowed (tree_concerns tree coverage) → IsCleanTree allowed tree × (IsFalse allowed.strings → ReachAll)
  tree_is_clean none =
      let one = parts_have_none allowed images (lists ++ (absence ++ (signatures ++ (addresses ++ default)))) none in
      let two = parts_have_none allowed lists (absence ++ (signatures ++ (addresses ++ default))) one.1 in
      let three = parts_have_none allowed absence (signatures ++ (addresses ++ default)) two.1 in
      let four = parts_have_none allowed signatures (addresses ++ default) three.1 in
      let five = parts_have_none allowed addresses default four.1 in
      let of_images = images_are_clean allowed (images_of tree) one.0 in
      let of_lists = configurations_are_clean allowed tree configurations
      (each_has_none allowed (configuration_concerns tree) configurations two.0) in
      let covered = configurations_are_covered allowed file root tree nodes four.0 in
      let clean = signed_is_clean covered in (
        record {
          bad_hash = λ refused. subst AreGood (verdicts_of_each (images_of tree)) (of_images.good refused);
          skipped_hash = of_images.used;
          unhashed = of_images.hashed;
          weak_hash = of_images.not_weak;
          bad_list = of_lists.bad_list;
          missing = of_lists.missing;
          unsigned = λ refused. record {
            some = some_configuration allowed file root tree nodes three.0 refused;
            each = covered.unsigned refused;
          };
          no_nodes = λ refused configuration signature is. (clean configuration signature is).no_nodes refused;
          no_images = λ refused configuration signature is. (clean configuration signature is).no_images refused;
          uncovered = λ refused configuration signature is. (clean configuration signature is).uncovered refused;
          foreign = λ refused configuration signature is. (clean configuration signature is).foreign refused;
          unit_address = λ refused configuration signature is.
              no_address allowed file root tree nodes (unit_addresses tree.root) five.0 refused
              (record {
                configuration = configuration;
                is_configuration = is.is_configuration;
                signature = signature;
                is_signed = is.is_signed;
              });
          bad_default = λ refused some.
              let one = default_is_there allowed (default_of tree) configurations five.1 refused some in
              record { name = one.name; is_default = one.is_default; is_there = one.is_there };
        },
        λ refused configuration signature is. (clean configuration signature is).strings refused,
      )

  -- The signed nodes of a clean tree are clean.
  clean_is_covered : IsCleanTree allowed tree → (IsFalse allowed.strings → ReachAll) → AreCovered allowed file root tree nodes
  clean_is_covered is reach = record {
    unsigned = λ refused. (is.unsigned refused).each;
    each = each_of_contained
        (λ configuration. AllByRecursion (IsCleanSigned allowed file root tree configuration) (signed_nodes configuration)) nodes
        (λ configuration is_configuration.
        each_of_contained (IsCleanSigned allowed file root tree configuration) (signed_nodes configuration)
        (λ signature is_signed.
        let signed : IsSignedNode tree configuration signature
        = record { is_configuration = is_configuration; is_signed = is_signed } in
        record {
          no_nodes = λ refused. is.no_nodes refused configuration signature signed;
          no_images = λ refused. is.no_images refused configuration signature signed;
          uncovered = λ refused. is.uncovered refused configuration signature signed;
          foreign = λ refused. is.foreign refused configuration signature signed;
          strings = λ refused. reach refused configuration signature signed;
        }));
  }

  pub clean_tree_has_none : IsCleanTree allowed tree → (IsFalse allowed.strings → ReachAll) →
      HaveNoLine allowed (tree_concerns tree coverage)
  clean_tree_has_none is reach =
      both_have_none allowed images (lists ++ (absence ++ (signatures ++ (addresses ++ default))))
      (clean_images_have_none allowed (images_of tree) (record {
        good = λ refused. subst AreGood (sym (verdicts_of_each (images_of tree))) (is.bad_hash refused);
        used = is.skipped_hash;
        hashed = is.unhashed;
        not_weak = is.weak_hash;
      }))
      (both_have_none allowed lists (absence ++ (signatures ++ (addresses ++ default)))
      (all_have_none allowed (configuration_concerns tree) configurations
      (clean_configurations_have_none allowed tree configurations (record { bad_list = is.bad_list; missing = is.missing })))
      (both_have_none allowed absence (signatures ++ (addresses ++ default))
      (configurations_have_none allowed file root tree nodes (λ refused. (is.unsigned refused).some))
      (both_have_none allowed signatures (addresses ++ default)
      (covered_have_no_line allowed file root tree nodes (clean_is_covered is reach))
      (both_have_none allowed addresses default
      (addresses_have_none allowed file root tree nodes (unit_addresses tree.root)
      (λ refused some. is.unit_address refused some.configuration some.signature
      (record { is_configuration = some.is_configuration; is_signed = some.is_signed })))
      (default_has_none allowed (default_of tree) configurations (λ refused some.
      let one : NamesConfiguration tree = is.bad_default refused some in
      record { name = one.name; is_default = one.is_default; is_there = one.is_there }))))))

-- A file has one root,
one_root : (limits : Limits) (file : List ℕ) (one other : ImageTree) (means : FitMeans limits file one)
    (also : FitMeans limits file other) → means.is_file.root ≡ also.is_file.root
one_root limits file one other means also =
    (one_blob file one.cpu other.cpu one.reservations other.reservations means.is_file.root also.is_file.root
    means.is_file.blob also.is_file.blob).same_root

-- and one list of image nodes.
one_list_of_nodes : (limits : Limits) (file : List ℕ) (one other : ImageTree) (means : FitMeans limits file one)
    (also : FitMeans limits file other) → means.is_file.images ≡ also.is_file.images
one_list_of_nodes limits file one other means also =
    same_in_some means.is_file.images also.is_file.images
    (sym means.is_file.has_images ∙ ap image_nodes (one_root limits file one other means also) ∙ also.is_file.has_images)

-- A legacy image has one number of bytes after it.
one_unused : (limits : Limits) (file : List ℕ) (one other : LegacyModel) → IsReadLegacy limits file one → IsReadLegacy limits file other →
    one.unused ≡ other.unused
one_unused limits file one other means also =
    let same : other.image ≡ one.image = means.only other.image also.means in
    let ends : parts_end other.image.image_type other.image.parts
    ≡ parts_end one.image.image_type one.image.parts = ap (λ (image : LegacyImage). parts_end image.image_type image.parts) same in
    omega (arith, means.unused, also.unused, ends)

-- A file without a line is clean.
pub file_is_clean : (allowed : Allowed) (limits : Limits) (file : List ℕ) (concerns : List Concern) → AreConcerns limits file concerns →
    HaveNoLine allowed concerns → IsClean allowed limits file
file_is_clean allowed limits file concerns (OfLegacyImage parsed opened is) none =
    let rest = drop (length file - parsed.unused) file in
    let both = parts_have_none allowed (Unsigned None ∷ []) (trailing_concerns rest) (sym (ap (kept_concerns allowed) is) ∙ none) in
    CleanLegacyImage parsed opened (one_is_allowed allowed (Unsigned None) both.0) (end_is_clean allowed rest both.1)
file_is_clean allowed limits file concerns (OfImageTree tree means is) none =
    let root = means.is_file.root in
    let rest = drop (content_end file means.is_file.images tree.payloads) file in
    let both = parts_have_none allowed (tree_concerns tree (coverage_in file root tree)) (trailing_concerns rest)
    (sym (ap (kept_concerns allowed) is) ∙ none) in
    let clean = tree_is_clean allowed file root tree both.0 in
    CleanImageTree tree means clean.0 clean.1
    (λ refused. zeros_after file means.is_file.images tree.payloads (end_is_clean allowed rest both.1 refused))

-- A clean file has no line.
pub clean_file_has_none : (allowed : Allowed) (limits : Limits) (file : List ℕ) (concerns : List Concern) →
    AreConcerns limits file concerns → IsClean allowed limits file → HaveNoLine allowed concerns
clean_file_has_none allowed limits file concerns (OfLegacyImage parsed opened is) (CleanLegacyImage other also unsigned zeros) =
    ap (kept_concerns allowed) is
    ∙ both_have_none allowed (Unsigned None ∷ []) (trailing_concerns (drop (length file - parsed.unused) file))
    (allowed_has_none allowed (Unsigned None) unsigned)
    (clean_end_has_none allowed (drop (length file - parsed.unused) file)
    (subst (λ unused. IsFalse allowed.trailing → AreZeros (drop (length file - unused) file))
    (one_unused limits file other parsed also opened) zeros))
clean_file_has_none allowed limits file concerns (OfLegacyImage parsed opened is) (CleanImageTree tree means clean reach zeros) =
    absurd (means_tree limits file tree means (means_legacy limits file parsed.image opened.means))
clean_file_has_none allowed limits file concerns (OfImageTree tree means is) (CleanLegacyImage other also unsigned zeros) =
    absurd (means_tree limits file tree means (means_legacy limits file other.image also.means))
clean_file_has_none allowed limits file concerns (OfImageTree tree means is) (CleanImageTree other also clean reach zeros) =
    let same : other ≡ tree = one_fit_meaning file other tree also.is_file means.is_file in
    let nodes : also.is_file.images ≡ means.is_file.images = one_list_of_nodes limits file other tree also means in
    let root : also.is_file.root ≡ means.is_file.root = one_root limits file other tree also means in
    ap (kept_concerns allowed) is
    ∙ both_have_none allowed (tree_concerns tree (coverage_in file means.is_file.root tree))
    (trailing_concerns (drop (content_end file means.is_file.images tree.payloads) file))
    (clean_tree_has_none allowed file means.is_file.root tree (subst (IsCleanTree allowed) same clean)
    (λ refused. subst (λ root. ReachAll allowed file root tree) root
    (subst (λ (t : ImageTree). ReachAll allowed file also.is_file.root t) same (reach refused))))
    (clean_end_has_none allowed (drop (content_end file means.is_file.images tree.payloads) file) (λ refused.
    zeros_from_end file means.is_file.images tree.payloads (payloads_are_at_places file tree means.is_file)
    (subst (λ found. HasZerosAfter file found tree.payloads) nodes
    (subst (λ (t : ImageTree). HasZerosAfter file also.is_file.images t.payloads) same (zeros refused)))))

-- A line is not empty, so without a line there is no concern.
line_is_not_empty : (words rest : List ℕ) → ¬ (words ++ 10 ∷ rest ≡ [])
line_is_not_empty [] rest e = absurd cc
line_is_not_empty (x ∷ xs) rest e = absurd cc

none_without_lines : (kept : List Concern) → text_of_lines (map concern_line kept) ≡ [] → kept ≡ []
none_without_lines [] empty = refl
none_without_lines (concern ∷ later) empty =
    absurd (line_is_not_empty _ _ (sym (append_assoc _ (10 ∷ []) (text_of_lines (map concern_line later))) ∙ empty))

pub empty_is_clean : EmptyIsClean
empty_is_clean allowed limits file text checked =
    let concerns = checked.concerns in (
      λ empty. file_is_clean allowed limits file concerns checked.are_concerns
          (none_without_lines (kept_concerns allowed concerns) (sym checked.is_text ∙ empty)),
      λ clean. checked.is_text
          ∙ ap (λ kept. text_of_lines (map concern_line kept))
          (clean_file_has_none allowed limits file concerns checked.are_concerns clean),
    )
