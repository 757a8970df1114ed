use Rattle.std.specs.Prelude.{◌≡◌, ◌≤◌, ◌⊎◌, ⊤, ℕ, true, false, List, [], ◌∷◌, Option, None, Some}
use Rattle.std.specs.Prelude.{codes}
use Rattle.bi_base.specs.declared.fault.Cause.TheVariants.{Truncated}
use Rattle.bi_base.specs.declared.fault.Error.TheVariants as error
use Rattle.bi_base.specs.declared.fault.Fault.{Fault}
use Rattle.bi_base.specs.Causes.{number_of}
use Rattle.bi_base.specs.Limits.{widest}
use Rattle.bi_blob.specs.KnownTexts.{smallest_text}
use Rattle.bi_blob.specs.Tree.{FileNode, FileProperty}
use Rattle.bi_common.specs.declared.format.Format.TheVariants.{Json}
use Rattle.bi_commands.specs.Extracting.{Chosen}
use Rattle.bi_commands.specs.KnownChoices.{second_tree}
use Rattle.bi_commands.specs.declared.extract.Select.TheVariants.{Part}
use Rattle.bi_describe.specs.declared.compare.CompareError.TheVariants as compare
use Rattle.bi_fit.specs.Content.{FitModel, ImageModel, tree_of}
use Rattle.bi_fit.specs.Judgement.{CheckedHash}
use Rattle.bi_fit.specs.KnownJudgements.{configured_tree}
use Rattle.bi_fit.specs.Text.{alignment_of}
use Rattle.bi_blob.specs.Lookups.{Sibling}
use Rattle.bi_fit.specs.declared.form.Form.TheVariants.{Embedded, External}
use Rattle.bi_fit.specs.declared.image.Place.{Place}
use Rattle.bi_fit.specs.declared.image.Place.TheVariants.{Data, DataOffset}
use Rattle.bi_fit.specs.declared.key.Key.TheVariants.{Kernel, Fdt, Script}
use Rattle.bi_hash.specs.declared.verdicts.Verdict.TheVariants.{Malformed}
use Rattle.bi_legacy.specs.KnownFiles.{kernel_file_with_rest}
use Rattle.bi_legacy.specs.KnownImages.{kernel_file, multi_file}
use Rattle.bi_report.specs.Checking.{BadHash, UnhashedImage, WeakHash, BadKey}
use Rattle.bi_report.specs.Checking.{MissingImage, BadDefault, TrailingBytes, nothing_allowed}
use Rattle.bi_report.specs.FoundConcerns.{HashOf, NamedNodes, NodeItself, Default, Rest}
use Rattle.bi_coverage.specs.Coverage.{Strings, Uncovered}
use Rattle.bi_report.specs.Checking.{OfSignature, SkippedHash, Unsigned}
use Rattle.bi_report.specs.KnownTexts.{hash_with}
use Rattle.bi_c.specs.Answers.{Answers, FillsBuffer, IsFailure, Sets}
use Rattle.bi_c.specs.Arguments.{HasChanges, HasForm, HasLayout, checker_of}
use Rattle.bi_c.specs.Calls.{HasKinds, IsCauseName, IsFailureOfTwo, IsKindNumber, IsNoCause, IsSame}
use Rattle.bi_c.specs.Calls.{IsTextOnly, IsTextWithFlag}
use Rattle.bi_c.specs.ConcernElements.{IsConcernElement, algorithm_in}
use Rattle.bi_c.specs.ConcernElements.{concern_element, hash_name_in}
use Rattle.bi_c.specs.ConcernElements.{name_in}
use Rattle.bi_c.specs.Extracting.{IsChosenAt, IsDefaultOffset, IsListedOffset, IsNamedOffset}
use Rattle.bi_c.specs.Extracting.{IsOffset, IsPayloadOffset}
use Rattle.bi_c.specs.KnownElements.{kernel_fields, region_at_offset}
use Rattle.bi_c.specs.PieceBuilding.{bytes_of_piece, HasPieces, IsPieceBuildFailure, legacy_in}
use Rattle.bi_c.specs.TreeRegions.{name_region_of}
use Rattle.bi_c.specs.VerdictElements.{found_text_region, nowhere, verdict_number}
use Rattle.bi_c.specs.declared.answer.Answer.{Answer}
use Rattle.bi_c.specs.declared.concerns.ConcernElement.{ConcernElement}
use Rattle.bi_c.specs.Checks.{NoCheck}
use Rattle.bi_c.specs.declared.argument.Argument.{Argument}
use Rattle.bi_c.specs.declared.argument.Argument.TheVariants as argument
use Rattle.bi_c.specs.declared.failure.Failure.{Failure}
use Rattle.bi_c.specs.declared.failure.Failure.TheVariants.{Refused, WrongArgument, NotFound}
use Rattle.bi_c.specs.declared.failure.Failure.TheVariants.{OutOfMemory}

-- What calls from C return for small files and concerns, by which a reader can judge the
-- definitions.

-- ---- concerns

-- An element that is about nothing.
abbrev pub no_concern : ConcernElement
no_concern = record {
  name = nowhere;
  node = nowhere;
  algorithm = nowhere;
  index = 0;
  size = 0;
  kind = 0;
  verdict = 0;
  key = 0;
}

-- The element of a concern about a node has the name of the node, and so on for each kind of
-- concerns.
pub record ConcernElementsAreKnown : Type 0 where
  pub bad_hash : (image hash : Sibling FileNode)
      → let element = concern_element
      (record { concern = BadHash (hash_with Malformed); subject = HashOf image hash }) in
      (element.name ≡ name_region_of image) × (element.node ≡ name_region_of hash)
      × (element.kind ≡ 1) × (element.verdict ≡ verdict_number Malformed)
  pub skipped_hash : (image hash : Sibling FileNode)
      → concern_element
      (record { concern = SkippedHash (codes "a") (codes "h"); subject = HashOf image hash })
      ≡ record no_concern {
        name = name_region_of image;
        node = name_region_of hash;
        kind = 128;
      }
  pub unhashed : (node : Sibling FileNode)
      → concern_element
      (record { concern = UnhashedImage (codes "a"); subject = NodeItself node })
      ≡ record no_concern { name = name_region_of node; kind = 2 }
  pub weak : (node : Sibling FileNode) (hashes : List CheckedHash)
      → concern_element
      (record { concern = WeakHash (codes "a") hashes; subject = NodeItself node })
      ≡ record no_concern { name = name_region_of node; kind = 4 }
  pub bad_list : (node : Sibling FileNode)
      → concern_element
      (record { concern = BadKey (codes "c") Script; subject = NodeItself node })
      ≡ record no_concern { name = name_region_of node; kind = 8; key = 5 }
  pub missing : (node : Sibling FileNode)
      → concern_element
      (record { concern = MissingImage (codes "c") Fdt 3; subject = NodeItself node })
      ≡ record no_concern { name = name_region_of node; index = 3; kind = 16; key = 1 }
  pub bad_default : (property : Option FileProperty)
      → concern_element
      (record { concern = BadDefault (Some (codes "d")); subject = Default property })
      ≡ record no_concern { name = found_text_region property; kind = 32 }
  pub trailing : concern_element (record { concern = TrailingBytes 7; subject = Rest })
      ≡ record no_concern { size = 7; kind = 64 }
  pub unsigned : concern_element (record { concern = Unsigned None; subject = NamedNodes })
      ≡ record no_concern { kind = 256 }
  pub uncovered :
      concern_element
      (record {
        concern = OfSignature (codes "c") (codes "s") (Uncovered (codes "/"));
        subject = NamedNodes;
      })
      ≡ record no_concern { kind = 2048 }

-- The texts that concerns have.
pub record ConcernTextsAreKnown : Type 0 where
  pub image : name_in (BadHash (hash_with Malformed)) ≡ Some (codes "a")
  pub node : hash_name_in (BadHash (hash_with Malformed)) ≡ Some (codes "hash-1")
  pub algorithm : algorithm_in
      (BadHash (record (hash_with Malformed) { algo = Some (codes "crc32") }))
      ≡ Some (codes "crc32")
  pub of_image : name_in (UnhashedImage (codes "b")) ≡ Some (codes "b")
  pub configuration : name_in (BadKey (codes "c") Kernel) ≡ Some (codes "c")
  pub listed : name_in (MissingImage (codes "c") Kernel 0) ≡ Some (codes "c")
  pub default : name_in (BadDefault (Some (codes "d"))) ≡ Some (codes "d")
  pub no_default : name_in (BadDefault None) ≡ None
  pub rest : name_in (TrailingBytes 7) ≡ None
  pub skipped : name_in (SkippedHash (codes "a") (codes "h")) ≡ Some (codes "a")
  pub skipped_node : hash_name_in (SkippedHash (codes "a") (codes "h")) ≡ Some (codes "h")
  pub signed_node : name_in (OfSignature (codes "c") (codes "s") Strings) ≡ None
  pub no_node : hash_name_in (UnhashedImage (codes "b")) ≡ None
  pub no_algorithm : algorithm_in (UnhashedImage (codes "b")) ≡ None
  pub element : (file : List ℕ) (element : ConcernElement)
      → IsConcernElement file element (MissingImage (codes "c") Fdt 3)
      → (element.index ≡ 3) × (element.kind ≡ 16) × (element.key ≡ 1) × (element.size ≡ 0)

-- ---- extracting

-- Two images `a` and `b`, whose payloads are at 60 and at 72.
abbrev pub placed_image : (name : List ℕ) → Place → ImageModel
placed_image name place = record { name = name; payload = Some name; place = place }

abbrev pub images_at_places : List ImageModel
images_at_places =
    placed_image (codes "a") (Data 60) ∷ placed_image (codes "b") (DataOffset 72) ∷ []

-- The offsets of what is selected. In the tree, `conf-1` lists `b` and then `a` as its devicetrees.
-- `conf-2` is the default and lists `b`. Another tree does not have the configuration that is its
-- default.
pub record OffsetsOfPayloadsAreKnown : Type 0 where
  pub named : (content : FitModel) (offset : ℕ) → content.images ≡ images_at_places
      → IsNamedOffset content (codes "b") offset → offset ≡ 72
  pub no_image : (content : FitModel) (offset : ℕ) → content.images ≡ images_at_places
      → ¬ (IsNamedOffset content (codes "c") offset)
  pub no_part : (content : FitModel) (offset : ℕ) → ¬ (IsPayloadOffset (Part 0) content offset)
  pub listed : (content : FitModel) (offset : ℕ) → content.images ≡ images_at_places
      → tree_of content ≡ second_tree
      → IsListedOffset content (codes "conf-1") Fdt 1 offset → offset ≡ 60
  pub default : (content : FitModel) (offset : ℕ) → content.images ≡ images_at_places
      → tree_of content ≡ second_tree → IsDefaultOffset content Kernel 0 offset → offset ≡ 72
  pub no_default : (content : FitModel) (offset : ℕ) → tree_of content ≡ configured_tree
      → ¬ (IsDefaultOffset content Kernel 0 offset)
  pub chosen : (size offset : ℕ) → IsChosenAt (codes "xabc") (Chosen (codes "abc")) size offset
      → size ≡ 3
  pub part : (offset : ℕ) → IsOffset widest (Part 1) multi_file offset → offset ≡ 84

-- ---- calls

-- The number of a kind, whether two files mean the same, and a yes or no.
pub record CallNumbersAreKnown : Type 0 where
  pub legacy : (size value : ℕ) → IsKindNumber kernel_file size value → (size ≡ 0) × (value ≡ 1)
  pub fit : (size value : ℕ) → IsKindNumber smallest_text size value → (size ≡ 0) × (value ≡ 2)
  pub same : (size value : ℕ) → IsSame 0x7fffffff 64 kernel_file_with_rest kernel_file size value
      → value ≡ 1
  pub different : (size value : ℕ) → IsSame 0x7fffffff 64 kernel_file multi_file size value
      → value ≡ 0
  pub yes : (text : List ℕ) (value : ℕ)
      → IsTextWithFlag 64 1 (λ limits yes text. yes ≡ true) text value → value ≡ 1
  pub no : (text : List ℕ) (value : ℕ)
      → IsTextWithFlag 64 1 (λ limits yes text. yes ≡ false) text value → value ≡ 0
  pub text : (text : List ℕ) (value : ℕ)
      → IsTextOnly 64 1 (λ limits text. text ≡ codes "x") text value
      → (text ≡ codes "x") × (value ≡ 0)
  pub cause : IsCauseName (number_of Truncated) (codes "Truncated") 0
  pub no_cause : ¬ (IsNoCause (number_of Truncated) (WrongArgument argument.Number 0))
  pub one : (file : ℕ) (fault : Fault)
      → IsFailureOfTwo 64 1 (λ error. error ≡ compare.One fault) (Refused file fault) → file ≡ 1
  pub other : (file : ℕ) (fault : Fault)
      → IsFailureOfTwo 64 1 (λ error. error ≡ compare.Other fault) (Refused file fault)
      → file ≡ 2

-- ---- answers

-- An answer with nothing in it.
abbrev pub empty_answer : Answer
empty_answer = record { size = 0; value = 0; cause = 0; offset = 0; file = 0; reason = 0 }

-- No failure.
abbrev pub NoFailure : Failure → Type 0
NoFailure failure = ⊥

-- The failure is this one.
abbrev pub IsOnly : Failure → Failure → Type 0
IsOnly failure other = other ≡ failure

-- The call leaves this in the caller's struct and returns this status, unless memory runs out.
abbrev pub AlwaysAnswers : (IsOutput : (size value : ℕ) → Type 0) → (HasFailed : Failure → Type 0)
    → Answer → (status : ℕ) → Type 0
AlwaysAnswers IsOutput HasFailed answer status =
    (left : Answer) (returned : ℕ) → Answers IsOutput HasFailed left returned
    → ((left ≡ answer) × (returned ≡ status)) ⊎ ((left ≡ empty_answer) × (returned ≡ 2))

-- The call on this buffer leaves this in it and in the caller's struct, and returns this status,
-- unless memory runs out.
abbrev pub AlwaysFills : {T : Type 0} → (IsOutput : (output : List T) → (value : ℕ) → Type 0)
    → (HasFailed : Failure → Type 0) → (before after : List T) → Answer → (status : ℕ) → Type 0
AlwaysFills {T} IsOutput HasFailed before after answer status =
    (left : List T) (given : Answer) (returned : ℕ)
    → FillsBuffer IsOutput HasFailed before left given returned
    → ((left ≡ after) × (given ≡ answer) × (returned ≡ status))
    ⊎ ((left ≡ before) × (given ≡ empty_answer) × (returned ≡ 2))

-- The output `xy`, with the number 7.
abbrev pub IsOutputXy : (output : List ℕ) → (value : ℕ) → Type 0
IsOutputXy output value = (output ≡ codes "xy") × (value ≡ 7)

-- What is in a buffer and in the caller's struct, and the status. The bytes after the output stay,
-- and without room all do.
pub record CallAnswersAreKnown : Type 0 where
  pub no_buffer : (answer : Answer) (status : ℕ)
      → Answers (λ size value. (size ≡ 2) × (value ≡ 7)) NoFailure answer status
      → (answer ≡ record empty_answer { size = 2; value = 7 }) × (status ≡ 0)
  pub not_found : (answer : Answer) (status : ℕ)
      → Answers (λ size value. ⊥) (IsOnly (NotFound 7 3)) answer status
      → (answer ≡ record empty_answer { value = 3; reason = 7 }) × (status ≡ 5)
  pub filled : (after : List ℕ) (answer : Answer) (status : ℕ)
      → FillsBuffer IsOutputXy NoFailure (codes "abc") after answer status
      → (after ≡ codes "xyc") × (answer ≡ record empty_answer { size = 2; value = 7 })
      × (status ≡ 0)
  pub no_room : (after : List ℕ) (answer : Answer) (status : ℕ)
      → FillsBuffer IsOutputXy NoFailure (codes "a") after answer status
      → (after ≡ codes "a") × (answer ≡ record empty_answer { size = 2; value = 7 })
      × (status ≡ 3)
  pub set : (after : List ℕ) (answer : Answer) (status : ℕ)
      → Sets (λ after. after ≡ codes "x") NoFailure [] after answer status
      → (after ≡ codes "x") × (answer ≡ empty_answer) × (status ≡ 0)
  pub not_set : (after : List ℕ) (answer : Answer) (status : ℕ)
      → Sets (λ after. ⊥) (IsOnly OutOfMemory) (codes "a") after answer status
      → (after ≡ codes "a") × (answer ≡ empty_answer) × (status ≡ 2)
  pub file : (file : ℕ) (fault : Fault)
      → IsFailure NoCheck (λ cause. cause ≡ error.Refused fault) (Refused file fault) → file ≡ 1
  pub wrong : (found : Argument) (index : ℕ)
      → ¬ (IsFailure NoCheck (λ error. ⊤) (WrongArgument found index))

-- The numbers of forms, and the greatest numbers of layouts, changes and kinds of concerns.
pub record ArgumentBoundsAreKnown : Type 0 where
  pub form : (number : ℕ) → HasForm 64 1 number → number ≤ 0x100000
  pub embedded : (has : HasForm 64 1 0) → has.form ≡ Embedded
  pub external : (has : HasForm 64 1 1) → has.form ≡ External
  pub page : (has : HasForm 64 1 4096) → alignment_of has.form ≡ Some 4096
  pub has_page : HasForm 64 1 4096
  pub no_form : ¬ (HasForm 64 1 3)
  pub layout : (layout : ℕ) → HasLayout 64 1 layout → layout ≤ 1
  pub changes : (form changes : ℕ) → HasChanges 64 1 form changes → changes ≤ 3
  pub kinds : (kinds : ℕ) → HasKinds 64 1 kinds → kinds ≤ 65535
  pub checker : (checker_of Json 66).policy
      ≡ record {
        allowed = record nothing_allowed { unhashed = true; trailing = true };
        signed = false;
      }
  pub signed : (checker_of Json 32768).policy ≡ record { allowed = nothing_allowed; signed = true }
  pub no_limit : ¬ (HasForm 63 1 0)

-- ---- pieces

-- The bytes of pieces of `xabc`, and the image whose name and parts they are. A piece that ends
-- after the input is refused.
pub record PiecesAreKnown : Type 0 where
  pub bytes : bytes_of_piece (codes "xabc") (region_at_offset 1 2) ≡ codes "ab"
  pub name : (legacy_in (codes "xabc") (record (kernel_fields 4) { name = region_at_offset 0 1 })
      (region_at_offset 1 2 ∷ region_at_offset 3 1 ∷ [])).name
      ≡ codes "x"
  pub parts : (legacy_in (codes "xabc") (kernel_fields 4)
      (region_at_offset 1 2 ∷ region_at_offset 3 1 ∷ [])).parts
      ≡ codes "ab" ∷ codes "c" ∷ []
  pub time : (legacy_in (codes "xabc") (record (kernel_fields 4) { time = 7 }) []).time ≡ 7
  pub load : (legacy_in (codes "xabc") (record (kernel_fields 4) { load = 7 }) []).load ≡ 7
  pub entry : (legacy_in (codes "xabc") (record (kernel_fields 4) { entry = 7 }) []).entry ≡ 7
  pub os : (legacy_in (codes "xabc") (record (kernel_fields 4) { os = 7 }) []).os ≡ 7
  pub arch : (legacy_in (codes "xabc") (record (kernel_fields 4) { arch = 7 }) []).arch ≡ 7
  pub image_type : (legacy_in (codes "xabc") (kernel_fields 7) []).image_type ≡ 7
  pub compression :
      (legacy_in (codes "xabc") (record (kernel_fields 4) { compression = 7 }) []).compression
      ≡ 7
  pub outside :
      ¬ (HasPieces 64 1 (codes "xabc") (record (kernel_fields 4) { name = region_at_offset 0 1 })
      (region_at_offset 3 2 ∷ []))
  pub one_file : (file : ℕ) (fault : Fault)
      → IsPieceBuildFailure 64 1 (codes "xabc") (kernel_fields 4) [] (Refused file fault)
      → file ≡ 1
