use Rattle.std.specs.Prelude.{◌≡◌, ◌⊎◌, ℕ, List, [], ◌∷◌, codes}
use Rattle.bi_base.specs.Limits.{widest}
use Rattle.bi_base.specs.declared.fault.Error.{Error}
use Rattle.bi_base.specs.declared.fault.Error.TheVariants.{OutOfMemory}
use Rattle.bi_fit.specs.declared.configurations.ConfigError.TheVariants as list
use Rattle.bi_fit.specs.declared.form.Form.{Form}
use Rattle.bi_fit.specs.declared.key.Key.TheVariants.{Kernel, Fdt}
use Rattle.bi_legacy.specs.KnownImages.{multi_file, multi_image}
use Rattle.bi_legacy.specs.Text.{legacy_text}
use Rattle.bi_show.specs.KnownTrees.{shown_file}
use Rattle.bi_commands.specs.Extracting.{Choice, Chosen, HasBadList, HasMissingImage, HasNoPayload}
use Rattle.bi_commands.specs.Extracting.{IsReason, NoSuchConfiguration, NoSuchEntry, NoSuchImage}
use Rattle.bi_commands.specs.Extracting.{NoSuchKey, NoSuchPart, OfOtherKind, extract_promise}
use Rattle.bi_commands.specs.ExtractingAll.{AreAllPayloads, IsExtractAllError, PayloadFile}
use Rattle.bi_commands.specs.KnownChoices.{entry_selection, image_selection}
use Rattle.bi_commands.specs.KnownUpdates.{only_time}
use Rattle.bi_commands.specs.UpdatedFiles.{update_promise}
use Rattle.bi_commands.specs.declared.extract.ExtractError.{ExtractError}
use Rattle.bi_commands.specs.declared.extract.ExtractError.TheVariants as error
use Rattle.bi_commands.specs.declared.extract.Select.{Select}
use Rattle.bi_commands.specs.declared.extract.Select.TheVariants.{Part, Default}

-- What is extracted of small files, and what they are after an update, by which a reader can judge
-- the definitions. The files are a multi-file image with the parts `hello` and `abc`, and a tree
-- with the image `a`, whose payload is `abc`, and the configuration `c`, which is the default and
-- lists it as its kernel.

-- ---- reasons

-- The error for each reason why there are no bytes. That memory ran out is no such reason.
abbrev pub error_of_choice : Choice → ExtractError
error_of_choice OfOtherKind = error.WrongKind
error_of_choice NoSuchPart = error.NoPart
error_of_choice NoSuchImage = error.NoImage
error_of_choice NoSuchConfiguration = error.Config list.NoConfig
error_of_choice NoSuchKey = error.Config list.NoKey
error_of_choice HasBadList = error.Config list.BadList
error_of_choice (HasMissingImage index) = error.Config (list.Missing index)
error_of_choice NoSuchEntry = error.NoIndex
error_of_choice HasNoPayload = error.NoPayload
error_of_choice (Chosen bytes) = error.Failed OutOfMemory

-- Each error is the error for its reason, and for no other.
pub record ErrorReasonsAreKnown : Type 0 where
  pub only : (given : ExtractError) (choice : Choice) → IsReason given choice
      → given ≡ error_of_choice choice
  pub other_kind : IsReason error.WrongKind OfOtherKind
  pub no_part : IsReason error.NoPart NoSuchPart
  pub no_image : IsReason error.NoImage NoSuchImage
  pub no_configuration : IsReason (error.Config list.NoConfig) NoSuchConfiguration
  pub no_key : IsReason (error.Config list.NoKey) NoSuchKey
  pub bad_list : IsReason (error.Config list.BadList) HasBadList
  pub missing : IsReason (error.Config (list.Missing 3)) (HasMissingImage 3)
  pub no_entry : IsReason error.NoIndex NoSuchEntry
  pub no_payload : IsReason error.NoPayload HasNoPayload
  pub chosen : (given : ExtractError) (bytes : List ℕ) → ¬ (IsReason given (Chosen bytes))

-- ---- extracting

-- `extract` writes these bytes for the selection, and no others.
pub record IsOnlyExtract (select : Select) (file bytes : List ℕ) : Type 0 where
  pub is : (extract_promise select widest).is_output tt file bytes
  pub only : (others : List ℕ) → (extract_promise select widest).is_output tt file others
      → others ≡ bytes

-- It fails with this error, or memory runs out.
pub record IsOnlyExtractError (select : Select) (file : List ℕ) (given : ExtractError) : Type 0
  where
    pub is : (extract_promise select widest).has_error file given
    pub only : (other : ExtractError) → (extract_promise select widest).has_error file other
        → (other ≡ given) ⊎ (other ≡ error.Failed OutOfMemory)

-- The selections of these files.
pub record ExtractsAreKnown : Type 0 where
  pub first_part : IsOnlyExtract (Part 0) multi_file (codes "hello")
  pub second_part : IsOnlyExtract (Part 1) multi_file (codes "abc")
  pub image : IsOnlyExtract (image_selection (codes "a")) shown_file (codes "abc")
  pub entry : IsOnlyExtract (entry_selection (codes "c") Kernel 0) shown_file (codes "abc")
  pub default : IsOnlyExtract (Default Kernel 0) shown_file (codes "abc")
  pub no_part : IsOnlyExtractError (Part 2) multi_file error.NoPart
  pub image_of_legacy : IsOnlyExtractError (image_selection (codes "a")) multi_file error.WrongKind
  pub part_of_tree : IsOnlyExtractError (Part 0) shown_file error.WrongKind
  pub no_image : IsOnlyExtractError (image_selection (codes "b")) shown_file error.NoImage
  pub no_configuration : IsOnlyExtractError (entry_selection (codes "a") Kernel 0) shown_file
      (error.Config list.NoConfig)
  pub no_key : IsOnlyExtractError (entry_selection (codes "c") Fdt 0) shown_file
      (error.Config list.NoKey)
  pub no_entry : IsOnlyExtractError (entry_selection (codes "c") Kernel 1) shown_file error.NoIndex

-- The files of all payloads of these files. Only memory can be lacking.
pub record AllExtractsAreKnown : Type 0 where
  pub parts : (files : List PayloadFile) → AreAllPayloads widest multi_file files
      → files
      ≡ record { name = codes "part-0"; bytes = codes "hello" }
      ∷ record { name = codes "part-1"; bytes = codes "abc" } ∷ []
  pub images : (files : List PayloadFile) → AreAllPayloads widest shown_file files
      → files ≡ record { name = codes "a"; bytes = codes "abc" } ∷ []
  pub parts_error : (error : Error) → IsExtractAllError widest multi_file error
      → error ≡ OutOfMemory
  pub images_error : (error : Error) → IsExtractAllError widest shown_file error
      → error ≡ OutOfMemory

-- ---- updating

-- The text of the multi-file image after an update of its time, in any form, and the number of its
-- signature nodes. That of the tree is one. Only memory can be lacking.
pub record UpdatedTextsAreKnown : Type 0 where
  pub text : (form : Form) (text : List ℕ)
      → (update_promise (only_time 5) form widest).is_text multi_file text
      → text ≡ legacy_text (record multi_image { time = 5 })
  pub count : (form : Form) (count : ℕ) (text : List ℕ)
      → (update_promise (only_time 5) form widest).is_output count multi_file text → count ≡ 0
  pub count_of_tree : (form : Form) (count : ℕ) (text : List ℕ)
      → (update_promise (only_time 5) form widest).is_output count shown_file text → count ≡ 1
  pub error : (form : Form) (error : Error)
      → (update_promise (only_time 5) form widest).has_error multi_file error
      → error ≡ OutOfMemory
