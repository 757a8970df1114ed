use Rattle.std.specs.Prelude.{◌≡◌, ◌↔◌, ℕ, List, [], ◌∷◌, Some, None, codes, string_bytes}
use Rattle.bi_base.specs.declared.fault.Error.{Error}
use Rattle.bi_base.specs.declared.fault.Error.TheVariants.{Refused, OutOfMemory}
use Rattle.bi_base.specs.Limits.{Limits, widest}
use Rattle.bi_fit.specs.declared.form.Form.{Form}
use Rattle.bi_fit.specs.declared.form.Form.TheVariants.{Embedded, External}
use Rattle.bi_fit.specs.declared.kept.Kept.{Kept}
use Rattle.bi_fit.specs.KnownBuilds.{known_text}
use Rattle.bi_fit.specs.KnownFiles.{three_aligned, three_embedded, three_external}
use Rattle.bi_fit.specs.KnownKept.{kept}
use Rattle.bi_legacy.specs.KnownFaults.{limited_to}
use Rattle.bi_legacy.specs.KnownFiles.{kernel_file_with_rest}
use Rattle.bi_legacy.specs.KnownImages.{kernel_file, multi_file, multi_image}
use Rattle.bi_legacy.specs.Text.{legacy_text}
use Rattle.bi_norm.specs.KnownConvertedFiles.{multi_of_none, multi_of_two, no_part_fault}
use Rattle.bi_norm.specs.KnownNormalForms.{signed_file}
use Rattle.bi_commands.specs.BuildCommands.{convert_promise}
use Rattle.bi_commands.specs.KnownUpdates.{no_changes, only_time}
use Rattle.bi_commands.specs.Payloads.{payload_file, payloads_model}
use Rattle.bi_commands.specs.UpdatedFiles.{IsUpdateKept, update_promise}
use Rattle.bi_commands.specs.declared.extract_all.Payload.{Payload}
use Rattle.bi_commands.specs.declared.extract_all.Payloads.{Payloads}

-- What `convert` promises of small files, what updates of them do not keep, and which files
-- payloads have. A reader can judge the definitions by them.

-- ---- convert

-- A multi-file image of two parts is converted to a text of 824 bytes, and to no other. One without
-- parts is refused, and an accepted one may run out of memory. An error is not changed.
pub record ConvertPromiseIsKnown : Type 0 where
  pub is_output : (text : List ℕ)
      → (convert_promise widest).is_output tt (legacy_text multi_of_two) text ↔ (text ≡ known_text)
  pub is_text : (text : List ℕ)
      → (convert_promise widest).is_text (legacy_text multi_of_two) text ↔ (text ≡ known_text)
  pub no_parts : (error : Error)
      → (convert_promise widest).has_error (legacy_text multi_of_none) error
      ↔ (error ≡ Refused no_part_fault)
  pub within : (error : Error)
      → (convert_promise (limited_to 824)).has_error (legacy_text multi_of_two) error
      ↔ (error ≡ OutOfMemory)
  pub is_same : (limits : Limits) (error : Error) → (convert_promise limits).wraps error ≡ error

-- ---- update

-- What updates do not keep of files. Of a legacy image nothing is said, and nothing else may be.
-- Without changes it is what the normal form does not keep: the signature node, and in the form
-- External the alignment. An error is not changed.
pub record KeptOfUpdatesIsKnown : Type 0 where
  pub legacy : (form : Form)
      → IsUpdateKept (only_time 5) widest form (kept None 0) multi_file
      (legacy_text (record multi_image { time = 5 }))
  pub only_of_legacy : (form : Form) (other : Kept) (text : List ℕ)
      → IsUpdateKept (only_time 5) widest form other multi_file text
      → (other ≡ kept None 0) × (text ≡ legacy_text (record multi_image { time = 5 }))
  pub unchanged : (form : Form)
      → IsUpdateKept no_changes widest form (kept None 0) kernel_file_with_rest kernel_file
  pub embedded :
      IsUpdateKept no_changes widest Embedded (kept None 0) (three_aligned 4096 4096) three_embedded
  pub external :
      IsUpdateKept no_changes widest External (kept (Some 4096) 0) (three_aligned 4096 4096)
      three_external
  pub signed :
      IsUpdateKept no_changes widest Embedded (record (kept None 0) { signatures = 1 })
      signed_file signed_file
  pub is_same : (form : Form) (limits : Limits) (error : Error)
      → (update_promise no_changes form limits).wraps error ≡ error

-- ---- payloads

-- The file of a payload has its name and its bytes. The files of two payloads are in their order.
pub record FilesOfPayloadsAreKnown : Type 0 where
  pub one : (payload : Payload) → string_bytes payload.file_name ≡ codes "part-0"
      → payload.bytes.now ≡ codes "hello"
      → payload_file payload ≡ record { name = codes "part-0"; bytes = codes "hello" }
  pub none : (payloads : Payloads) → payloads.payloads.items ≡ [] → payloads_model payloads ≡ []
  pub two : (first second : Payload) (payloads : Payloads)
      → payloads.payloads.items ≡ first ∷ second ∷ []
      → payloads_model payloads ≡ payload_file first ∷ payload_file second ∷ []
