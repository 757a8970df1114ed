use Rattle.std.specs.Prelude.{◌≡◌, ◌↔◌, ◌⊎◌, ℕ, List, [], ◌∷◌, codes, None, Some}
use Rattle.std.specs.FinMap.{empty}
use Rattle.bi_base.specs.declared.fault.Error.{Error}
use Rattle.bi_base.specs.declared.fault.Error.TheVariants.{Refused, OutOfMemory}
use Rattle.bi_base.specs.Limits.{Limits, widest}
use Rattle.bi_base.specs.Reading.{too_large}
use Rattle.bi_blob.specs.Tree.{none, node}
use Rattle.bi_fit.specs.declared.form.Form.{Form}
use Rattle.bi_fit.specs.declared.form.Form.TheVariants.{Embedded, External}
use Rattle.bi_fit.specs.declared.kept.Kept.{Kept}
use Rattle.bi_fit.specs.ImageTree.{ImageTree}
use Rattle.bi_fit.specs.KnownFiles.{file_of_images, shared_file, three_aligned, three_embedded}
use Rattle.bi_fit.specs.KnownFiles.{three_external}
use Rattle.bi_fit.specs.KnownKept.{kept}
use Rattle.bi_fit.specs.Names.{images_name}
use Rattle.bi_legacy.specs.KnownFaults.{limited_to}
use Rattle.bi_legacy.specs.KnownFiles.{kernel_file_with_rest}
use Rattle.bi_legacy.specs.KnownImages.{kernel_file}
use Rattle.bi_norm.specs.KnownComparisons.{file_without_magic, no_magic}
use Rattle.bi_norm.specs.NormalForm.{IsNormaliseKept, normalise_promise}

-- Small files with what normalising them gives, by which a reader can judge the definitions.

-- A file whose image `a` has a signature node and no payload, and what it means.
abbrev pub signed_file : List ℕ
signed_file =
    file_of_images
    (node (codes "a") [] (node (codes "signature-1") [] none none) none)
    []

abbrev pub signed_tree : ImageTree
signed_tree = record {
  cpu = 0;
  reservations = [];
  root = record {
    own = empty;
    children =
        node images_name empty
        (node (codes "a") empty (node (codes "signature-1") empty none none) none)
        none;
  };
  payloads = None ∷ [];
}

-- Normalising the file in this form gives this text and this number of signature nodes, and nothing
-- else.
pub record IsOnlyNormalForm (form : Form) (file text : List ℕ) (count : ℕ) : Type 0 where
  pub is_output : (normalise_promise form widest).is_output count file text
  pub is_text : (normalise_promise form widest).is_text file text
  pub only : (other_count : ℕ) (other : List ℕ)
      → (normalise_promise form widest).is_output other_count file other
      → (other_count ≡ count) × (other ≡ text)

-- The bytes without a meaning of a legacy image are left out. The payloads of a FIT are moved into
-- the blob, or to multiples of four after it. A signature node is counted.
pub record NormalFormsAreKnown : Type 0 where
  pub legacy : (form : Form) → IsOnlyNormalForm form kernel_file_with_rest kernel_file 0
  pub embedded : IsOnlyNormalForm Embedded (three_aligned 4096 4096) three_embedded 0
  pub external : IsOnlyNormalForm External (three_aligned 4096 4096) three_external 0
  pub signed : IsOnlyNormalForm Embedded signed_file signed_file 1

-- What the normal form does not keep: the signature node, and in the form External the alignment.
-- Of a legacy image nothing is said.
pub record KeptOfNormalFormsIsKnown : Type 0 where
  pub legacy : (form : Form)
      → IsNormaliseKept widest form (kept None 0) kernel_file_with_rest kernel_file
  pub only_of_legacy : (form : Form) (other : Kept) (text : List ℕ)
      → IsNormaliseKept widest form other kernel_file_with_rest text
      → other ≡ kept None 0
  pub embedded :
      IsNormaliseKept widest Embedded (kept None 0) (three_aligned 4096 4096) three_embedded
  pub external :
      IsNormaliseKept widest External (kept (Some 4096) 0) (three_aligned 4096 4096) three_external
  pub signed :
      IsNormaliseKept widest Embedded (record (kept None 0) { signatures = 1 })
      signed_file signed_file

-- Normalising the file in this form fails with these errors, and with no others.
abbrev pub FailsNormalising : Limits → Form → List ℕ → (Error → Type 0) → Type 0
FailsNormalising limits form file IsOne =
    (error : Error) → (normalise_promise form limits).has_error file error ↔ IsOne error

-- A file with a fault has this error alone, and an accepted one may run out of memory. The normal
-- text of a file of 1,244 bytes has 3,168. An error is not changed.
pub record NormaliseErrorsAreKnown : Type 0 where
  pub no_magic : (form : Form)
      → FailsNormalising widest form file_without_magic (λ error. error ≡ Refused no_magic)
  pub legacy : (form : Form)
      → FailsNormalising widest form kernel_file (λ error. error ≡ OutOfMemory)
  pub too_long :
      FailsNormalising (limited_to 3167) Embedded (shared_file 0 1000)
      (λ error. (error ≡ Refused (too_large 3167)) ⊎ (error ≡ OutOfMemory))
  pub within :
      FailsNormalising (limited_to 3168) Embedded (shared_file 0 1000)
      (λ error. error ≡ OutOfMemory)
  pub is_same : (form : Form) (limits : Limits) (error : Error)
      → (normalise_promise form limits).wraps error ≡ error
