use Rattle.std.specs.Prelude.{ℕ, ◌≡◌, ◌<◌, ◌≤◌, List, [], ◌++◌, Option, length}
use Rattle.bi_base.specs.Errors.{FailsWith}
use Rattle.bi_base.specs.declared.fault.Error.{Error}
use Rattle.bi_base.specs.declared.fault.Fault.{Fault}
use Rattle.bi_base.specs.Limits.{Limits}
use Rattle.bi_base.specs.Reading.{too_large}
use Rattle.bi_blob.specs.Events.{events_of}
use Rattle.bi_lay.specs.Contents.{Doc, text_of}
use Rattle.bi_fit.specs.declared.form.Form.{Form}
use Rattle.bi_fit.specs.declared.form.Form.TheVariants.{Embedded}
use Rattle.bi_fit.specs.ImageTree.{ImageTree}
use Rattle.bi_fit.specs.Text.{alignment_of, blob_alignment, normal_tree, payloads_after}
use Rattle.bi_fit.specs.Text.{payloads_end, fit_text}

-- The document of an image tree in a form: its text with the alignment of the form is the blob of
-- the normal text. The whole text has the payloads after it (profile of this project).

-- What the document holds.
abbrev pub document_of : Form → ImageTree → Doc
document_of form tree = record {
  boot_cpu = tree.cpu;
  reservations = tree.reservations;
  events = events_of (normal_tree form tree);
  names = [];
}

-- How many bytes follow the blob in a form: all of these payloads, if they are external.
abbrev pub length_after_blob : Form → List (Option (List ℕ)) → ℕ
length_after_blob Embedded payloads = 0
length_after_blob form payloads = payloads_end (blob_alignment (alignment_of form)) 0 payloads

-- The text of a document in a form, and what follows its blob.
abbrev pub whole_text : Form → Doc → List (Option (List ℕ)) → List ℕ
whole_text form document payloads =
    text_of (blob_alignment (alignment_of form)) document
    ++ payloads_after (alignment_of form) payloads

-- The text is that of the tree, and is no longer than the limit.
pub record IsTextOfTree (limits : Limits) (form : Form) (tree : ImageTree) (text : List ℕ) : Type 0
  where
    pub is_text : text ≡ fit_text form tree
    pub short : length text ≤ limits.file

-- The fault of a tree with a text that is longer than the limit.
abbrev pub IsTextFault : Limits → Form → ImageTree → Fault → Type 0
IsTextFault limits form tree fault =
    (fault ≡ too_large limits.file) × (limits.file < length (fit_text form tree))

-- The error of laying out the text of a tree: it is too long, or memory ran out. Memory never runs
-- out if what follows the blob is by itself longer than the limit.
abbrev pub IsTextError : Limits → Form → ImageTree → Error → Type 0
IsTextError limits form tree =
    FailsWith (IsTextFault limits form tree) (length_after_blob form tree.payloads ≤ limits.file)
