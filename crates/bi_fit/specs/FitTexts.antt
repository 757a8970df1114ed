use Rattle.std.specs.Prelude.{◌≡◌, ℕ, ◌≤◌, List, ◌++◌, length}
use Rattle.bi_blob.specs.Layout.{longest_text}
use Rattle.bi_fit.specs.declared.text.FitText.TheInside.{Inside as Fields}
use Rattle.bi_fit.specs.NormalNodes.{AreWithin, payloads_of}
use Rattle.bi_fit.specs.Text.{alignment_of, payloads_after}

-- What the fields of a text of a flattened image tree hold, and what is true of them.

-- The blob and what follows it.
abbrev pub fit_text_model : Fields → List ℕ
fit_text_model text =
    text.blob ++ payloads_after (alignment_of text.form) (payloads_of text.images.now)

-- The payloads end within the longest text, the text has this size, and it is no longer.
pub record IsConsistentText (text : Fields) : Type 0 where
  pub within : AreWithin text.form 0 (payloads_of text.images.now)
  pub is_size : text.size ≡ length (fit_text_model text)
  pub small : text.size ≤ longest_text
