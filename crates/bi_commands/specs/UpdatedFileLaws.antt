use Rattle.std.specs.Prelude.{◌≡◌, ℕ, List, None, false}
use Rattle.bi_base.specs.Limits.{Limits}
use Rattle.bi_fit.specs.declared.form.Form.{Form}
use Rattle.bi_norm.specs.NormalForm.{IsNormalForm}
use Rattle.bi_commands.specs.UpdatedFiles.{IsUpdated}

-- Laws of updating boot images (profile of this project).

-- An update without changes writes the normal form.
abbrev pub NoChangeNormalises : Type 0
NoChangeNormalises =
    (limits : Limits) (form : Form) (file text normal : List ℕ)
    → IsUpdated (record { time = None; hashes = false }) limits form file text
    → IsNormalForm limits form file normal → text ≡ normal
