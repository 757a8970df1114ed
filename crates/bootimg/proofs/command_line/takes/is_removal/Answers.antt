use Rattle.std.proofs.Common.{List, ℕ, subst}
use Rattle.std.specs.Prelude.{◌↔◌, IsTrue}
use Rattle.bi_edit.specs.declared.edit.Edit.{Edit}
use Rattle.bi_edit.specs.EditWords.{IsRemovalWord}
use Rattle.bootimg.proofs.RefusedFacts.{taken_if_some}
use Rattle.bootimg.proofs.command_line.takes.is_removal.Goals as goal

pub returns-in-Ok : goal.returns-in-Ok
returns-in-Ok c =
    subst (λ word. IsTrue c.is_some.result ↔ ((edit : Edit) × IsRemovalWord word edit)) c.as_bytes.ensures.value
    (taken_if_some (IsRemovalWord c.as_bytes.result.now) c.in-Ok.found c.is_some.result c.in-Ok.ensures.some c.in-Ok.ensures.none
    c.is_some.ensures)
