use Rattle.std.proofs.Common.{◌∙◌, ℕ, subst, sym, Global, IfNone, Option, Vec}
use Rattle.bi_common.specs.Unshown.{IsNoShownBytes}
use Rattle.bi_common.proofs.UnshownNames.{no_more_bytes, some_list}
use Rattle.bi_common.proofs.unshown.bytes_shown_as.Goals as goal
use Rattle.bi_common.proofs.unshown.bytes_shown_as.Goals.{then-is_empty, else-is_empty}

pub returns-clause-none : goal.returns-clause-none
returns-clause-none c =
    let text = c.args.text.now in
    let HasNone : Option (Vec ℕ Global) → Type 0 = λ found. IfNone found (IsNoShownBytes text) in
    elim c.if-is_empty.branch [
      | then-is_empty w ↦ subst HasNone (sym w.result-is) tt
      | else-is_empty w ↦ subst HasNone (sym w.result-is)
          (no_more_bytes text c.loop-byte.name.items c.loop-byte.rest.now c.loop-byte.invariant
          (some_list c.loop-byte.rest.now (sym c.is_empty.ensures ∙ w.if-is_empty.false)) c.in_default.ensures.none)
    ]
