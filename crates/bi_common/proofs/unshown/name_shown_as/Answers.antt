use Rattle.std.proofs.Common.{◌≡◌, ◌∙◌, ℕ, ap, subst, sym, Global, Vec}
use Rattle.std.specs.List.{flat_map}
use Rattle.bi_base.proofs.EqualBytes.{other_bytes, same_bytes}
use Rattle.bi_base.specs.Cells.{AreBytes}
use Rattle.bi_common.specs.Shown.{shown_text, shown_byte}
use Rattle.bi_common.specs.Unshown.{IsNameShownAs}
use Rattle.bi_common.proofs.ReadableWords.ShownNames.{some_shown}
use Rattle.bi_common.proofs.UnshownNames.{bytes_are_name, dash_is_bytes, empty_list, only_name, some_holds, some_list}
use Rattle.bi_common.proofs.unshown.name_shown_as.Goals as goal
use Rattle.bi_base.proofs.ByteLists.{AreBytes-none}

pub returns-then-is_empty-clause-none : goal.returns-then-is_empty-clause-none
returns-then-is_empty-clause-none c = λ name are is.
    some_shown name (is ∙ empty_list c.args.text.now (sym c.is_empty.ensures ∙ c.if-is_empty.true))

pub returns-then-eq-clause-some : goal.returns-then-eq-clause-some
returns-then-eq-clause-some c =
    let text = c.args.text.now in
    let is_dash = same_bytes text c.as_slice.result.now (sym c.eq.ensures ∙ c.if-eq.true) ∙ c.as_slice.ensures in
    subst (IsNameShownAs text) (sym c.new.ensures.items) (only_name text _ AreBytes-none (sym is_dash))

pub returns-then-eq-2-clause-some : goal.returns-then-eq-2-clause-some
returns-then-eq-2-clause-some c =
    let text = c.args.text.now in
    let is_escape = same_bytes text c.as_slice-2.result.now (sym c.eq-2.ensures ∙ c.if-eq-2.true) ∙ c.as_slice-2.ensures in
    subst (IsNameShownAs text) (sym c.in_ok-from_slice.ensures.items)
    (only_name text c.as_slice-then-eq-2.result.now (subst AreBytes (sym c.as_slice-then-eq-2.ensures) dash_is_bytes)
    (ap shown_text c.as_slice-then-eq-2.ensures ∙ sym is_escape))

pub returns-clause-some : goal.returns-clause-some
returns-clause-some c =
    let text = c.args.text.now in
    let name = c.in-Some.name in
    let IsShown : Vec ℕ Global → Type 0 = λ found. flat_map shown_byte found.items ≡ text in
    only_name text name.items (subst AreBytes c.deref.ensures.value c.are_bytes.ensures)
    (bytes_are_name text name.items (some_list text (sym c.is_empty.ensures ∙ c.if-is_empty.false))
    (λ same. other_bytes text c.as_slice.result.now (sym c.eq.ensures ∙ c.if-eq.false) (same ∙ sym c.as_slice.ensures))
    (some_holds IsShown c.in_ok-name.field-0 name c.in-Some.is c.in_ok-name.ensures.some))
