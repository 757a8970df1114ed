use Rattle.std.proofs.Common.{◌≡◌, ℕ, List, Option, Result, Ok, Err, Vec, Global, subst, sym, ap, ◌∙◌, rules}
use Rattle.std.specs.Prelude.{IfOk}
use Rattle.std.specs.List.{AllZip}
use Rattle.std.specs.declared.alloc.AllocError.{AllocError}
use Rattle.bi_base.specs.Slices.{bytes_of}
use Rattle.bi_fdt.specs.NameParts.{NamePart, parts_of_slices}
use Rattle.bi_fdt.specs.NameTails.{AreHeads}
use Rattle.bi_fdt.specs.Numbers.{FindsNumber}
use Rattle.bi_fdt.specs.OtherNames.{AreOtherNumbers, AreFoundAmong}
use Rattle.bi_fdt.proofs.OtherNames.{names_found}
use Rattle.bi_fdt.proofs.kept_names.KeptNames.look_up_in.Goals as goal

-- The names are found if there was memory.
found : (tails heads : List NamePart) (names : List (List ℕ)) (other_tails other_heads : List NamePart) (others : List (List ℕ))
    (numbers : List (Option ℕ)) (result : Result (Vec (Option ℕ) Global) AllocError) → AreHeads tails heads names →
    AreHeads other_tails other_heads others → AreOtherNumbers tails other_tails numbers →
    IfOk result (λ found. AreFoundAmong heads other_heads numbers found.items) →
    IfOk result (λ found. AllZip (FindsNumber others) names found.items)
found tails heads names other_tails other_heads others numbers (Ok all) are other_are kept among = search (rules, names_found)
found tails heads names other_tails other_heads others numbers (Err e) are other_are kept among = tt

-- The same parts are those of the same names.
same_heads : (tails heads other_tails other_heads : List NamePart) (names others : List (List ℕ)) → tails
    ≡ other_tails → heads ≡ other_heads →
    names ≡ others → AreHeads tails heads names → AreHeads other_tails other_heads others
same_heads tails heads other_tails other_heads names others tails_are heads_are names_are are = search rules

pub returns : goal.returns
returns c =
    found (parts_of_slices c.deref-2.result.now) (parts_of_slices c.deref-4.result.now) c.args.self.now c.in_ok-other_tails.other_tails
    c.in_ok-other_heads.other_heads c.args.other.now c.deref-5.result.now c.parts_among.result
    (same_heads (parts_of_slices c.self.inside.tails.items) (parts_of_slices c.self.inside.heads.items)
    (parts_of_slices c.deref-2.result.now)
    (parts_of_slices c.deref-4.result.now) (bytes_of c.self.inside.names.items) c.args.self.now
    (ap parts_of_slices (sym c.deref-2.ensures.value))
    (ap parts_of_slices (sym c.deref-4.ensures.value)) c.self.view_is c.self.invariant)
    (same_heads (parts_of_slices c.other.inside.tails.items) (parts_of_slices c.other.inside.heads.items) c.in_ok-other_tails.other_tails
    c.in_ok-other_heads.other_heads (bytes_of c.other.inside.names.items) c.args.other.now
    (ap parts_of_slices (sym c.deref.ensures.value) ∙ sym c.in_ok-other_tails.ensures)
    (ap parts_of_slices (sym c.deref-3.ensures.value) ∙ sym c.in_ok-other_heads.ensures) c.other.view_is c.other.invariant)
    (subst (AreOtherNumbers (parts_of_slices c.deref-2.result.now) c.in_ok-other_tails.other_tails)
    (sym c.deref-5.ensures.value) c.in_ok-tails.ensures)
    c.parts_among.ensures
