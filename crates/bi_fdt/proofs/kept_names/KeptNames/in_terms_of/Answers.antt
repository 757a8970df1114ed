use Rattle.std.proofs.Common.{◌≡◌, ℕ, List, Option, Result, Ok, Err, Vec, Global, length, refl, rules, subst, sym, ap, ◌∙◌}
use Rattle.std.proofs.lemmas.List.{length-map}
use Rattle.std.specs.Prelude.{IfOk}
use Rattle.std.specs.List.{AllZip}
use Rattle.std.specs.declared.alloc.AllocError.{AllocError}
use denote.Ref.{Bor}
use Rattle.bi_base.specs.Slices.{bytes_of}
use Rattle.bi_fdt.specs.NameParts.{NamePart, parts_of_slices}
use Rattle.bi_fdt.specs.NameTails.{AreHeads}
use Rattle.bi_fdt.specs.Numbers.{FindsNumber}
use Rattle.bi_fdt.specs.OtherNames.{AreOwnNumbers}
use Rattle.bi_fdt.proofs.OtherNames.{own_names_found, same_names}
use Rattle.bi_fdt.proofs.kept_names.KeptNames.in_terms_of.Goals as goal

-- The names are found if there was memory.
found : (names others : List (List ℕ)) (count : ℕ) (result : Result (Vec (Option ℕ) Global) AllocError) → names
    ≡ others → count ≡ length names →
    IfOk result (λ numbers. AreOwnNumbers count numbers.items) → IfOk result (λ numbers. AllZip (FindsNumber others) names numbers.items)
found names others count (Ok numbers) same counted own =
    subst (λ all. AllZip (FindsNumber all) names numbers.items) same
    (own_names_found names numbers.items (subst (λ count. AreOwnNumbers count numbers.items) counted own))
found names others count (Err e) same counted own = tt

-- Names with the same parts are the same.
same : (tails heads other_tails other_heads : List NamePart) (names others : List (List ℕ)) → tails ≡ other_tails → heads ≡ other_heads →
    AreHeads tails heads names → AreHeads other_tails other_heads others → names ≡ others
same tails heads other_tails other_heads names others same_tails same_heads are other_are =
    same_names other_tails other_heads names others
    (subst (λ tails. AreHeads tails other_heads names) same_tails
    (subst (λ heads. AreHeads tails heads names) same_heads are)).each other_are.each

pub returns-then-have_same_parts : goal.returns-then-have_same_parts
returns-then-have_same_parts c =
    found c.args.self.now c.args.other.now c.len.result c.own_numbers.result same_names_of_parts counted c.own_numbers.ensures
  where
    same_names_of_parts : c.args.self.now ≡ c.args.other.now
    same_names_of_parts =
        let parts = c.if-have_same_parts.ensures.0 refl in
        sym c.self.view_is
        ∙ same (parts_of_slices c.self.inside.tails.items) (parts_of_slices c.self.inside.heads.items)
        (parts_of_slices c.other.inside.tails.items)
        (parts_of_slices c.other.inside.heads.items) (bytes_of c.self.inside.names.items) (bytes_of c.other.inside.names.items)
        (ap parts_of_slices (sym c.deref.ensures.value) ∙ parts.0 ∙ ap parts_of_slices c.deref-2.ensures.value)
        (ap parts_of_slices (sym c.deref-3.ensures.value) ∙ parts.1 ∙ ap parts_of_slices c.deref-4.ensures.value)
        c.self.invariant c.other.invariant ∙ c.other.view_is

    counted : c.len.result ≡ length c.args.self.now
    counted =
        let long : length c.self.inside.names.items ≡ c.len.result = search rules in
        sym long ∙ sym (length-map c.self.inside.names.items (λ (name : Bor (List ℕ)). name.now)) ∙ ap length c.self.view_is
