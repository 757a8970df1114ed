use Rattle.std.proofs.Common.{◌≡◌, ◌<◌, ◌++◌, ◌∷◌, [], ℕ, List, Some, None, cond, map, length, inl, inr, refl, sym, ap, subst, ◌∙◌}
use Rattle.std.proofs.Common.{slice_get, rules}
use Rattle.std.proofs.lemmas.List.{map-append, length-map}
use denote.Ref.{Bor}
use Rattle.bi_fdt.specs.NameParts.{NamePart, IsPlaced, name_parts_of}
use Rattle.bi_fdt.specs.PartNumbers.{is_same_key, number_in}
use Rattle.bi_fdt.proofs.NameParts.{found_more, listed_more, lacks_part}
use Rattle.bi_fdt.proofs.name_parts.NameParts.add.Goals as goal

pub returns-in-Some-clause-added : goal.returns-in-Some-clause-added
returns-in-Some-clause-added c =
    inl (
      ap (λ l. slice_get l c.in-Some.number) (sym c.self.view_is)
          ∙ c.self.invariant.found (c.args.tail, c.args.bytes) c.in-Some.number (sym c.get.ensures ∙ c.in-Some.is),
      refl,
    )

-- The parts that there were, and those with one more.
abbrev before : goal.After-unwrap → List NamePart
before c = name_parts_of c.self.inside

abbrev after : goal.After-unwrap → List NamePart
after c = map (λ part. (part.0, part.1.now)) c.push.new.self.items

is_appended : (c : goal.After-unwrap) → after c ≡ before c ++ (c.args.tail, c.args.bytes.now) ∷ []
is_appended c =
    let pushed : c.push.new.self.items ≡ c.self.inside.parts.items ++ (c.args.tail, c.args.bytes) ∷ [] = search rules in
    ap (map (λ part. (part.0, part.1.now))) pushed
    ∙ map-append (λ part. (part.0, part.1.now)) c.self.inside.parts.items ((c.args.tail, c.args.bytes) ∷ [])

was_none : (c : goal.After-unwrap) → number_in c.self.inside.numbers (c.args.tail, c.args.bytes) ≡ None
was_none c = sym c.get.ensures ∙ c.in_default.is

number_is : (c : goal.After-unwrap) → c.len-number.result ≡ length (before c)
number_is c =
    let counted : c.len-number.result ≡ length c.self.inside.parts.items = search rules in
    let mapped : length (before c) ≡ length c.self.inside.parts.items = simp length-map in
    counted ∙ sym mapped

updated : (c : goal.After-unwrap) (part : ℕ × Bor (List ℕ)) → number_in c.insert.new.self part
    ≡ cond (is_same_key (c.args.tail, c.args.bytes) part) (Some (length (before c))) (number_in c.self.inside.numbers part)
updated c part =
    c.in_ok-insert.ensures.inserted part
    ∙ ap (λ n. cond (is_same_key (c.args.tail, c.args.bytes) part) (Some n) (number_in c.self.inside.numbers part)) (number_is c)

pub invariant_of-self-2 : goal.invariant_of-self-2
invariant_of-self-2 c = record {
  maps = subst (λ n. 0 < n) (sym c.in_ok-insert.ensures.count) c.self.invariant.maps;
  found = λ part number is.
      ap (λ l. slice_get l number) (is_appended c)
      ∙ found_more (number_in c.self.inside.numbers) (number_in c.insert.new.self) (before c) (
        c.args.tail,
        c.args.bytes,
      ) c.self.invariant.found (updated c) part
      number is;
  listed = λ part number is.
      listed_more (number_in c.self.inside.numbers) (number_in c.insert.new.self) (before c) (
        c.args.tail,
        c.args.bytes,
      ) c.self.invariant.listed (updated c)
      (was_none c) part number (ap (λ l. slice_get l number) (sym (is_appended c)) ∙ is);
}

pub returns-clause-added : goal.returns-clause-added
returns-clause-added c =
    subst (λ old. IsPlaced old (c.args.tail, c.args.bytes.now) c.len-number.result (after c)) c.self.view_is
    (inr (
      lacks_part (number_in c.self.inside.numbers) (before c) (c.args.tail, c.args.bytes) c.self.invariant.listed (was_none c),
      number_is c,
      is_appended c,
    ))
