use Rattle.std.proofs.Common.{◌≡◌, ◌<◌, length, sym, ap, subst, ◌∙◌, arith, List, ℕ, Bor, Option}
use Rattle.bi_base.specs.Slices.{bytes_of}
use Rattle.std.proofs.lemmas.List.{length-set, length-map}
use Rattle.bi_blob.specs.Layout.{offset_in}
use Rattle.bi_lay.specs.Contents.{name_numbered}
use Rattle.bi_lay.specs.Names.{saturated_usize, with_name}
use Rattle.bi_lay.specs.NumberedNames.{numbered_names, with_use}
use Rattle.bi_lay.proofs.KnownOffsets.{known-read, known-stored}
use Rattle.bi_lay.proofs.numbered_names.NumberedNames.add_numbered.Goals as goal

-- There is an offset, or none yet, for each number.
within : (by_number : List (List ℕ)) (slices : List (Bor (List ℕ))) (offsets : List (Option ℕ)) (number : ℕ) → number < length by_number →
    bytes_of slices ≡ by_number → length offsets ≡ length slices → number < length offsets
within by_number slices offsets number less is count = omega (arith, ap length is, length-map slices (λ slice. slice.now))

pub returns-in-Some-clause-offset : goal.returns-in-Some-clause-offset
returns-in-Some-clause-offset c =
    subst (λ names. c.in-Some.offset
    ≡ saturated_usize (offset_in names.in_block (name_numbered names.by_number c.args.number))) c.self.view_is
    (known-read (numbered_names c.self.inside) c.self.inside.offsets.items c.args.number c.index.result.now c.in-Some.offset
    c.self.invariant.known (within c.args.self.now.by_number c.self.inside.by_number.items c.self.inside.offsets.items c.args.number
    c.requires (ap (λ names. names.by_number) c.self.view_is) c.self.invariant.count) c.index.ensures c.in-Some.is).0

pub returns-in-Some-clause-names : goal.returns-in-Some-clause-names
returns-in-Some-clause-names c =
    subst (λ names. names ≡ with_use names (name_numbered names.by_number c.args.number)) c.self.view_is
    (known-read (numbered_names c.self.inside) c.self.inside.offsets.items c.args.number c.index.result.now c.in-Some.offset
    c.self.invariant.known (within c.args.self.now.by_number c.self.inside.by_number.items c.self.inside.offsets.items c.args.number
    c.requires (ap (λ names. names.by_number) c.self.view_is) c.self.invariant.count) c.index.ensures c.in-Some.is).1

pub invariant_of-self-2 : goal.invariant_of-self-2
invariant_of-self-2 c = record {
  count = length-set c.self.inside.offsets.items c.args.number _ ∙ c.self.invariant.count;
  known =
      let is_name = c.name-name.ensures ∙ ap (λ names. name_numbered names.by_number c.args.number) (sym c.self.view_is) in
      known-stored (numbered_names c.self.inside) c.self.inside.offsets.items c.args.number c.in_ok-offset.offset c.add.new.self
      (within c.args.self.now.by_number c.self.inside.by_number.items c.self.inside.offsets.items c.args.number c.requires
      (ap (λ names. names.by_number) c.self.view_is) c.self.invariant.count) c.self.invariant.known
      (c.in_ok-offset.ensures.names ∙ ap (with_name c.self.inside.in_block) is_name)
      (c.in_ok-offset.ensures.offset ∙ ap (λ name. saturated_usize (offset_in c.add.new.self name)) is_name);
}
