use Rattle.std.proofs.Common.{◌≡◌, ◌++◌, ◌∷◌, ℕ, true, false, Some, [], List, Bor, length, subst, sym, ap, ◌∙◌, arith}
use Rattle.std.specs.Map.{keys_of}
use Rattle.indexmap.specs.IndexMap.{get, Updates}
use Rattle.indexmap.proofs.CallerLemmas.{insert_entry-new}
use Rattle.bi_base.specs.Slices.{bytes_of}
use Rattle.bi_blob.specs.Layout.{offset_in, strings_of, is_among}
use Rattle.bi_lay.specs.Names.{saturated_usize, offset_among, names_of, same_name, with_name}
use Rattle.bi_lay.proofs.NameOffsets.{look_up-some, look_up-none, with_name-known, with_name-new, placed-push, names_of_keys-push}
use Rattle.bi_lay.proofs.NameOffsets.{strings-push, offset_in-new}
use Rattle.bi_lay.proofs.names.Names.add.Goals as goal

-- A name that was not there comes after the others.
appended : (c : goal.After-self-1) → bytes_of (keys_of c.insert.new.self.entries) ≡ names_of c.self.inside ++ c.args.name.now ∷ []
appended c =
    ap (λ entries. bytes_of (keys_of entries))
    (c.in_ok-insert.ensures.entries
    ∙ insert_entry-new same_name c.self.inside.offsets c.args.name c.self.inside.length (sym c.in_default.ensures.value))
    ∙ names_of_keys-push c.self.inside.offsets.entries c.args.name c.self.inside.length

was_new : (c : goal.After-self-1) → is_among c.args.name.now (names_of c.self.inside) ≡ false
was_new c =
    look_up-none (names_of c.self.inside) c.args.name.now
    (sym (c.self.invariant.placed c.args.name) ∙ sym c.in_default.ensures.value)

-- The map has one more offset: that after the strings block.
updated : (c : goal.After-self-1) →
    Updates same_name c.self.inside.offsets c.insert.new.self c.args.name
    (Some (saturated_usize (length (strings_of (names_of c.self.inside)))))
updated c =
    subst (λ n. Updates same_name c.self.inside.offsets c.insert.new.self c.args.name (Some n)) c.self.invariant.is_length
    c.in_ok-insert.ensures.updates

pub invariant_of-self-2 : goal.invariant_of-self-2
invariant_of-self-2 c = record {
  placed =
      subst (λ names. (name : Bor (List ℕ)) → get same_name c.insert.new.self name ≡ offset_among names name.now) (sym (appended c))
      (placed-push c.self.inside.offsets c.insert.new.self
      (names_of c.self.inside) c.args.name c.self.invariant.placed (updated c) (was_new c));
  is_length =
      omega (
        arith,
        c.self.invariant.is_length,
        c.saturating_add.ensures,
        c.saturating_add-self-inside.ensures,
        ap (λ l. length (strings_of l)) (appended c),
        strings-push (names_of c.self.inside) c.args.name.now,
      );
}

-- A name that the map has is there, with the offset that the map has for it.
known : (c : goal.After-row_known-1) →
    (c.in-Some.offset.now ≡ saturated_usize (offset_in c.args.self.now c.args.name.now)) × (is_among c.args.name.now c.args.self.now ≡ true)
known c =
    look_up-some c.args.self.now c.args.name.now c.in-Some.offset.now
    (ap (λ names. offset_among names c.args.name.now) (sym c.self.view_is)
    ∙ sym (c.self.invariant.placed c.args.name)
    ∙ sym c.in-Some.ensures.value)

pub returns-in-Some-clause-offset : goal.returns-in-Some-clause-offset
returns-in-Some-clause-offset c = (known c).0

pub returns-in-Some-clause-names : goal.returns-in-Some-clause-names
returns-in-Some-clause-names c = sym (with_name-known c.args.self.now c.args.name.now (known c).1)

pub returns-clause-names : goal.returns-clause-names
returns-clause-names c =
    appended c ∙ sym (with_name-new (names_of c.self.inside) c.args.name.now (was_new c))
    ∙ ap (λ names. with_name names c.args.name.now) c.self.view_is

pub returns-clause-offset : goal.returns-clause-offset
returns-clause-offset c =
    c.self.invariant.is_length
    ∙ ap saturated_usize (sym (ap (λ l. offset_in l c.args.name.now) (appended c)
    ∙ offset_in-new (names_of c.self.inside) c.args.name.now (was_new c)))
