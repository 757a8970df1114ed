use Rattle.std.proofs.Common.{◌≡◌, ◌<◌, ◌∷◌, ◌++◌, length, flat_map, sym, ap, subst, ◌∙◌, arith, append-nil}
use Rattle.std.specs.Option.{option_map}
use Rattle.bi_edit.specs.Cuts.{from_byte}
use Rattle.bi_edit.specs.EditWords.{IsChildWord, slash_and_name}
use Rattle.bi_edit.specs.Places.{IsNodePath}
use Rattle.bi_edit.specs.Places.{names_of_path}
use Rattle.bi_common.proofs.UnshownNames.{some_holds}
use Rattle.bi_edit.proofs.Outcomes.{holds_of_none}
use Rattle.bi_edit.proofs.PathNames.{begins_of, count_of_names, less_left, names_of_more, no_child_word, path_grows, too_many}
use Rattle.bi_edit.proofs.words.paths.names_in.Goals as goal

pub loop-left-init : goal.loop-left-init
loop-left-init c = (
  subst (λ items. IsNodePath (names_of_path items)) (sym c.new-names.ensures.items) (record { are_names = tt; few = omega arith }),
  ap (λ items. flat_map slash_and_name (names_of_path items) ++ 47 ∷ c.args.text.now) c.new-names.ensures.items,
)

pub returns-in_default-2-clause-none : goal.returns-in_default-2-clause-none
returns-in_default-2-clause-none c =
    let names = names_of_path c.loop-left.names.items in
    no_child_word c.args.text.now names c.in-Some.rest.now c.cut.result.0.now (option_map (λ later. later.now) c.cut.result.1)
    c.loop-left.invariant.0 (begins_of names c.loop-left.left c.in-Some.rest c.args.text.now c.in-Some.is c.loop-left.invariant.1)
    c.cut.ensures (holds_of_none c.in_ok-name.field-0 c.in_default-2.is c.in_ok-name.ensures.none)

pub returns-then-len-eq-MOST_NAMES-clause-none : goal.returns-then-len-eq-MOST_NAMES-clause-none
returns-then-len-eq-MOST_NAMES-clause-none c =
    let names = names_of_path c.loop-left.names.items in
    let count = count_of_names c.loop-left.names.items in
    too_many c.args.text.now names c.in-Some.rest.now c.cut.result.0.now (option_map (λ later. later.now) c.cut.result.1)
    c.loop-left.invariant.0 (begins_of names c.loop-left.left c.in-Some.rest c.args.text.now c.in-Some.is c.loop-left.invariant.1)
    c.cut.ensures (omega (arith, count, c.len.ensures, c.if-len-eq-MOST_NAMES.true))

pub loop-left-preserved : goal.loop-left-preserved
loop-left-preserved c =
    let names = names_of_path c.loop-left.names.items in
    let later = option_map (λ later. later.now) c.cut.result.1 in
    let shown = c.cut.result.0.now in
    let grown = path_grows c.args.text.now names c.in-Some.rest.now shown later c.loop-left.invariant.0
    (begins_of names c.loop-left.left c.in-Some.rest c.args.text.now c.in-Some.is c.loop-left.invariant.1) c.cut.ensures
    c.in-Some-2.name.items
    (λ same. c.if-len-eq-MOST_NAMES.false (let count = count_of_names c.loop-left.names.items in omega (arith, count, same, c.len.ensures)))
    (some_holds (λ name. IsChildWord shown name.items) c.in_ok-name.field-0 c.in-Some-2.name c.in-Some-2.is c.in_ok-name.ensures.some) in
    subst (λ names. IsNodePath names × (flat_map slash_and_name names ++ from_byte 47 later ≡ 47 ∷ c.args.text.now))
    (sym (ap names_of_path c.in_ok-push.ensures.items ∙ names_of_more c.loop-left.names.items c.in-Some-2.name)) grown

pub loop-left-smaller : goal.loop-left-smaller
loop-left-smaller c =
    let names = names_of_path c.loop-left.names.items in
    let later = option_map (λ later. later.now) c.cut.result.1 in
    subst (λ left. length (from_byte 47 later) < length (from_byte 47 (option_map (λ rest. rest.now) left))) (sym c.in-Some.is)
    (less_left c.args.text.now names c.in-Some.rest.now c.cut.result.0.now later c.loop-left.invariant.0
    (begins_of names c.loop-left.left c.in-Some.rest c.args.text.now c.in-Some.is c.loop-left.invariant.1) c.cut.ensures)

pub returns-clause-some : goal.returns-clause-some
returns-clause-some c = record {
  is_path = c.loop-left.invariant.0;
  are = sym (append-nil (flat_map slash_and_name (names_of_path c.loop-left.names.items)))
      ∙ ap (λ left. flat_map slash_and_name (names_of_path c.loop-left.names.items) ++ from_byte 47 (option_map (λ rest. rest.now) left))
      (sym c.in_default.is) ∙ c.loop-left.invariant.1;
}
