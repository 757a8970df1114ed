use Rattle.std.specs.Prelude.{◌≡◌, ℕ, List, ◌++◌, flat_map, refl}
use Rattle.std.proofs.Common.{sym, subst, ◌∙◌}
use Rattle.std.proofs.lemmas.Grind.{flat_map-append}
use Rattle.bi_base.specs.Sinks.{AppendsInTurn, AppendsNothing}
use Rattle.bi_common.specs.declared.json_strings.StringPen.{StringPen}
use Rattle.bi_common.specs.Json.{string_byte}

-- A pen that puts bytes to another one as the bytes of a string.

-- What a pen for strings puts to the pen that it borrows.
abbrev pub StringPuts : {P : Type 0} → (P → List ℕ → P → Type 0) → StringPen P → List ℕ
    → StringPen P → Type 0
StringPuts puts old bytes new =
    (new.pen.ghost_name ≡ old.pen.ghost_name)
    × puts old.pen.now (flat_map string_byte bytes) new.pen.now

-- Bytes that are put in turn are put together.
pub string_puts_nothing : {P : Type 0} (puts : P → List ℕ → P → Type 0) → AppendsNothing puts
    → AppendsNothing (StringPuts puts)
string_puts_nothing puts nothing a = (refl, nothing a.pen.now)

pub string_puts_in_turn : {P : Type 0} (puts : P → List ℕ → P → Type 0) → AppendsInTurn puts
    → AppendsInTurn (StringPuts puts)
string_puts_in_turn puts in_turn a b c xs ys (same, first) (same_next, second) = (
  same_next ∙ same,
  subst (λ (text : List ℕ). puts a.pen.now text c.pen.now) (sym (flat_map-append string_byte xs ys))
      (in_turn a.pen.now b.pen.now c.pen.now _ _ first second),
)
