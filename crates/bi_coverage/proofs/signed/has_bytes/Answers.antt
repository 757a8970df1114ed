use Rattle.std.proofs.Common.{List, ℕ, Option, Bor, not, sym, ap, ◌∙◌}
use Rattle.std.specs.Option.{option_map}
use Rattle.bi_coverage.specs.Signatures.{has_bytes}
use Rattle.bi_coverage.proofs.Meanings.{has_some}
use Rattle.bi_coverage.proofs.signed.has_bytes.Goals as goal

pub returns-in-Some : goal.returns-in-Some
returns-in-Some c =
    ap not c.is_empty.ensures ∙ has_some c.in-Some.value.now
    ∙ ap (λ (value : Option (Bor (List ℕ))). has_bytes (option_map (λ value. value.now) value)) (sym c.in-Some.is)
