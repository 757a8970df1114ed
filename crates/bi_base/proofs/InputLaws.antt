use Rattle.std.proofs.Common.{◌≡◌, ℕ, ◌<◌, List, length, Option, Some, None, refl, ap, arith}
use Rattle.std.proofs.lemmas.List.{length-append}
use Rattle.std.specs.Io.KnownBytes.{Consumes}
use Rattle.bi_base.specs.Reading.{IsInput, too_large}
use Rattle.bi_base.specs.declared.fault.Fault.{Fault}

-- If more bytes are read than the limit, the input is longer than the limit.

-- Where more bytes were read than may be, the input is longer than that.
pub too_long : (old new : Option (List ℕ)) (most : ℕ) (taken : List ℕ) (fault : Fault) → Consumes old new taken → most < length taken →
    fault ≡ too_large most → (input : List ℕ) × IsInput old input × (most < length input) × (fault ≡ too_large most)
too_long None new most taken fault consumed longer is = (taken, tt, longer, is)
too_long (Some xs) None most taken fault consumed longer is = absurd consumed
too_long (Some xs) (Some ys) most taken fault consumed longer is =
    (xs, refl, omega (arith, ap length consumed, length-append taken ys, longer), is)
