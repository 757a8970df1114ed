use Rattle.std.proofs.Common.{◌≡◌, ℕ, Option, Result, Ok, Err, IfSome, subst, sym}
use Rattle.std.specs.Result.{OkIff, result_ok}

-- A code that is a number is the number that the conversion returns, if it fits.

-- A number that fits is the result of converting it.
pub number_that_fits : {E : Type 0} (Fits : Type 0) (n : ℕ) (converted : Result ℕ E) (result : Option ℕ) (Is : ℕ → Type 0) →
    result ≡ result_ok converted → OkIff converted Fits n → (Fits → Is n) → IfSome result Is
number_that_fits Fits n (Ok value) result Is same is holds =
    subst (λ (o : Option ℕ). IfSome o Is) (sym same) (subst Is (sym is.1) (holds is.0))
number_that_fits Fits n (Err error) result Is same is holds = subst (λ (o : Option ℕ). IfSome o Is) (sym same) tt
